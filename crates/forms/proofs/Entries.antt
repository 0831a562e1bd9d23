-- Contents compared and written entry by entry: the laws of both loops.
use mathlib.Core.Path.{◌≡◌, refl, sym, ap, ◌∙◌}
use mathlib.Core.Bool.{Bool, true, false, ◌&&◌}
use mathlib.Core.List.{List, [], ◌∷◌}
use Prim.Native.Nat.{ℕ, ◌+◌, ◌≤◌, ◌<◌}
use native.Mathlib.Numerals.{add-one}
use native.Mathlib.Omega.{arith}
use borrow.Author.Tests.{eq-eqb}
use lib.ListN.{length, get_or, drop, drop_of_length-le}
use lib.Seq.{sets, length-sets, drop-cons}
use Rattle.words.specs.Words.{u16_at, with_u16, word_bytes}
use Rattle.words.proofs.Stored.{sets_then, sets_word}
use Rattle.forms.specs.Forms.{past, contents_size, form_size, entries_from, contents_of, words_are, contents_are}
use Rattle.forms.proofs.Contents.{past_least}

-- a walk over the sections of a form has come to one, with its offset
pub record Reached (sizes : List ℕ) (offset i : ℕ) : Type 0 where
  pub within : i ≤ length sizes
  pub due : past offset (drop i sizes) ≡ form_size sizes

pub reached_first : (sizes : List ℕ) → Reached sizes (contents_size (length sizes)) 0
reached_first sizes = record { within = omega arith; due = refl }

module _ {sizes : List ℕ} {offset i : ℕ} (r : Reached sizes offset i) where
  -- what is due at a section that is there
  first_due : i < length sizes → drop i sizes ≡ get_or sizes i 0 ∷ drop (i + 1) sizes
  first_due below = rw add-one (drop-cons sizes i 0 below)

  pub reached_next : i < length sizes → Reached sizes (offset + get_or sizes i 0) (i + 1)
  reached_next below = record { within = omega arith; due = rw (first_due below) at r.due }

  -- its bytes are within the form's
  pub section_within : i < length sizes → offset + get_or sizes i 0 ≤ form_size sizes
  section_within below = omega (arith, past_least (offset + get_or sizes i 0) (drop (i + 1) sizes), (reached_next below).due)

  pub entry_within : i < length sizes → contents_size i + 6 ≤ form_size sizes
  entry_within below = omega (arith, past_least (contents_size (length sizes)) sizes)

  pub none_due : length sizes ≤ i → drop i sizes ≡ []
  none_due past_all = drop_of_length-le sizes {i = i} past_all

  pub entries_due : i < length sizes
      → entries_from (i + 1) offset (drop i sizes)
      ≡ (i + 1) ∷ offset ∷ get_or sizes i 0 ∷ entries_from (i + 1 + 1) (offset + get_or sizes i 0) (drop (i + 1) sizes)
  entries_due below = rw (first_due below)

-- an entry's place from the one before it
next_place : (i : ℕ) → contents_size i + 6 ≡ contents_size (i + 1)
next_place i = omega arith

-- ---- compared

and_assoc : (a b c : Bool) → ((a && b) && c) ≡ (a && (b && c))
and_assoc true b c = refl
and_assoc false b c = refl

and-true : (a : Bool) → (a && true) ≡ a
and-true true = refl
and-true false = refl

-- an entry is three numbers compared, before those behind it
module _ (bytes : List ℕ) (at section offset size : ℕ) where
  six_on : at + 2 + 2 + 2 ≡ at + 6
  six_on = omega arith

  four_on : at + 2 + 2 ≡ at + 4
  four_on = omega arith

  entries_compared : (more : List ℕ)
      → words_are bytes at (section ∷ offset ∷ size ∷ more)
      ≡ (words_are bytes at (section ∷ offset ∷ size ∷ []) && words_are bytes (at + 6) more)
  entries_compared more = rw (six_on, four_on, and-true) (simp (and_assoc))

-- the entries before a section stand in the bytes, those from it on decide the answer
pub record Compared (bytes sizes : List ℕ) (offset i : ℕ) : Type 0 where
  pub reached : Reached sizes offset i
  pub rest : words_are bytes (contents_size i) (entries_from (i + 1) offset (drop i sizes)) ≡ contents_are bytes sizes

pub compared_first : (bytes sizes : List ℕ) → u16_at bytes 0 ≡ length sizes → Compared bytes sizes (contents_size (length sizes)) 0
compared_first bytes sizes is = record { reached = reached_first sizes; rest = rw (eq-eqb (u16_at bytes 0) (length sizes) is) refl }

module _ {bytes sizes : List ℕ} {offset i : ℕ} (c : Compared bytes sizes offset i) (below : i < length sizes) where
  -- the entry of the section reached, and those behind it
  here : (words_are bytes (contents_size i) ((i + 1) ∷ offset ∷ get_or sizes i 0 ∷ [])
      && words_are bytes (contents_size i + 6) (entries_from (i + 1 + 1) (offset + get_or sizes i 0) (drop (i + 1) sizes)))
      ≡ contents_are bytes sizes
  here =
      sym (entries_compared bytes (contents_size i) (i + 1) offset (get_or sizes i 0) _)
      ∙ ap (words_are bytes (contents_size i)) (sym (entries_due c.reached below)) ∙ c.rest

  pub compared_bad : words_are bytes (contents_size i) ((i + 1) ∷ offset ∷ get_or sizes i 0 ∷ []) ≡ false → false ≡ contents_are bytes sizes
  compared_bad bad = rw bad at here

  pub compared_next : words_are bytes (contents_size i) ((i + 1) ∷ offset ∷ get_or sizes i 0 ∷ []) ≡ true
      → Compared bytes sizes (offset + get_or sizes i 0) (i + 1)
  compared_next good = record { reached = reached_next c.reached below; rest = rw (good, next_place i) at here }

pub compared_all : {bytes sizes : List ℕ} {offset i : ℕ} → Compared bytes sizes offset i → length sizes ≤ i → true ≡ contents_are bytes sizes
compared_all c past_all = rw (none_due c.reached past_all) at c.rest

-- ---- written

-- a contents entry is a run of three numbers
pub entry_stored : (l : List ℕ) {one two three : List ℕ} (at section offset size : ℕ) → one ≡ with_u16 l at section
    → two ≡ with_u16 one (at + 2) offset → three ≡ with_u16 two (at + 4) size → three ≡ sets l at (word_bytes (section ∷ offset ∷ size ∷ []))
unfolding word_bytes
entry_stored l at section offset size first second third =
    third
    ∙ rw (second, first, sets_word l at section, sets_word _ (at + 2) offset, sets_word _ (at + 4) size)
    (ap (λ (m : List ℕ). sets m (at + 4) (word_bytes (size ∷ [])))
    (sets_then l at (word_bytes (section ∷ [])) (at + 2) (word_bytes (offset ∷ [])) refl)
    ∙ sets_then l at (word_bytes (section ∷ offset ∷ [])) (at + 4) (word_bytes (size ∷ [])) refl)

-- the entries before a section are written, those from it on are due
pub record Entered (before after sizes : List ℕ) (offset i : ℕ) : Type 0 where
  pub reached : Reached sizes offset i
  pub rest : sets after (contents_size i) (word_bytes (entries_from (i + 1) offset (drop i sizes)))
      ≡ sets before 2 (word_bytes (entries_from 1 (contents_size (length sizes)) sizes))
  pub long : length after ≡ length before

pub entered_first : (before sizes : List ℕ) → Entered before before sizes (contents_size (length sizes)) 0
entered_first before sizes = record { reached = reached_first sizes; rest = refl; long = refl }

module _ {before after sizes : List ℕ} {offset i : ℕ} (e : Entered before after sizes offset i) where
  pub entered_next : {next : List ℕ} → i < length sizes
      → next ≡ sets after (contents_size i) (word_bytes ((i + 1) ∷ offset ∷ get_or sizes i 0 ∷ []))
      → Entered before next sizes (offset + get_or sizes i 0) (i + 1)
  unfolding word_bytes
  entered_next below is =
      let entry = word_bytes ((i + 1) ∷ offset ∷ get_or sizes i 0 ∷ []) in
      let due = word_bytes (entries_from (i + 1 + 1) (offset + get_or sizes i 0) (drop (i + 1) sizes)) in
      record {
        reached = reached_next e.reached below;
        rest =
            rw is (sets_then after (contents_size i) entry (contents_size (i + 1)) due (sym (next_place i)))
            ∙ ap (λ (l : List ℕ). sets after (contents_size i) (word_bytes l)) (sym (entries_due e.reached below)) ∙ e.rest;
        long = ap length is ∙ length-sets after (contents_size i) entry ∙ e.long;
      }

  entered_last : length sizes ≤ i → after ≡ sets before 2 (word_bytes (entries_from 1 (contents_size (length sizes)) sizes))
  unfolding word_bytes
  entered_last past_all = rw (none_due e.reached past_all) at e.rest

  -- with the number of sections before them, the entries are the contents
  pub entered_all : (empty : List ℕ) → before ≡ with_u16 empty 0 (length sizes) → length sizes ≤ i
      → after ≡ sets empty 0 (word_bytes (contents_of sizes))
  unfolding word_bytes
  entered_all empty is past_all =
      let entries = word_bytes (entries_from 1 (contents_size (length sizes)) sizes) in
      entered_last past_all ∙ ap (λ (l : List ℕ). sets l 2 entries) (is ∙ sets_word empty 0 (length sizes))
      ∙ sets_then empty 0 (word_bytes (length sizes ∷ [])) 2 entries refl
