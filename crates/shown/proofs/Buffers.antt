-- Laws of the lent buffers: what it is that they suffice, and what was read into the input's stands for the whole input.
use Prim.Native.Nat.{ℕ, ◌≤◌, ◌<◌}
use native.Mathlib.Omega.{arith}
use mathlib.Core.Path.{◌≡◌, refl, sym, ap, ap₂, ◌∙◌}
use mathlib.Core.Bool.{Bool, true, false}
use mathlib.Core.List.{List, ◌++◌}
use lib.Dec.{leb, eqb}
use lib.ListN.{length, take, drop, length-append, take-append-drop}
use lib.Seq.{take_all, length-take-le}
use borrow.Author.Tests.{leb-true, le-leb, eqb-true, eq-eqb}
use Rattle.words.proofs.Tests.{both, never}
use Rattle.listed.specs.Listing.{longest_book, plan_room, ReadInto}
use Rattle.told.specs.Told.{book_lines, start_line}
use Rattle.shown.specs.Shown.{input_room, out_room, refusal_line, book_text, Shows, too_long, sheet_refused, book-said}
use Rattle.shown.specs.Shown.{Shown, suffices, Answers}
use Rattle.shown.proofs.Unique.{shows_unique, shows_front}

-- the lengths that suffice
pub record Enough (buffer size out book plan : ℕ) : Type 0 where
  pub decides : input_room ≤ buffer
  pub read : size ≤ buffer
  pub lines : out_room ≤ out
  pub bytes : book ≡ longest_book
  pub cells : plan ≡ plan_room

pub suffices_enough : (buffer size out book plan : ℕ) → suffices buffer size out book plan ≡ true → Enough buffer size out book plan
suffices_enough buffer size out book plan e =
    let (four, cells) = both _ (eqb plan plan_room) e in
    let (three, bytes) = both _ (eqb book longest_book) four in
    let (two, lines) = both _ (leb out_room out) three in
    let (decides, read) = both (leb input_room buffer) (leb size buffer) two in
    record {
      decides = leb-true _ _ decides;
      read = leb-true _ _ read;
      lines = leb-true _ _ lines;
      bytes = eqb-true _ _ bytes;
      cells = eqb-true _ _ cells;
    }

pub enough_suffices : {buffer size out book plan : ℕ} → Enough buffer size out book plan → suffices buffer size out book plan ≡ true
enough_suffices {buffer} {size} {out} {book} {plan} enough =
    simp (
      le-leb input_room buffer enough.decides,
      le-leb size buffer enough.read,
      le-leb out_room out enough.lines,
      eq-eqb book longest_book enough.bytes,
      eq-eqb plan plan_room enough.cells,
    )

-- ---- what is written

-- something, for every input
pub shows_bytes : {input bytes : List ℕ} → Shows input bytes → 0 < length bytes
unfolding refusal_line book_text book_lines start_line
shows_bytes (too_long _) = omega arith
shows_bytes (sheet_refused _ _ _) = omega arith
shows_bytes (book-said _ _ _ _ _) = simp length-append (omega arith)

module _ {input before : List ℕ} where
  -- as many bytes as are counted
  front : {after : List ℕ} {count : ℕ} → Shown input before after count → count ≡ length (take count after)
  front {after} {count} shown = sym (length-take-le count after shown.within)

  whole : {after : List ℕ} {count : ℕ} → Shown input before after count → after ≡ take count after ++ drop count before
  whole {after} {count} shown = sym (take-append-drop count after) ∙ ap (λ (rest : List ℕ). take count after ++ rest) shown.rest

  -- its count and its bytes are determined
  pub shown_unique : {after after' : List ℕ} {count count' : ℕ}
      → Shown input before after count
      → Shown input before after' count'
      → (count ≡ count') × (after ≡ after')
  shown_unique {count = count} {count'} one other =
      let same = shows_unique one.shows other.shows in
      let counts : count ≡ count' = front one ∙ ap length same ∙ sym (front other) in
      (counts, whole one ∙ ap₂ (λ (bytes : List ℕ) (n : ℕ). bytes ++ drop n before) same counts ∙ sym (whole other))

-- ---- what was read

-- a buffer of the bytes that decide: what is written for what was read is written for the whole input
read_shown : {input buffer out after : List ℕ} {size count : ℕ}
    → input_room ≤ length buffer
    → Shown (take size buffer) out after count
    → ReadInto input buffer size
    → Shown input out after count
read_shown {input} {buffer} decides shown read =
    record {
      within = shown.within;
      shows = shows_front (length buffer) input decides (rw read.front at shown.shows);
      rest = shown.rest;
    }

-- the bytes that were read, as an input of their own
read_itself : (buffer : List ℕ) (size : ℕ) → size ≤ length buffer → ReadInto (take size buffer) buffer size
read_itself buffer size within =
    record { front = sym (take_all (length buffer) (take size buffer) (rw (length-take-le size buffer within) within)) }

module _ (buffer : List ℕ) (size : ℕ) (out book plan : List ℕ) where
  abbrev fit : Bool
  fit = suffices (length buffer) size (length out) (length book) (length plan)

  abbrev Fits : Type 0
  Fits = Enough (length buffer) size (length out) (length book) (length plan)

  -- buffers that do not suffice
  pub answers_nothing : fit ≡ false → Answers buffer size out book plan out 0
  answers_nothing e = record { shown = λ is. never (sym e ∙ is); nothing = λ _. (refl, refl) }

  module _ {after : List ℕ} {count : ℕ} where
    -- buffers that suffice, and what is written for the bytes that were read
    pub answers_shown : Fits → Shown (take size buffer) out after count → Answers buffer size out book plan after count
    answers_shown fits shown =
        record {
          shown = λ _ input read. read_shown fits.decides shown read;
          nothing = λ is. never (sym is ∙ enough_suffices fits);
        }

    -- and then something is written, within the output
    pub answers_some : Fits → Answers buffer size out book plan after count → (0 < count) × (count ≤ length after)
    answers_some fits answers =
        let shown = answers.shown (enough_suffices fits) _ (read_itself buffer size fits.read) in
        (omega (arith, front shown, shows_bytes shown.shows), shown.within)

    -- the answer and the output after it are determined
    pub answers_unique : {after' : List ℕ} {count' : ℕ}
        → Answers buffer size out book plan after count
        → Answers buffer size out book plan after' count'
        → (count ≡ count') × (after ≡ after')
    answers_unique {after'} {count'} one other = by_lengths fit refl
      where
        by_lengths : (test : Bool) → fit ≡ test → (count ≡ count') × (after ≡ after')
        by_lengths true e =
            let fits : Fits = suffices_enough _ _ _ _ _ e in
            let itself = read_itself buffer size fits.read in
            shown_unique (one.shown e _ itself) (other.shown e _ itself)
        by_lengths false e = ((one.nothing e).0 ∙ sym (other.nothing e).0, (one.nothing e).1 ∙ sym (other.nothing e).1)
