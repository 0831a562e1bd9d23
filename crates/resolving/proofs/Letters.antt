-- Walks past the bytes that meet a test: letters, blanks, and what stands before a `;`.
use mathlib.Core.Path.{◌≡◌, refl, sym, ap, ◌∙◌}
use mathlib.Core.Bool.{Bool, true, false, not, cond, ◌&&◌}
use mathlib.Core.List.{List, [], ◌∷◌}
use Prim.Native.Nat.{ℕ, zero, suc, ◌+◌, ◌-◌, ◌≤◌, ◌<◌, min}
use native.Mathlib.Decide.{ℕ_discrete}
use native.Mathlib.Omega.{arith}
use borrow.Author.Tests.{leb-true, leb-false, ltb-true, ltb-false, eqb-true, eq-eqb, ne_eqb}
use lib.Dec.{leb, ltb, eqb}
use lib.ListN.{length, get_or, take, drop, length-drop, drop_of_length-le}
use lib.Pointwise.{pointwise}
use lib.Seq.{drop-cons, get_or-drop}
use Rattle.std.proofs.lemmas.List.{take_all}
use Rattle.words.proofs.Tests.{both, never}
use Rattle.sheets.specs.Text.{letter, blank, same}
use Rattle.sheets.proofs.Words.{same_self, same_other}
use Rattle.spelling.specs.Places.{byte_at, PastRow}
use Rattle.resolving.specs.Letters.{letters_in, word_at}
use Rattle.resolving.specs.Lines.{blanks_in, rule_in, past_blanks, past_rule}

-- what holds of the list from the place on which such a walk begins
module _ {text : List ℕ} (test : ℕ → Bool) (P : ℕ → List ℕ → Type 0) (none : P 0 [])
    (stop : (byte : ℕ) (more : List ℕ) → test byte ≡ false → P 0 (byte ∷ more))
    (step : (n byte : ℕ) (more : List ℕ) → test byte ≡ true → P n more → P (suc n) (byte ∷ more)) where
  walk : {at to : ℕ} → PastRow text (λ byte meets. meets ≡ test byte) at to → P (to - at) (drop at text)
  walk {at} {to} p = let low = p.low in go (to - at) at (omega arith) (omega arith)
    where
      ends : (t : Bool) → ltb to (length text) ≡ t → P 0 (drop to text)
      ends true e =
          let below = ltb-true to (length text) e in
          rw (drop-cons text to 0 below) (stop (byte_at text to) _ (sym (p.over below)))
      ends false e = rw (drop_of_length-le text (ltb-false to (length text) e)) none

      go : (n from : ℕ) → at ≤ from → from + n ≡ to → P n (drop from text)
      go zero from low is = let here : from ≡ to = omega arith in rw here (ends (ltb to (length text)) refl)
      go (suc n) from low is =
          let one = p.each from low (omega arith) in
          rw (drop-cons text from 0 one.1) (step n (byte_at text from) _ (sym one.0) (go n (suc from) (omega arith) (omega arith)))

-- a place that is cut at the end of the text
cut_place : (text : List ℕ) (place : ℕ) {from : ℕ} → from ≡ min place (length text) → drop from text ≡ drop place text
cut_place text place {from} is = go (leb (length text) place) refl
  where
    go : (t : Bool) → leb (length text) place ≡ t → drop from text ≡ drop place text
    go true e =
        let past : length text ≤ place = leb-true _ _ e in
        let end : from ≡ length text = omega arith in
        let whole : drop (length text) text ≡ [] = drop_of_length-le text (omega arith) in
        rw (end, drop_of_length-le text past, whole)
    go false e =
        let below = leb-false (length text) place e in
        let here : from ≡ place = omega arith in
        rw here

module _ {text : List ℕ} {from to : ℕ} where
  -- past the letters a word ends
  letters_taken : PastRow text (λ byte meets. meets ≡ letter byte) from to → take (to - from) (drop from text) ≡ word_at text from
  unfolding word_at letters_in
  letters_taken p =
      walk letter (λ n l. take n l ≡ letters_in l) refl (λ byte more is. rw is) (λ n byte more is so_far. rw (is, so_far)) p

  pub word_taken : (place : ℕ) → from ≡ min place (length text) → PastRow text (λ byte meets. meets ≡ letter byte) from to
      → {end : ℕ} → end ≡ to → take (end - from) (drop from text) ≡ word_at text place
  unfolding word_at
  word_taken place is p end-is = rw end-is (letters_taken p ∙ ap letters_in (cut_place text place is))

  -- past the blanks
  pub blanks_passed : PastRow text (λ byte meets. meets ≡ blank byte) from to → to ≡ past_blanks text from
  unfolding past_blanks blanks_in
  blanks_passed p =
      let low = p.low in
      let n = walk blank (λ n l. n ≡ blanks_in l) refl (λ byte more is. rw is) (λ n byte more is so_far. rw (is, ← so_far)) p in
      omega arith

  -- past what stands before a `;`
  pub by_test : {Meets : ℕ → Bool → Type 0} (test : ℕ → Bool) → ((byte : ℕ) (r : Bool) → Meets byte r → r ≡ test byte)
      → PastRow text Meets from to → PastRow text (λ byte meets. meets ≡ test byte) from to
  by_test test says p =
      record {
        low = p.low;
        high = p.high;
        each = λ k low below. let q = p.each k low below in (says _ _ q.0, q.1);
        over = λ below. says _ _ (p.over below);
      }

  module _ (p : PastRow text (λ byte meets. meets ≡ not (eqb byte 59)) from to) where
    before_end : (length (drop from text) ≤ to - from → rule_in (drop from text) ≡ to - from)
        × (to - from < length (drop from text) → rule_in (drop from text) ≡ suc (to - from))
    unfolding rule_in
    before_end =
        walk (λ byte. not (eqb byte 59))
        (λ n l. (length l ≤ n → rule_in l ≡ n) × (n < length l → rule_in l ≡ suc n))
        (λ past. refl, λ below. absurd (omega arith))
        (λ byte more is. (λ past. absurd (omega arith), λ below. rw (ends (eqb byte 59) is)))
        (λ n byte more is so_far. (
          λ past. rw (goes (eqb byte 59) is) (ap suc (so_far.0 (omega arith))),
          λ below. rw (goes (eqb byte 59) is) (ap suc (so_far.1 (omega arith))),
        ))
        p
      where
        ends : (t : Bool) → not t ≡ false → t ≡ true
        ends true is = refl
        ends false is = sym is

        goes : (t : Bool) → not t ≡ true → t ≡ false
        goes true is = sym is
        goes false is = refl

    pub rule_passed : to < length text → to + 1 ≡ past_rule text from
    unfolding past_rule
    rule_passed below =
        let low = p.low in
        omega (arith, before_end.1 (omega (arith, length-drop from text)))

    pub rule_missed : length text ≤ to → to ≡ past_rule text from
    unfolding past_rule
    rule_missed past =
        let low = p.low in
        omega (arith, before_end.0 (omega (arith, length-drop from text)))

-- a word and the letters that a list begins with: the list begins otherwise, a letter stands behind the word, or none does
no_letter_0 : letter 0 ≡ false
unfolding letter
no_letter_0 = refl

and_none : (t : Bool) → (t && false) ≡ false
and_none true = refl
and_none false = refl

begins_else : (w l : List ℕ) → pointwise eqb w (take (length w) l) ≡ false → same w (letters_in l) ≡ false
unfolding same letters_in
begins_else [] l other = never (sym other)
begins_else (a ∷ w) [] other = refl
begins_else (a ∷ w) (b ∷ l) other = go (letter b) (eqb a b) refl (begins_else w l)
  where
    go : (s t : Bool) → eqb a b ≡ t → (pointwise eqb w (take (length w) l) ≡ false → same w (letters_in l) ≡ false)
        → same (a ∷ w) (cond s (b ∷ letters_in l) []) ≡ false
    go false t is rest = refl
    go true false is rest = rw is
    go true true is rest = rw is (rest (rw is at other))

letter_behind : (w l : List ℕ) → letter (get_or l (length w) 0) ≡ true → same w (letters_in l) ≡ false
unfolding same letters_in
letter_behind [] [] is = never (sym no_letter_0 ∙ is)
letter_behind [] (b ∷ l) is = rw is
letter_behind (a ∷ w) [] is = refl
letter_behind (a ∷ w) (b ∷ l) is = go (letter b) (letter_behind w l is)
  where
    go : (s : Bool) → same w (letters_in l) ≡ false → same (a ∷ w) (cond s (b ∷ letters_in l) []) ≡ false
    go false none = refl
    go true none = rw none (and_none (eqb a b))

none_behind : (w l : List ℕ) → pointwise eqb w (take (length w) l) ≡ true → letter (get_or l (length w) 0) ≡ false
    → letters_in l ≡ letters_in w
unfolding letters_in
none_behind [] [] begins none = refl
none_behind [] (b ∷ l) begins none = rw none
none_behind (a ∷ w) [] begins none = never begins
none_behind (a ∷ w) (b ∷ l) begins none =
    let t = both (eqb a b) (pointwise eqb w (take (length w) l)) begins in
    rw (eqb-true a b t.0, none_behind w l t.1 none)

all_letters : (w : List ℕ) → length (letters_in w) ≡ length w → w ≡ letters_in w
unfolding letters_in
all_letters [] is = refl
all_letters (a ∷ w) is = go (letter a) is (all_letters w)
  where
    go : (s : Bool) → length (cond s (a ∷ letters_in w) []) ≡ suc (length w) → (length (letters_in w) ≡ length w → w ≡ letters_in w)
        → (a ∷ w) ≡ cond s (a ∷ letters_in w) []
    go true is rest = ap (λ (l : List ℕ). a ∷ l) (rest (omega arith))
    go false is rest = absurd (omega arith)

-- a word is its own letters where it has as many
own_letters : (w : List ℕ) → eqb (length (letters_in w)) (length w) ≡ same w (letters_in w)
own_letters w = go (ℕ_discrete (length (letters_in w)) (length w))
  where
    go : Dec (length (letters_in w) ≡ length w) → eqb (length (letters_in w)) (length w) ≡ same w (letters_in w)
    go (yes whole) = rw (eq-eqb _ _ whole, ← all_letters w whole) (sym (same_self w))
    go (no other) = rw (ne_eqb _ _ other, same_other w (letters_in w) (λ is. other (sym (ap length is)))) refl

module _ (text word : List ℕ) (place : ℕ) {from : ℕ} (is : from ≡ min place (length text)) where
  abbrev Begins : Bool → Type 0
  Begins t = pointwise eqb word (take (length word) (take (length text - from) (drop from text))) ≡ t

  rest : take (length text - from) (drop from text) ≡ drop from text
  rest = take_all (length text - from) (drop from text) (omega (arith, length-drop from text))

  pub begins_otherwise : Begins false → false ≡ same word (word_at text place)
  unfolding word_at
  begins_otherwise other = rw (← cut_place text place is) (sym (begins_else word (drop from text) (rw rest at other)))

  pub goes_further : {byte : ℕ} → byte ≡ byte_at text (from + length word) → letter byte ≡ true → false ≡ same word (word_at text place)
  unfolding word_at
  goes_further here letters =
      rw (← cut_place text place is)
      (sym (letter_behind word (drop from text) (rw (here, ← get_or-drop from text (length word) 0) at letters)))

  pub ends_there : Begins true → {byte : ℕ} → byte ≡ byte_at text (from + length word)
      → letter byte ≡ false → {own : List ℕ} → own ≡ word_at word 0
      → eqb (length own) (length word) ≡ same word (word_at text place)
  unfolding word_at
  ends_there begins here none own-is =
      let stops = rw (here, ← get_or-drop from text (length word) 0) at none in
      rw (← cut_place text place is, own-is, none_behind word (drop from text) (rw rest at begins) stops) (own_letters word)
