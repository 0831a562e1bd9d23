-- Going from rule to rule, and the names passed.
use mathlib.Core.Path.{◌≡◌, refl, sym, ◌∙◌}
use mathlib.Core.Bool.{Bool, true, false, cond, ◌||◌}
use mathlib.Core.List.{List}
use Prim.Native.Nat.{ℕ, zero, suc, ◌+◌, ◌<◌}
use native.Mathlib.Decide.{ℕ_discrete}
use native.Mathlib.Numerals.{add-one}
use native.Mathlib.Omega.{arith}
use lib.Dec.{eqb}
use lib.ListN.{length, get_or, drop}
use lib.Seq.{drop-cons}
use Rattle.words.proofs.Tests.{or_right}
use Rattle.sheets.specs.Text.{same}
use Rattle.sheets.specs.Nodes.{among}
use Rattle.resolving.specs.Letters.{word_at}
use Rattle.resolving.specs.Lines.{blanks_in, rule_in, past_blanks, past_rule, rule_at, names_before, NewBefore}

module _ (text : List ℕ) where
  -- the next rule begins behind
  pub goes_on : {at : ℕ} → at < length text → at < past_blanks text (past_rule text at)
  unfolding past_blanks past_rule rule_in
  goes_on {at} below = rw (drop-cons text at 0 below) (go (eqb (get_or text at 0) 59) refl)
    where
      go : (t : Bool) → eqb (get_or text at 0) 59 ≡ t
          → at < at + cond (eqb (get_or text at 0) 59) 1 (suc (rule_in (drop (suc at) text)))
          + blanks_in (drop (at + cond (eqb (get_or text at 0) 59) 1 (suc (rule_in (drop (suc at) text)))) text)
      go true is = rw is (omega arith)
      go false is = rw is (omega arith)

  pub behind : {at past next : ℕ} → past ≡ past_rule text at → next ≡ past_blanks text past → at < length text → at < next
  behind passed then below = rw (then, passed) (goes_on below)

  -- the first rule, and the next one
  pub rule_first : past_blanks text 0 ≡ rule_at text 0
  unfolding rule_at
  rule_first = refl

  pub rule-next : (n : ℕ) {at past next : ℕ} → at ≡ rule_at text n → past ≡ past_rule text at → next ≡ past_blanks text past
      → next ≡ rule_at text (n + 1)
  unfolding rule_at
  rule-next n is passed then = then ∙ rw (passed, is, add-one)

  -- the names of earlier rules
  module _ (letters : List ℕ) where
    pub not_before_none : false ≡ among letters (names_before text 0)
    unfolding names_before among
    not_before_none = refl

    pub not_before_more : (n : ℕ) {at : ℕ} → at ≡ rule_at text n → same letters (word_at text at) ≡ false
        → false ≡ among letters (names_before text n)
        → false ≡ among letters (names_before text (n + 1))
    unfolding names_before among
    not_before_more n is other none = rw (add-one, ← is, other) none

    pub before_here : (n : ℕ) {m at : ℕ} → at ≡ rule_at text m → same letters (word_at text at) ≡ true → m < n
        → among letters (names_before text n) ≡ true
    unfolding names_before among
    before_here zero is test below = absurd (omega arith)
    before_here (suc n) {m} is test below = go (ℕ_discrete m n) (λ earlier. before_here n is test earlier)
      where
        go : Dec (m ≡ n) → (m < n → among letters (names_before text n) ≡ true)
            → (same letters (word_at text (rule_at text n)) || among letters (names_before text n)) ≡ true
        go (yes here) rest = rw (← here, ← is, test)
        go (no other) rest = or_right (same letters (word_at text (rule_at text n))) _ (rest (omega arith))

  -- no rule is passed yet, or one more, whose name no earlier one has
  pub new_none : NewBefore text 0
  new_none = record { each_within = λ m below. absurd (omega arith); each_new = λ m below. absurd (omega arith) }

  pub new_more : {n at : ℕ} → NewBefore text n → at ≡ rule_at text n → at < length text
      → false ≡ among (word_at text at) (names_before text n) → NewBefore text (n + 1)
  new_more {n} {at} earlier is within new =
      record {
        each_within = λ m below. elim (ℕ_discrete m n) [
          | yes here ↦ rw (here, ← is) within
          | no other ↦ earlier.each_within m (omega arith)
        ];
        each_new = λ m below. elim (ℕ_discrete m n) [
          | yes here ↦ rw (here, ← is) (sym new)
          | no other ↦ earlier.each_new m (omega arith)
        ];
      }
