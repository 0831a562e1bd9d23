-- Words compared, and where they end.
use Prim.Native.Nat.{ℕ, ◌-◌, ◌<◌}
use native.Mathlib.Omega.{arith}
use mathlib.Core.Path.{◌≡◌, refl, sym, ap, ◌∙◌}
use mathlib.Core.Bool.{Bool, true, false, false≢true, ◌&&◌}
use mathlib.Core.List.{List, [], ◌∷◌}
use borrow.Author.Tests.{ltb-true, ltb-false}
use lib.Dec.{eqb, ltb}
use lib.ListN.{take, drop}
use lib.Pointwise.{pointwise}
use Rattle.sheets.specs.Text.{same, empty_word}
use Rattle.spelling.specs.Places.{letters_at, LettersTo}

-- slices are the same as words are
pub same_words : (xs ys : List ℕ) → pointwise eqb xs ys ≡ same xs ys
unfolding same
same_words [] [] = refl
same_words [] (y ∷ ys) = refl
same_words (x ∷ xs) [] = refl
same_words (x ∷ xs) (y ∷ ys) = ap (λ (b : Bool). eqb x y && b) (same_words xs ys)

-- the letters from a place up to another, compared with `empty`
pub told_empty : (text : List ℕ) (at end : ℕ) {to : ℕ} {given : List ℕ} {r : Bool} → given ≡ empty_word
    → r ≡ pointwise eqb (take (to - at) (drop at text)) given → to ≡ end → r ≡ same (letters_at text at end) empty_word
told_empty text at end given_is r_is to_is = r_is ∙ rw (to_is, given_is) (same_words (letters_at text at end) empty_word)

-- a row of letters ends at one place
pub letters_unique : {text : List ℕ} {at a b : ℕ} → LettersTo text at a → LettersTo text at b → a ≡ b
letters_unique {text} {at} {a} {b} p q = go (ltb a b) (ltb b a) refl refl
  where
    shorter : {x y : ℕ} → LettersTo text at x → LettersTo text at y → x < y → ⊥
    shorter {x} r s below = false≢true (sym r.past ∙ s.letters x r.low below)

    go : (one other : Bool) → ltb a b ≡ one → ltb b a ≡ other → a ≡ b
    go true other e f = absurd (shorter p q (ltb-true a b e))
    go false true e f = absurd (shorter q p (ltb-true b a f))
    go false false e f = omega (arith, ltb-false a b e, ltb-false b a f)
