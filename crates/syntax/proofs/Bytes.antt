-- What a byte is to a sheet: a letter, a blank, or a sign. And when two words are the same.
use Prim.Native.Nat.{ℕ, ◌≤◌, ◌<◌}
use native.Mathlib.Omega.{arith}
use mathlib.Core.Path.{◌≡◌, refl, sym, ◌∙◌}
use mathlib.Core.Logic.{◌⊎◌, inl, inr}
use mathlib.Core.Bool.{Bool, true, false, false≢true}
use mathlib.Core.List.{List, [], ◌∷◌}
use lib.Dec.{leb, eqb}
use borrow.Author.Tests.{leb-true, eqb-true, eq-eqb, ne_eqb}
use Rattle.words.proofs.Tests.{both, joined, fails, never, or_cases}
use Rattle.sheets.specs.Text.{letter, blank, same}

-- the three classes
pub data Class (byte : ℕ) : Type 0 where
  a_letter : letter byte ≡ true → Class byte
  a_blank : letter byte ≡ false → blank byte ≡ true → Class byte
  a_sign : letter byte ≡ false → blank byte ≡ false → Class byte

-- a blank is no letter
pub letter_not_blank : (byte : ℕ) → letter byte ≡ true → blank byte ≡ false
unfolding letter blank
letter_not_blank byte is = fails _ (λ other. go (or_cases (eqb byte 32) (eqb byte 10) other))
  where
    least : 97 ≤ byte
    least = leb-true 97 byte (both (leb 97 byte) (leb byte 122) is).0

    go : (eqb byte 32 ≡ true) ⊎ (eqb byte 10 ≡ true) → ⊥
    go (inl e) = omega (arith, least, eqb-true byte 32 e)
    go (inr e) = omega (arith, least, eqb-true byte 10 e)

-- nor is any byte below 97
pub letter_no_other : (byte other : ℕ) → letter byte ≡ true → other < 97 → eqb byte other ≡ false
unfolding letter
letter_no_other byte other is below =
    ne_eqb byte other (λ e. omega (arith, leb-true 97 byte (both (leb 97 byte) (leb byte 122) is).0))

pub class_of : (byte : ℕ) → Class byte
class_of byte = go (letter byte) (blank byte) refl refl
  where
    go : (l b : Bool) → letter byte ≡ l → blank byte ≡ b → Class byte
    go true b l-is b-is = a_letter l-is
    go false true l-is b-is = a_blank l-is b-is
    go false false l-is b-is = a_sign l-is b-is

-- a word is the same as itself, and as no other
pub same_self : (letters : List ℕ) → same letters letters ≡ true
unfolding same
same_self [] = refl
same_self (a ∷ more) = joined _ _ (eq-eqb a a refl) (same_self more)

pub same_equal : (xs ys : List ℕ) → same xs ys ≡ true → xs ≡ ys
unfolding same
same_equal [] [] is = refl
same_equal [] (b ∷ ys) is = never is
same_equal (a ∷ xs) [] is = never is
same_equal (a ∷ xs) (b ∷ ys) is =
    let p = eqb-true a b (both (eqb a b) (same xs ys) is).0 in
    let q = same_equal xs ys (both (eqb a b) (same xs ys) is).1 in
    cc

-- words that are not the same are not equal
pub not_same_apart : (xs ys : List ℕ) → same xs ys ≡ false → xs ≡ ys → ⊥
not_same_apart xs ys other is = false≢true (sym other ∙ (rw is (same_self ys)))
