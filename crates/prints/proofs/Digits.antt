-- Laws of decimal digits: the last one behind those of a tenth, and how many there are.
use Prim.Native.Nat.{ℕ, zero, suc, ◌+◌, ◌/◌, ◌^◌, ◌≤◌, ◌<◌}
use native.Mathlib.Omega.{arith}
use mathlib.Core.Path.{◌≡◌, refl, ap, ◌∙◌}
use mathlib.Core.Bool.{Bool, true, false}
use mathlib.Core.List.{List, [], ◌∷◌, ◌++◌}
use lib.Dec.{ltb}
use lib.ListN.{length, length-append}
use borrow.Author.Tests.{lt-ltb, le-ltb, ltb-true, ltb-false}
use Rattle.prints.specs.Digits.{digit, digits_by, digits_of, spaced}

-- any number of divisions above the number gives the same digits
digits_by_lem : (a b value : ℕ) → value < a → value < b → digits_by a value ≡ digits_by b value
unfolding digits_by
digits_by_lem zero b value p q = absurd (omega arith)
digits_by_lem (suc a) zero value p q = absurd (omega arith)
digits_by_lem (suc a) (suc b) value p q = go (ltb value 10) refl (digits_by_lem a b (value / 10))
  where
    go : (few : Bool)
        → ltb value 10 ≡ few
        → (value / 10 < a → value / 10 < b → digits_by a (value / 10) ≡ digits_by b (value / 10))
        → digits_by (suc a) value ≡ digits_by (suc b) value
    go true e fronts = rw e
    go false e fronts =
        let many : 10 ≤ value = ltb-false value 10 e in
        rw (e, fronts (omega arith) (omega arith))

pub digits_one : (value : ℕ) → value < 10 → digits_of value ≡ digit value ∷ []
unfolding digits_of digits_by
digits_one value p = rw (lt-ltb value 10 p)

pub digits_more : (value : ℕ) → 10 ≤ value → digits_of value ≡ digits_of (value / 10) ++ (digit value ∷ [])
unfolding digits_of digits_by
digits_more value p =
    let fronts = digits_by_lem value (suc (value / 10)) (value / 10) (omega arith) (omega arith) in
    rw (le-ltb value 10 p) (ap (λ (front : List ℕ). front ++ (digit value ∷ [])) fronts)

-- a number of more digits
module _ (value : ℕ) (many : 10 ≤ value) where
  pub digits_length : length (digits_of value) ≡ length (digits_of (value / 10)) + 1
  digits_length = ap length (digits_more value many) ∙ length-append (digits_of (value / 10)) (digit value ∷ [])

-- a number below a power of ten has no more digits than that
pub digits_short : (left value : ℕ) → value < 10 ^ suc left → length (digits_of value) ≤ suc left
digits_short zero value p = rw (digits_one value p) (omega arith)
digits_short (suc left) value p = go (ltb value 10) refl (digits_short left (value / 10))
  where
    go : (few : Bool)
        → ltb value 10 ≡ few
        → (value / 10 < 10 ^ suc left → length (digits_of (value / 10)) ≤ suc left)
        → length (digits_of value) ≤ suc (suc left)
    go true e front = rw (digits_one value (ltb-true value 10 e)) (omega arith)
    go false e front = omega (arith, digits_length value (ltb-false value 10 e), front (omega (arith, p)))

-- a number of 64 bits has at most 20 digits, a node number at most 5
pub digits_at_most_20 : (value : ℕ) → value < 2 ^ 64 → length (digits_of value) ≤ 20
digits_at_most_20 value p = digits_short 19 value (omega arith)

pub digits_at_most_5 : (value : ℕ) → value < 32768 → length (digits_of value) ≤ 5
digits_at_most_5 value p = digits_short 4 value (omega arith)

-- a space and a number of 64 bits are at most 21 bytes
pub spaced_at_most : (value : ℕ) → value < 2 ^ 64 → length (spaced value) ≤ 21
unfolding spaced
spaced_at_most value p = omega (arith, digits_at_most_20 value p)
