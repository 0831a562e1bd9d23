-- Decimal digits.
use Rattle.std.specs.Prelude.{ℕ, zero, suc, ◌+◌, ◌/◌, ◌%◌, cond, List, [], ◌∷◌, ◌++◌, ltb}

-- a decimal digit
abbrev pub digit : ℕ → ℕ
digit value = 48 + value % 10

-- the decimal digits of a number, by so many divisions at most
unfoldable pub digits_by : ℕ → ℕ → List ℕ
digits_by zero value = []
digits_by (suc left) value =
    let front = digits_by left (value / 10) in
    cond (ltb value 10) [] front ++ (digit value ∷ [])

-- the decimal digits of a number, the first of them not 0 but for the number 0
unfoldable pub digits_of : ℕ → List ℕ
digits_of value = digits_by (suc value) value

-- a space and a number
unfoldable pub spaced : ℕ → List ℕ
spaced value = 32 ∷ digits_of value
