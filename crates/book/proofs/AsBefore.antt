-- The rules, one for each type, are the one long chain of tests that stood before them: every answer stays.
use Prim.Native.Nat.{ℕ, zero, suc, ◌<◌}
use native.Mathlib.Decide.{dec_lt}
use native.Mathlib.Omega.{arith}
use borrow.Author.Tests.{lt-ltb, le-ltb, le-leb}
use mathlib.Core.Path.{◌≡◌, refl}
use mathlib.Core.Bool.{Bool, true, false, ◌&&◌}
use lib.Dec.{ltb, leb, eqb}
use Rattle.book.specs.Decode.{type_of, fields_good}

-- the chain: kinds, count, own number, type, left and right
pub chain : ℕ → ℕ → ℕ → ℕ → ℕ → ℕ → Bool
chain kinds count own zero left right = eqb left 0 && eqb right 0
chain kinds count own (suc zero) left right = eqb left 0 && eqb right 0
chain kinds count own (suc (suc zero)) left right = ltb left kinds && eqb right 0
chain kinds count own (suc (suc (suc zero))) left right = ltb left own && ltb right own
chain kinds count own (suc (suc (suc (suc zero)))) left right = ltb left own && ltb right own
chain kinds count own (suc (suc (suc (suc (suc zero))))) left right = ltb left own && ltb 0 right
chain kinds count own (suc (suc (suc (suc (suc (suc zero)))))) left right = ltb left count && eqb right 0
chain kinds count own (suc (suc (suc (suc (suc (suc (suc more))))))) left right = false

-- a label of 16 bits is not 0 exactly if it is 1 to 65,535
label_same : (test : Bool) (right : ℕ) → right < 65536 → (test && ltb 0 right) ≡ (test && leb 1 right && leb right 65535)
label_same test right small =
    elim (dec_lt 0 right) [
      | yes some ↦ rw (lt-ltb 0 right some, le-leb right 65535 (omega arith)) (twice test)
      | no none ↦ rw (le-ltb 0 right (omega arith)) (never test)
    ]
  where
    twice : (test : Bool) → (test && true) ≡ (test && true && true)
    twice true = refl
    twice false = refl

    never : (test : Bool) → (test && false) ≡ (test && false && leb right 65535)
    never true = refl
    never false = refl

-- for all numbers, of which the right takes 16 bits, the rule of a type says what the chain said
pub rules_as_before : (kinds count own number left right : ℕ) → right < 65536
    → chain kinds count own number left right
    ≡ fields_good (type_of number) (record { kinds = kinds; count = count; own = own; left = left; right = right })
unfolding chain
rules_as_before kinds count own zero left right small = refl
rules_as_before kinds count own (suc zero) left right small = refl
rules_as_before kinds count own (suc (suc zero)) left right small = refl
rules_as_before kinds count own (suc (suc (suc zero))) left right small = refl
rules_as_before kinds count own (suc (suc (suc (suc zero)))) left right small = refl
rules_as_before kinds count own (suc (suc (suc (suc (suc zero))))) left right small = label_same (ltb left own) right small
rules_as_before kinds count own (suc (suc (suc (suc (suc (suc zero)))))) left right small = refl
rules_as_before kinds count own (suc (suc (suc (suc (suc (suc (suc more))))))) left right small = refl
