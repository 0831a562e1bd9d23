-- Types and their numbers.
use mathlib.Core.Path.{◌≡◌, refl}
use Prim.Native.Nat.{ℕ, zero, suc}
use Rattle.std.specs.Prelude.{Option, Some, None}
use Rattle.book.specs.Decode.{type_of}
use Rattle.book.specs.declared.NodeType.{NodeType}

-- a type's number; 7 for none
abbrev pub number_of : Option NodeType → ℕ
number_of (Some NodeType.Fail) = 0
number_of (Some NodeType.Empty) = 1
number_of (Some NodeType.Token) = 2
number_of (Some NodeType.Either) = 3
number_of (Some NodeType.Then) = 4
number_of (Some NodeType.Tagged) = 5
number_of (Some NodeType.Ref) = 6
number_of None = 7

-- a type has the number that gives it
pub number_is : (t : ℕ) → (type_of t ≡ None → ⊥) → number_of (type_of t) ≡ t
number_is zero some = refl
number_is (suc zero) some = refl
number_is (suc (suc zero)) some = refl
number_is (suc (suc (suc zero))) some = refl
number_is (suc (suc (suc (suc zero)))) some = refl
number_is (suc (suc (suc (suc (suc zero))))) some = refl
number_is (suc (suc (suc (suc (suc (suc zero)))))) some = refl
number_is (suc (suc (suc (suc (suc (suc (suc more))))))) some = absurd (some refl)
