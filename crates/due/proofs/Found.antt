-- What is found at the record of a node, by how many whole parts stand behind it.
use Prim.Native.Nat.{ℕ, zero, suc, ◌+◌, ◌≤◌}
use native.Mathlib.Omega.{arith}
use mathlib.Core.Path.{◌≡◌, refl}
use Rattle.book.specs.declared.Node.{Node}
use Rattle.book.specs.declared.Node.TheVariants.{Fail, Empty, Token, Either, Then, Tagged, Ref}
use Rattle.trees.specs.declared.Due.{Due}
use Rattle.trees.specs.declared.Due.TheVariants.{Nothing, Part, Taking, OneOf, Both}
use Rattle.trees.specs.Back.{whole_from, found_or, front}

-- a record is one whole part at most
pub whole_from_most : (top : Node) (whole : ℕ) → whole_from top whole ≤ whole + 1
unfolding whole_from
whole_from_most Fail whole = omega arith
whole_from_most Empty whole = omega arith
whole_from_most (Token k) whole = omega arith
whole_from_most (Either l r) whole = omega arith
whole_from_most (Then l r) whole = omega arith
whole_from_most (Tagged l t) whole = omega arith
whole_from_most (Ref l) whole = omega arith

-- what is found, or the other
pub found_some : (due other : Due) → (due ≡ Nothing → ⊥) → found_or due other ≡ due
unfolding found_or
found_some Nothing other some = absurd (some refl)
found_some (Part n) other some = refl
found_some (Taking n) other some = refl
found_some (OneOf l r) other some = refl
found_some (Both l r) other some = refl

pub found_none : (due other : Due) → due ≡ Nothing → found_or due other ≡ other
unfolding found_or
found_none due other none = rw none

-- past the front
pub front-whole : (start whole : ℕ) → (whole ≡ 0 → ⊥) → front start whole ≡ Nothing
unfolding front
front-whole start zero some = absurd (some refl)
front-whole start (suc whole) some = refl
