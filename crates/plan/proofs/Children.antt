-- The left and right of a proper node are below the count.
use Prim.Native.Nat.{ℕ, ◌<◌}
use native.Mathlib.Omega.{arith}
use Rattle.book.specs.Book.{left_of, right_of, Proper, fail_is, empty_is, token_is, either_is, then_is, tagged_is, ref_is}
use Rattle.book.specs.declared.Node.{Node}

module _ {kinds count own : ℕ} (small : own < count) where
  pub left_below : {node : Node} → Proper kinds count own node → left_of node < count
  left_below fail_is = omega arith
  left_below empty_is = omega arith
  left_below (token_is k) = omega arith
  left_below (either_is l r) = omega arith
  left_below (then_is l r) = omega arith
  left_below (tagged_is l t) = omega arith
  left_below (ref_is l) = l

  pub right_below : {node : Node} → Proper kinds count own node → right_of node < count
  right_below fail_is = omega arith
  right_below empty_is = omega arith
  right_below (token_is k) = omega arith
  right_below (either_is l r) = omega arith
  right_below (then_is l r) = omega arith
  right_below (tagged_is l t) = omega arith
  right_below (ref_is l) = omega arith
