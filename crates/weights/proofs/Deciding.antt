-- The least weights of nodes exist apart from the code, and compute.
use Prim.Native.Nat.{ℕ, ◌≤◌}
use mathlib.Core.Path.{◌≡◌}
use mathlib.Core.List.{List}
use Rattle.book.specs.declared.Node.{Node}
use Rattle.book.specs.declared.Node.TheVariants.{Fail}
use Rattle.lengths.proofs.Kinded.{Kinded, kinded_fitting}
use Rattle.lengths.proofs.Deciding.{LeastTable, least}
use Rattle.weights.specs.Weight.{Weights}
use Rattle.weights.specs.Laws.{weight_fits}
use Rattle.weights.proofs.Lowering.{weights_are}

-- numbers that are the least weights of all nodes
pub record LeastWeights (node : ℕ → Node) : Type 0 where
  pub weights : List ℕ
  pub are : Weights node weights

-- the least weights of nodes of which none stands from a count on
unfoldable pub least_weights : (node : ℕ → Node) → Kinded node → (count : ℕ) → ((n : ℕ) → count ≤ n → node n ≡ Fail) → LeastWeights node
least_weights node kinded count beyond = weights_of (least weight_fits node (kinded_fitting weight_fits node kinded) count beyond)
  where
    weights_of : LeastTable weight_fits node (kinded_fitting weight_fits node kinded) → LeastWeights node
    weights_of found = record { weights = found.table; are = weights_are found.are }
