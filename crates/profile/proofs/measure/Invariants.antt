-- `profile::measure` meets its contract. The loop's invariant: all that the weights tell is of ways. Its measure is what is left for their
-- sum to grow.
use Prim.Native.Nat.{◌*◌, ◌^◌}
use mathlib.Core.Bool.{true}
use lib.ListN.{length}
use Rattle.book.specs.Form.{book_of}
use Rattle.rules.specs.Growth.{total}
use Rattle.rules.proofs.Growing.{Settling, way_left}
use Rattle.profile.specs.Weights.{weighing, WeightAt}
use Rattle.profile.proofs.measure.Given as goal

abbrev pub invariant-loop : goal.invariant-loop
invariant-loop l = Settling weighing (WeightAt (book_of l.known.bytes).node) l.initial.weights l.weights

abbrev pub decreases-loop : goal.decreases-loop
decreases-loop l = way_left true (length l.initial.weights * 2 ^ 64) (total l.weights)
