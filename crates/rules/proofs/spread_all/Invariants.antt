-- `rules::spread_all` meets its contract. The loop's invariant: the first steps of the turn have been made.
use Prim.Native.Nat.{ℕ}
use Rattle.book.specs.Nodes.{node_in}
use Rattle.rules.specs.Growth.{masks, Sound}
use Rattle.rules.specs.Step.{ReachAt, ChildClosed}
use Rattle.rules.specs.Order.{GivenBy}
use Rattle.rules.proofs.Growing.{Turning}
use Rattle.rules.proofs.spread_all.Given as goal

abbrev pub invariant-loop-step : goal.invariant-loop-step
invariant-loop-step g l =
    (start : ℕ) → Sound masks (ReachAt (node_in l.nodes) start) l.initial.marks
    → Turning masks (ReachAt (node_in l.nodes) start) (ChildClosed (node_in l.nodes)) (GivenBy (goal.F-post g l.order l.count) l.step) l.initial.marks l.marks l.changed
