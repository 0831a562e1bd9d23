-- `lengths::lower_all` meets its contract. The loop's invariant: the first steps of the turn have been made.
use Rattle.book.specs.Nodes.{node_in}
use Rattle.rules.specs.Order.{GivenBy}
use Rattle.rules.proofs.Growing.{Turning}
use Rattle.lengths.specs.Falling.{at_most, SomeAt, NoMore}
use Rattle.lengths.proofs.lower_all.Given as goal

abbrev pub invariant-loop-step : goal.invariant-loop-step
invariant-loop-step g l =
    let m = g.M.Measure in
    Turning (at_most m.CAP) (SomeAt m.CAP m.size (node_in l.nodes)) (NoMore m.CAP m.token m.joined (node_in l.nodes))
    (GivenBy (goal.F-post g l.order l.count) l.step) l.initial.table l.table l.changed
