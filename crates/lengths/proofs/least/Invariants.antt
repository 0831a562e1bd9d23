-- `lengths::least` meets its contract. The loop's invariant: each measure below the cap has a run that measures no more, and none is above
-- the cap. The measure of the loop is the sum of those in the table.
use Rattle.book.specs.Nodes.{node_in}
use Rattle.rules.specs.Growth.{total}
use Rattle.rules.proofs.Growing.{Settling}
use Rattle.lengths.specs.Falling.{at_most, SomeAt}
use Rattle.lengths.proofs.least.Given as goal

abbrev pub invariant-loop-table : goal.invariant-loop-table
invariant-loop-table g l =
    let m = g.M.Measure in
    Settling (at_most m.CAP) (SomeAt m.CAP m.size (node_in l.nodes)) l.initial.table l.table

abbrev pub decreases-loop-table : goal.decreases-loop-table
decreases-loop-table g l = total l.table
