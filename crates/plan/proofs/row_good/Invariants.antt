-- `plan::row_good` meets its contract. The loop's invariant: the tests of the columns passed, joined.
use Rattle.plan.specs.Rows.{column_good}
use Rattle.plan.proofs.TestsJoined.{Joined}
use Rattle.plan.proofs.row_good.Given as goal

abbrev pub invariant-loop-cell : goal.invariant-loop-cell
invariant-loop-cell l = Joined (column_good l.plan l.at l.kinds l.one l.other) l.cell-index l.all
