-- `plan::check_cells` meets its contract. The loop's invariant: the cells of the rows passed are good, and `at` is where the row begins.
use mathlib.Core.Path.{◌≡◌}
use Rattle.plan.specs.Form.{rows_at}
use Rattle.plan.proofs.Rows.{RowsSearched}
use Rattle.plan.proofs.check_cells.Given as goal

abbrev pub invariant-loop-n : goal.invariant-loop-n
invariant-loop-n l = (l.rows ≡ rows_at l.count) × RowsSearched l.count l.kinds l.plan l.at l.n
