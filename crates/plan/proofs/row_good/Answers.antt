use mathlib.Core.Path.{◌≡◌, refl}
use native.Mathlib.Omega.{arith}
use Rattle.plan.specs.Rows.{bad_column}
use Rattle.plan.proofs.Columns.{cells_long, cell_is, kind_column, last_column}
use Rattle.plan.proofs.TestsJoined.{joined_none, joined_more, joined-all}
use Rattle.plan.proofs.row_good.Goals as goal

pub loop-cell-init : goal.loop-cell-init
loop-cell-init c = joined_none _

pub loop-cell-preserved : goal.loop-cell-preserved
loop-cell-preserved c =
    let a = c.args in
    let below = rw (cells_long a.plan.now a.at a.kinds c.requires) at c.loop-cell-test.true in
    joined_more _ _ _ c.loop-cell.invariant (kind_column _ _ _ _ _ below (cell_is _ _ _ c.requires below) refl)

-- past the kinds the tests of all kinds are joined, and the last cell's with them
pub returns : goal.returns
unfolding bad_column
returns c =
    let a = c.args in
    let long = cells_long a.plan.now a.at a.kinds c.requires in
    let passed : c.loop-cell.cell-index ≡ a.kinds = omega (arith, long, c.loop-cell.auto.cell-index-end, c.loop-cell-test.false) in
    joined-all _ _ _ (joined_more _ _ _ (rw passed at c.loop-cell.invariant) (last_column _ _ _ _ _ refl refl))
