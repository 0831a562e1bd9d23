use mathlib.Core.Path.{refl, sym, ◌∙◌}
use Prim.Native.Nat.{◌+◌, ◌≤◌}
use native.Mathlib.Omega.{arith}
use borrow.Author.Rules.{rules}
use borrow.Author.Tests.{ltb-false}
use Rattle.plan.specs.Form.{plan_size}
use Rattle.plan.proofs.Rows.{rows_none, CellsOf, cells_of, rows_more, rows_bad, rows_all, row_inside}
use Rattle.plan.proofs.check_cells.Goals as goal
use Rattle.plan.proofs.check_cells.Goals.{In-loop-n, After-row_good, After-bad_column-column}

pub loop-n-init : goal.loop-n-init
loop-n-init c = (refl, rows_none _ _ _)

abbrev Turn : Type 0
Turn = In-loop-n

abbrev Tested : Type 0
Tested = After-row_good

-- the row stands within the plan
row_in : (t : Turn) → t.loop-n.at + (t.args.kinds + 1) ≤ plan_size t.args.count t.args.kinds
row_in t = row_inside _ _ _ t.loop-n.invariant.1 t.loop-n-test.true

-- the two cells that a row is tested for are those of its node's type
cells : (v : Tested)
    → CellsOf v.args.count v.args.kinds v.args.plan.now v.loop-n.n
    v.one_cell-one.result v.other_cell-other.result
cells v =
    cells_of _ _ _ v.node_at-node.ensures v.one_cell-one.ensures v.other_cell-other.ensures

-- the column that is found is one of the row's
column-small : (c : After-bad_column-column) → c.bad_column-column.result ≤ c.args.kinds
column-small c =
    rw c.bad_column-column.ensures
    (ltb-false _ _ (sym c.row_good.ensures ∙ c.if-not-row_good.true))

pub row_good-requires : goal.row_good-requires
row_good-requires c = omega (arith, row_in (goal.at.row_good-requires c).In-loop-n)

pub bad_column-column-requires : goal.bad_column-column-requires
bad_column-column-requires c = (
  omega (arith, row_in (goal.at.bad_column-column-requires c).In-loop-n),
  ltb-false _ _ (sym c.row_good.ensures ∙ c.if-not-row_good.true),
)

pub overflow_sub-result : goal.overflow_sub-result
overflow_sub-result c = omega (arith, row_in (goal.at.overflow_sub-result c).In-loop-n)

pub overflow_add-result : goal.overflow_add-result
overflow_add-result c = omega (arith, column-small (goal.at.overflow_add-result c).After-bad_column-column, row_in (goal.at.overflow_add-result c).In-loop-n)

pub overflow_cast-result : goal.overflow_cast-result
overflow_cast-result c = omega (arith, column-small (goal.at.overflow_cast-result c).After-bad_column-column, row_in (goal.at.overflow_cast-result c).In-loop-n)

pub returns-then-not-row_good : goal.returns-then-not-row_good
returns-then-not-row_good c =
    sym
    (rows_bad _ _ _ c.loop-n.invariant.1 c.loop-n-test.true (cells (goal.at.returns-then-not-row_good c).After-row_good) c.row_good.ensures
    c.if-not-row_good.true c.bad_column-column.ensures)

pub overflow_add-at : goal.overflow_add-at
overflow_add-at c = omega (arith, row_in (goal.at.overflow_add-at c).In-loop-n)

pub overflow_add-at-in-loop-n : goal.overflow_add-at-in-loop-n
overflow_add-at-in-loop-n c = omega (arith, row_in (goal.at.overflow_add-at-in-loop-n c).In-loop-n)

pub loop-n-preserved : goal.loop-n-preserved
loop-n-preserved c = (
  search rules,
  rows_more _ _ _ c.loop-n.invariant.1 c.loop-n-test.true (cells (goal.at.loop-n-preserved c).After-row_good) c.row_good.ensures
      c.if-not-row_good.false,
)

pub returns : goal.returns
returns c = sym (rows_all _ _ _ c.loop-n.invariant.1 c.loop-n-test.false)
