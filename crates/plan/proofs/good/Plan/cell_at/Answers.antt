-- `Plan::cell_at` meets its contract: a row's cells stand within the plan.
use mathlib.Core.Path.{refl}
use Prim.Native.Nat.{◌<◌, ◌+◌}
use native.Mathlib.Omega.{arith}
use lib.ListN.{length}
use Rattle.plan.specs.Form.{plan_from, cell_at, row_at}
use Rattle.plan.proofs.Runnable.{few_nodes, few_kinds, cell_inside}
use Rattle.plan.proofs.good.Plan.cell_at.Goals as goal
use Rattle.plan.proofs.good.Plan.cell_at.Goals.{After-self}

-- the cell's place is within the plan, a small one
inside : (c : After-self)
    → let plan = c.self.inside in
    (row_at plan.nodes plan.kinds c.args.node + c.args.column < length plan.bytes.now) × (length plan.bytes.now < 65536)
inside c =
    let runs = c.self.invariant in
    cell_inside runs (rw (runs.count_is, c.self.view_is) c.requires.0) (rw (runs.kinds_is, c.self.view_is) c.requires.1)

pub overflow_mul-result : goal.overflow_mul-result
overflow_mul-result c = omega (arith, few_nodes c.self.invariant)

pub overflow_add-result : goal.overflow_add-result
overflow_add-result c = omega (arith, few_nodes c.self.invariant)

pub overflow_add-result-2 : goal.overflow_add-result-2
overflow_add-result-2 c = omega (arith, few_kinds c.self.invariant)

pub overflow_mul-result-2 : goal.overflow_mul-result-2
overflow_mul-result-2 c = omega (arith, inside (goal.at.overflow_mul-result-2 c).After-self)

pub overflow_add-result-3 : goal.overflow_add-result-3
overflow_add-result-3 c = omega (arith, inside (goal.at.overflow_add-result-3 c).After-self)

pub overflow_add-result-4 : goal.overflow_add-result-4
overflow_add-result-4 c = omega (arith, inside (goal.at.overflow_add-result-4 c).After-self)

pub bounds-self-inside-self-inside : goal.bounds-self-inside-self-inside
bounds-self-inside-self-inside c = (inside (goal.at.bounds-self-inside-self-inside c).After-self).0

pub returns : goal.returns
unfolding plan_from cell_at
returns c = rw (← c.self.view_is, ← c.self.invariant.count_is, ← c.self.invariant.kinds_is) refl
