-- `Plan::due` meets its contract: the numbers of what is due stand within the plan.
use Prim.Native.Nat.{◌<◌, ◌+◌}
use native.Mathlib.Omega.{arith}
use lib.ListN.{length}
use Rattle.plan.specs.Form.{plan_from, due_at}
use Rattle.plan.proofs.Runnable.{few_nodes, few_kinds, due_inside}
use Rattle.plan.proofs.good.Plan.due.Goals as goal
use Rattle.plan.proofs.good.Plan.due.Goals.{After-self}

-- the number's place is within the plan, a small one
inside : (c : After-self)
    → let plan = c.self.inside in
    (due_at plan.nodes plan.kinds c.args.node + 1 < length plan.bytes.now) × (length plan.bytes.now < 65536)
inside c =
    let runs = c.self.invariant in
    due_inside runs (rw (runs.count_is, c.self.view_is) c.requires)

pub overflow_mul-self-inside : goal.overflow_mul-self-inside
overflow_mul-self-inside c = omega (arith, few_nodes c.self.invariant)

pub overflow_add-self-inside : goal.overflow_add-self-inside
overflow_add-self-inside c = omega (arith, few_nodes c.self.invariant)

pub overflow_add-self-inside-2 : goal.overflow_add-self-inside-2
overflow_add-self-inside-2 c = omega (arith, few_kinds c.self.invariant)

pub overflow_mul-self-inside-2 : goal.overflow_mul-self-inside-2
overflow_mul-self-inside-2 c = omega (arith, inside (goal.at.overflow_mul-self-inside-2 c).After-self)

pub overflow_add-self-inside-3 : goal.overflow_add-self-inside-3
overflow_add-self-inside-3 c = omega (arith, inside (goal.at.overflow_add-self-inside-3 c).After-self)

pub overflow_mul-node : goal.overflow_mul-node
overflow_mul-node c = omega (arith, inside (goal.at.overflow_mul-node c).After-self)

pub overflow_add-self-inside-4 : goal.overflow_add-self-inside-4
overflow_add-self-inside-4 c = omega (arith, inside (goal.at.overflow_add-self-inside-4 c).After-self)

pub u16_at-requires : goal.u16_at-requires
u16_at-requires c = omega (arith, (inside (goal.at.u16_at-requires c).After-self).0)

pub returns-clause-due : goal.returns-clause-due
unfolding plan_from
returns-clause-due c = rw (← c.self.view_is, ← c.self.invariant.count_is, ← c.self.invariant.kinds_is) c.u16_at.ensures.0
