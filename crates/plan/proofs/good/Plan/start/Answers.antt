-- `Plan::start` meets its contract: the start in the settings is a node.
use Prim.Native.Nat.{◌<◌}
use native.Mathlib.Omega.{arith}
use Rattle.plan.specs.Form.{plan_from}
use Rattle.plan.proofs.Runnable.{few_nodes, settings_inside, start_node}
use Rattle.plan.proofs.good.Plan.start.Goals as goal
use Rattle.plan.proofs.good.Plan.start.Goals.{After-plan_start}

below : (c : After-plan_start) → c.plan_start.result < c.self.inside.nodes
below c = rw c.plan_start.ensures.0 (start_node c.self.invariant)

pub plan_start-requires : goal.plan_start-requires
plan_start-requires c = omega (arith, settings_inside _ c.self.invariant.good)

pub returns-clause-start : goal.returns-clause-start
unfolding plan_from
returns-clause-start c = rw (← c.self.view_is) c.plan_start.ensures.0

pub returns-clause-below : goal.returns-clause-below
returns-clause-below c = rw (← c.self.view_is, ← c.self.invariant.count_is) (below (goal.at.returns-clause-below c).After-plan_start)

pub returns-clause-few : goal.returns-clause-few
returns-clause-few c = omega (arith, below (goal.at.returns-clause-few c).After-plan_start, few_nodes c.self.invariant)
