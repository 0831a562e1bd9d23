-- `Plan::left` meets its contract: the node's bytes stand in the plan, and its left field is its left.
use mathlib.Core.Path.{◌≡◌, ◌∙◌}
use Prim.Native.Nat.{◌+◌, ◌*◌, ◌≤◌, ◌<◌}
use native.Mathlib.Omega.{arith}
use lib.ListN.{length}
use Rattle.plan.specs.Form.{plan_nodes_at, plan_count, plan_of}
use Rattle.plan.proofs.Runnable.{node_inside, few_nodes, left_is, left_of_node}
use Rattle.plan.proofs.good.Plan.left.Goals as goal
use Rattle.plan.proofs.good.Plan.left.Goals.{After-self, After-u16_at}

-- the node stands in the plan
inside : (c : After-self) → (plan_nodes_at + 6 * c.args.node + 6 ≤ length c.self.inside.bytes.now) × (c.args.node < 512)
inside c = node_inside _ c.self.invariant.good (rw c.self.view_is c.requires.0)

-- what is read is its left
left-read : (c : After-u16_at) → c.u16_at.result ≡ (plan_of c.args.self.now).left c.args.node
left-read c =
    rw (← c.self.view_is)
    (c.u16_at.ensures.0 ∙ left_is _ c.self.invariant.good (rw c.self.view_is c.requires.0) (rw c.self.view_is c.requires.1))

left-below : (c : After-u16_at) → c.u16_at.result < plan_count c.args.self.now
left-below c = rw (left-read c, ← c.self.view_is) (left_of_node _ c.self.invariant.good _)

pub overflow_mul-node : goal.overflow_mul-node
overflow_mul-node c = omega (arith, (inside (goal.at.overflow_mul-node c).After-self).1)

pub overflow_add-node : goal.overflow_add-node
overflow_add-node c = omega (arith, (inside (goal.at.overflow_add-node c).After-self).1)

pub overflow_add-node-2 : goal.overflow_add-node-2
overflow_add-node-2 c = omega (arith, (inside (goal.at.overflow_add-node-2 c).After-self).1)

pub u16_at-requires : goal.u16_at-requires
u16_at-requires c = omega (arith, (inside (goal.at.u16_at-requires c).After-self).0)

pub returns-clause-left : goal.returns-clause-left
returns-clause-left c = left-read (goal.at.returns-clause-left c).After-u16_at

pub returns-clause-below : goal.returns-clause-below
returns-clause-below c = left-below (goal.at.returns-clause-below c).After-u16_at

pub returns-clause-few : goal.returns-clause-few
returns-clause-few c =
    omega
    (arith, rw (← c.self.view_is, ← c.self.invariant.count_is) at (left-below (goal.at.returns-clause-few c).After-u16_at), few_nodes c.self.invariant)
