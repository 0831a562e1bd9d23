-- `Plan::tag` meets its contract: the node's bytes stand in the plan, and a tagged node's right field is its label.
use mathlib.Core.Path.{◌∙◌, sym}
use Prim.Native.Nat.{◌+◌, ◌*◌, ◌≤◌, ◌<◌}
use native.Mathlib.Omega.{arith}
use lib.ListN.{length}
use Rattle.plan.specs.Form.{plan_nodes_at}
use Rattle.plan.proofs.Runnable.{node_inside, tag_none, tag_right}
use Rattle.plan.proofs.good.Plan.tag.Goals as goal
use Rattle.plan.proofs.good.Plan.tag.Goals.{After-self}

-- the node stands in the plan
inside : (c : After-self) → (plan_nodes_at + 6 * c.args.node + 6 ≤ length c.self.inside.bytes.now) × (c.args.node < 512)
inside c = node_inside _ c.self.invariant.good (rw c.self.view_is c.requires)

pub overflow_mul-node : goal.overflow_mul-node
overflow_mul-node c = omega (arith, (inside (goal.at.overflow_mul-node c).After-self).1)

pub overflow_add-node : goal.overflow_add-node
overflow_add-node c = omega (arith, (inside (goal.at.overflow_add-node c).After-self).1)

pub overflow_add-node-2 : goal.overflow_add-node-2
overflow_add-node-2 c = omega (arith, (inside (goal.at.overflow_add-node-2 c).After-self).1)

pub u16_at-requires : goal.u16_at-requires
u16_at-requires c = omega (arith, (inside (goal.at.u16_at-requires c).After-self).0)

-- it is not tagged
pub returns-then-u16_at-ne-TAGGED-clause-tag : goal.returns-then-u16_at-ne-TAGGED-clause-tag
returns-then-u16_at-ne-TAGGED-clause-tag c =
    rw (← c.self.view_is)
    (sym
    (tag_none _ c.self.invariant.good (rw c.self.view_is c.requires)
    (λ is. c.if-u16_at-ne-TAGGED.true (c.u16_at.ensures.0 ∙ is))))

-- it is
pub overflow_mul-node-2 : goal.overflow_mul-node-2
overflow_mul-node-2 c = omega (arith, (inside (goal.at.overflow_mul-node-2 c).After-self).1)

pub overflow_add-node-3 : goal.overflow_add-node-3
overflow_add-node-3 c = omega (arith, (inside (goal.at.overflow_add-node-3 c).After-self).1)

pub u16_at-requires-2 : goal.u16_at-requires-2
u16_at-requires-2 c = omega (arith, (inside (goal.at.u16_at-requires-2 c).After-self).0)

pub returns-clause-tag : goal.returns-clause-tag
returns-clause-tag c =
    let type_is = sym c.u16_at.ensures.0 ∙ c.if-u16_at-ne-TAGGED.false in
    rw (← c.self.view_is)
    (c.u16_at-2.ensures.0 ∙ sym (tag_right _ c.self.invariant.good (rw c.self.view_is c.requires) type_is))
