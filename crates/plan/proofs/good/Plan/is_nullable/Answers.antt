-- `Plan::is_nullable` meets its contract: the last cell of a row is its mark.
use mathlib.Core.Path.{ap, ◌∙◌}
use Prim.Native.Nat.{ℕ}
use lib.Dec.{eqb}
use Rattle.plan.specs.Form.{plan_from, plan_count, plan_kinds, cell_at}
use native.Mathlib.Omega.{arith}
use Rattle.plan.proofs.Runnable.{few_nodes}
use Rattle.plan.proofs.good.Plan.is_nullable.Goals as goal

pub returns-clause-null : goal.returns-clause-null
unfolding plan_from
returns-clause-null c =
    let now = c.args.self.now in
    ap (λ (m : ℕ). eqb m 1)
    (c.cell_at.ensures
    ∙ ap (cell_at now (plan_count now) (plan_kinds now) c.args.node) (c.self.invariant.kinds_is ∙ ap plan_kinds c.self.view_is))

pub returns-clause-few : goal.returns-clause-few
returns-clause-few c =
    omega (arith, few_nodes c.self.invariant, c.requires, ap plan_count c.self.view_is, c.self.invariant.count_is)
