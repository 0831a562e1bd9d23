-- `Plan::kinds` meets its contract: the kinds that were put down.
use Rattle.plan.proofs.Runnable.{few_kinds}
use Rattle.plan.proofs.good.Plan.kinds.Goals as goal

pub returns-clause-few : goal.returns-clause-few
returns-clause-few c = few_kinds c.self.invariant
