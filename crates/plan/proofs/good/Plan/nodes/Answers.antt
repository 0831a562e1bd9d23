-- `Plan::nodes` meets its contract: the count that was put down.
use Rattle.plan.proofs.Runnable.{few_nodes}
use Rattle.plan.proofs.good.Plan.nodes.Goals as goal

pub returns-clause-few : goal.returns-clause-few
returns-clause-few c = few_nodes c.self.invariant
