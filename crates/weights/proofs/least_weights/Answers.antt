-- `weights::least_weights` meets its contract: the least measures are the weights.
use Rattle.weights.proofs.Lowering.{weights_are}
use Rattle.weights.proofs.least_weights.Goals as goal

pub returns : goal.returns
returns c = weights_are (rw c.nodes.ensures.node at c.least.ensures)
