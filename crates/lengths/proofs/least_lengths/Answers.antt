-- `lengths::least_lengths` meets its contract: the least measures are the lengths.
use Rattle.lengths.proofs.Lengths.{least_cut}
use Rattle.lengths.proofs.least_lengths.Goals as goal

pub returns : goal.returns
returns c = record { least_is = λ n below. least_cut c.least.ensures n }
