-- `stands::add_further` meets its contract: the further factors, and what comes behind one.
use Rattle.prints.proofs.Laws.{added_then}
use Rattle.stands.proofs.add_further.Goals as goal

pub returns : goal.returns
returns c =
    added_then c.add.ensures c.add_behind.ensures
