-- `told::add_ref` meets its contract: the word, and a number.
use Rattle.prints.proofs.Laws.{added_then}
use Rattle.told.proofs.add_ref.Goals as goal

pub returns : goal.returns
returns c =
    added_then c.add.ensures c.add_spaced.ensures
