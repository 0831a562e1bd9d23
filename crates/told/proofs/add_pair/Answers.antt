-- `told::add_pair` meets its contract: the word, and two numbers.
use Rattle.prints.proofs.Laws.{added_then}
use Rattle.told.proofs.add_pair.Goals as goal

pub returns : goal.returns
returns c =
    added_then (added_then c.add.ensures c.add_spaced.ensures) c.add_spaced-2.ensures
