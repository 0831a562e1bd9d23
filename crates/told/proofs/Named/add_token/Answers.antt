-- `told::Named::add_token` meets its contract: the word, and the name.
use Rattle.told.specs.Told.{node_text}
use Rattle.prints.proofs.Laws.{added_then}
use Rattle.told.proofs.Named.add_token.Goals as goal

pub returns : goal.returns
unfolding node_text
returns c =
    added_then c.add.ensures c.add_name.ensures
