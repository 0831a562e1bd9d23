-- `told::Named::add_name` meets its contract: a space, and the name.
use Rattle.told.specs.Told.{name_text}
use Rattle.prints.proofs.Laws.{added_then}
use Rattle.told.proofs.Named.add_name.Goals as goal

pub returns : goal.returns
unfolding name_text
returns c =
    added_then c.add.ensures (rw c.name.ensures at c.add-2.ensures)
