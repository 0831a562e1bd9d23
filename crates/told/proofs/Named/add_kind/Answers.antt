-- `told::Named::add_kind` meets its contract: four parts, one after the other.
use Rattle.told.specs.Told.{kind_line}
use Rattle.prints.proofs.Laws.{added_then}
use Rattle.told.proofs.Named.add_kind.Goals as goal

pub returns : goal.returns
unfolding kind_line
returns c =
    added_then (added_then (added_then c.add.ensures c.add_spaced.ensures) c.add_name.ensures) c.add-2.ensures
