-- `told::Named::add_start` meets its contract.
use Rattle.prints.proofs.Laws.{added_then}
use Rattle.told.specs.Told.{start_line}
use Rattle.told.proofs.Named.add_start.Goals as goal

pub returns : goal.returns
unfolding start_line
returns c =
    rw (← c.self.view_is, ← c.start.ensures.start)
    (added_then (added_then c.add.ensures c.add_spaced.ensures) c.add-2.ensures)
