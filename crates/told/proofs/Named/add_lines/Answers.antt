-- `told::Named::add_lines` meets its contract: kinds, nodes and start.
use Rattle.told.specs.Told.{book_lines}
use Rattle.prints.proofs.Laws.{added_then}
use Rattle.told.proofs.Named.add_lines.Goals as goal

pub returns : goal.returns
unfolding book_lines
returns c =
    added_then (added_then c.add_kinds.ensures c.add_nodes.ensures) c.add_start.ensures
