-- `said::Said::add_passes` meets its contract: the words, and the plan's size.
use Rattle.said.specs.Said.{passes_line}
use Rattle.prints.proofs.Laws.{added_then}
use Rattle.said.proofs.Said.add_passes.Goals as goal

pub returns : goal.returns
unfolding passes_line
returns c =
    added_then (added_then c.add.ensures c.add_spaced.ensures) c.add-2.ensures
