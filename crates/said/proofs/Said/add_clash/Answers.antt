-- `said::Said::add_clash` meets its contract: four parts, one after the other.
use Rattle.said.specs.Said.{clash_text}
use Rattle.prints.proofs.Laws.{added_then}
use Rattle.said.proofs.Said.add_clash.Goals as goal

pub returns : goal.returns
unfolding clash_text
returns c =
    added_then (added_then (added_then c.add.ensures c.add_where.ensures) c.add_where-2.ensures) c.add_clash_names.ensures
