-- `said::Said::add_refused` meets its contract: four parts, one after the other.
use Rattle.said.specs.Said.{refused_lines}
use Rattle.prints.proofs.Laws.{added_then}
use Rattle.said.proofs.Said.add_refused.Goals as goal

pub returns : goal.returns
unfolding refused_lines
returns c =
    added_then (added_then (added_then c.add_where.ensures c.add_more.ensures) c.add.ensures) c.add_mark.ensures
