-- `said::Said::add_where` meets its contract: five parts, one after the other.
use Rattle.said.specs.Said.{where_text}
use Rattle.prints.proofs.Laws.{added_then}
use Rattle.said.proofs.Said.add_where.Goals as goal

pub returns : goal.returns
unfolding where_text
returns c =
    added_then (added_then (added_then (added_then c.add.ensures c.add_spaced.ensures) c.add-2.ensures) c.add_spaced-2.ensures) c.add_place.ensures
