-- `shown::Refused::add_line` meets its contract: five parts, one after the other.
use Rattle.prints.proofs.Laws.{added_then}
use Rattle.shown.specs.Shown.{refusal_line}
use Rattle.shown.proofs.Refused.add_line.Goals as goal

pub returns : goal.returns
unfolding refusal_line
returns c =
    added_then
    (added_then
    (added_then (added_then c.add.ensures c.add_spaced.ensures) c.add_where_placed.ensures)
    c.add_reason.ensures)
    c.add-2.ensures
