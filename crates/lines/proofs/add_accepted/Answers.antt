-- `lines::add_accepted` meets its contract: the word, two numbers and a line feed, then the records.
use Rattle.lines.specs.Lines.{accepted_lines}
use Rattle.prints.proofs.Laws.{added_then}
use Rattle.lines.proofs.Laws.{accepted_short}
use Rattle.lines.proofs.add_accepted.Goals as goal

pub returns-clause-added : goal.returns-clause-added
unfolding accepted_lines
returns-clause-added c =
    added_then (added_then (added_then (added_then c.add.ensures c.add_spaced.ensures) c.add_spaced-2.ensures) c.add-2.ensures) c.add_records.ensures

pub returns-clause-short : goal.returns-clause-short
returns-clause-short c = accepted_short _ _ _ c.ranges.events.fits c.ranges.records.fits (λ i. (c.type_inv.tree i).fits)
