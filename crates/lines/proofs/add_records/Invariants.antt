-- `lines::add_records` meets its contract. The loop's invariant: the lines of the first records are added.
use lib.ListN.{take}
use Rattle.prints.specs.Pages.{Added}
use Rattle.lines.specs.Lines.{record_lines}
use Rattle.lines.proofs.add_records.Given as goal

abbrev pub invariant-loop-entry : goal.invariant-loop-entry
invariant-loop-entry l = Added l.initial.page l.page (record_lines (take l.entry-index l.tree))
