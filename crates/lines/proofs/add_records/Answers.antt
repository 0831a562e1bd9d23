use Rattle.lines.specs.Lines.{record_lines}
use Rattle.prints.proofs.Laws.{added_none}
use Rattle.lines.proofs.Laws.{added_line}
use Rattle.lines.proofs.add_records.Goals as goal

pub loop-entry-init : goal.loop-entry-init
unfolding record_lines
loop-entry-init c = added_none _

pub loop-entry-preserved : goal.loop-entry-preserved
loop-entry-preserved c = added_line _ c.loop-entry-test.true c.loop-entry.invariant c.add_record.ensures
