-- `lines::add_record` meets its contract: the record, then a line feed.
use Rattle.lines.specs.Lines.{record_line}
use Rattle.prints.proofs.Laws.{added_then}
use Rattle.lines.proofs.add_record.Goals as goal

pub returns : goal.returns
unfolding record_line
returns c =
    added_then c.add_node.ensures c.add.ensures
