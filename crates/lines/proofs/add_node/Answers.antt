-- `lines::add_node` meets its contract: the digits, and a `-` before those of an empty record.
use borrow.Author.Tests.{lt-ltb, le-ltb}
use Rattle.lines.specs.Lines.{record_text}
use Rattle.prints.proofs.Laws.{added_then}
use Rattle.lines.proofs.add_node.Goals as goal

pub returns-then-node-lt-EMPTY : goal.returns-then-node-lt-EMPTY
unfolding record_text
returns-then-node-lt-EMPTY c = rw (lt-ltb c.args.entry 32768 c.if-node-lt-EMPTY.true) c.add_number.ensures

pub returns : goal.returns
unfolding record_text
returns c = rw (le-ltb c.args.entry 32768 c.if-node-lt-EMPTY.false) (added_then c.add.ensures c.add_number-2.ensures)
