-- `unread::read_tree` meets its contract. The loop's invariant: the reading stands at a record, and the events before it are counted and
-- written.
use Rattle.rules.specs.Facts.{flat}
use Rattle.unread.proofs.Calls.{Way}
use Rattle.unread.proofs.read_tree.Given as goal

abbrev pub invariant-loop-at : goal.invariant-loop-at
invariant-loop-at l = Way l.book (flat l.table) l.tree l.initial.run l.at l.turns.spot l.turns.slots l.run
