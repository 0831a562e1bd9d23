-- `verdict::check_conflicts` meets its contract. The loop's invariant: no node passed has a conflict.
use Rattle.book.specs.Form.{book_of}
use Rattle.verdict.specs.Judges.{NoConflictBelow}
use Rattle.verdict.proofs.check_conflicts.Given as goal

abbrev pub invariant-loop-n : goal.invariant-loop-n
invariant-loop-n l = NoConflictBelow (book_of l.known.bytes) l.n
