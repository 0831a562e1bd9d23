-- `Past::due` meets its contract. The loop's invariant: what is found from here is what is due.
use Rattle.book.specs.Form.{book_of}
use Rattle.due.proofs.Looking.{Looking}
use Rattle.due.proofs.past.Past.due.Given as goal

abbrev pub invariant-loop-at : goal.invariant-loop-at
invariant-loop-at l = Looking (book_of l.self.bytes) l.self.records l.self.at l.at l.whole l.empty
