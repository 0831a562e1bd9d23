-- `book::first_bad` meets its contract. The loop's invariant: what is left to search gives the answer.
use Rattle.book.specs.Decode.{node_good}
use Rattle.words.proofs.FirstBad.{Searched}
use Rattle.book.proofs.first_bad.Given as goal

abbrev pub invariant-loop-n : goal.invariant-loop-n
invariant-loop-n l = Searched (node_good l.bytes l.base l.kinds l.count) l.count l.n
