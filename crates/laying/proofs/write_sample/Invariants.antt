-- `laying::write_sample` meets its contract. The loop's invariant: what is written and what the parts due write make the sample. The measure
-- is how many nodes are still visited.
use lib.ListN.{length}
use Rattle.book.specs.Form.{book_of}
use Rattle.laying.proofs.Laying.{Writing, visits_left}
use Rattle.laying.proofs.write_sample.Given as goal

abbrev pub invariant-loop-n : goal.invariant-loop-n
invariant-loop-n l = Writing (book_of l.book) l.weights (length l.initial.run) l.parts l.at l.run

abbrev pub decreases-loop-n : goal.decreases-loop-n
decreases-loop-n l = visits_left (book_of l.book) l.weights l.parts
