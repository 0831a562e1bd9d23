-- `profile::raise_all` meets its contract. The loop's invariant: the first steps of the turn have been made.
use Rattle.book.specs.Form.{book_of}
use Rattle.rules.proofs.Growing.{Turning, Below}
use Rattle.profile.specs.Weights.{weighing, WeightAt, WeightClosed}
use Rattle.profile.proofs.raise_all.Given as goal

abbrev pub invariant-loop-n : goal.invariant-loop-n
invariant-loop-n l =
    Turning weighing (WeightAt (book_of l.known.bytes).node) (WeightClosed (book_of l.known.bytes).node l.known.table) (Below l.n) l.initial.weights l.weights l.changed
