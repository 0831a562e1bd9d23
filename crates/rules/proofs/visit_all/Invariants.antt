-- `rules::visit_all` meets its contract. The loop's invariant: the nodes so far have been visited.
use Rattle.book.specs.Form.{book_of}
use Rattle.rules.specs.Facts.{flat}
use Rattle.rules.specs.Growth.{Narrow}
use Rattle.rules.specs.Step.{Climbed}
use Rattle.rules.proofs.visit_all.Given as goal

abbrev pub invariant-loop-n : goal.invariant-loop-n
invariant-loop-n l =
    Climbed (book_of l.book).node l.n (flat l.initial.table) (flat l.table) l.changed
    × (Narrow (flat l.initial.table) → Narrow (flat l.table))
