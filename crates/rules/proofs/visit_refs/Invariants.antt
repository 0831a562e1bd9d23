-- `rules::visit_refs` meets its contract. The loop's invariant: the nodes from the one reached on have been visited.
use Rattle.book.specs.Form.{book_of}
use Rattle.rules.specs.Facts.{flat}
use Rattle.rules.specs.Growth.{masks, Narrow}
use Rattle.rules.specs.Step.{FactAt, RefClosed}
use Rattle.rules.proofs.Growing.{Turning, From}
use Rattle.rules.proofs.visit_refs.Given as goal

abbrev pub invariant-loop-n : goal.invariant-loop-n
invariant-loop-n l =
    Turning masks (FactAt (book_of l.book).node) (RefClosed (book_of l.book).node) (From l.n (book_of l.book).count) (flat l.initial.table) (flat l.table) l.changed
    × (Narrow (flat l.initial.table) → Narrow (flat l.table))
