-- `writer::write_rows` meets its contract. The loop's invariant: the rows left to store make up all rows, and `at` is where the next
-- begins, with zeros from there on.
use mathlib.Core.Path.{◌≡◌}
use Rattle.book.specs.Form.{book_of}
use Rattle.rules.specs.Facts.{flat}
use Rattle.plan.specs.Form.{rows_at, row_at}
use Rattle.writer.specs.Bytes.{row_of}
use Rattle.writer.specs.Table.{marks_of, ClearFrom}
use Rattle.writer.proofs.Stored.{ListsStored}
use Rattle.writer.proofs.write_rows.Given as goal

abbrev pub invariant-loop-n : goal.invariant-loop-n
invariant-loop-n l =
    ListsStored (row_of (marks_of (flat l.table) (book_of l.book).count) (book_of l.book)) l.initial.plan l.plan
    (rows_at (book_of l.book).count) (book_of l.book).count l.at l.n
    × (l.at ≡ row_at (book_of l.book).count (book_of l.book).kinds l.n)
    × ClearFrom l.plan l.at
