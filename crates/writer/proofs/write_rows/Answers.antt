use mathlib.Core.Path.{◌≡◌, ap, ◌∙◌}
use native.Mathlib.Omega.{arith}
use lib.Seq.{sets}
use Rattle.book.specs.Form.{book_of}
use Rattle.writer.specs.Bytes.{row_of}
use Rattle.writer.specs.Table.{marks_of}
use Rattle.rules.specs.Facts.{flat}
use Rattle.rules.proofs.Flat.{flat_length}
use Rattle.plan.proofs.Rows.{first_row, next_at}
use Rattle.writer.proofs.StoredByKinds.{clear_behind}
use Rattle.writer.proofs.Stored.{lists_none, lists_more, lists_all}
use Rattle.writer.proofs.Writing.{writable_kept, row_fits, row_length, rows_are}
use Rattle.writer.proofs.write_rows.Goals as goal

pub loop-n-init : goal.loop-n-init
loop-n-init c = rw c.count.ensures.count (lists_none _ _ _ _, first_row _ _, c.requires.clear)

pub row_of-requires-clause-count_in_bounds : goal.row_of-requires-clause-count_in_bounds
row_of-requires-clause-count_in_bounds c =
    let writable = c.requires.writable in
    omega (arith, writable.table_long, flat_length c.args.table.now)

pub put_row-requires : goal.put_row-requires
put_row-requires c =
    let inv = c.loop-n.invariant in
    (rw c.kinds-kinds.ensures.kinds (row_fits (writable_kept inv.0.long c.requires.writable) (omega (arith, c.loop-n-test.true)) inv.1), c.kinds-kinds.ensures.few, inv.2)

pub loop-n-preserved : goal.loop-n-preserved
loop-n-preserved c =
    let book = c.args.book.now in
    let inv = c.loop-n.invariant in
    let long = row_length c.requires.writable in
    let row = row_of (marks_of (flat c.args.table.now) (book_of book).count) (book_of book) c.loop-n.n in
    let written : c.put_row.new.plan ≡ sets c.loop-n.plan c.loop-n.at row =
    c.put_row.ensures ∙ rw c.kinds-kinds.ensures.kinds (ap (sets c.loop-n.plan c.loop-n.at) c.row_of.ensures) in
    rw c.kinds-kinds.ensures.kinds (
      lists_more _ inv.0 (omega (arith, c.loop-n-test.true)) written (rw long),
      next_at _ _ _ inv.1,
      clear_behind row inv.2 written (rw long),
    )

pub returns : goal.returns
returns c =
    lists_all _ c.loop-n.invariant.0 (omega (arith, c.loop-n-test.false)) ∙ ap (sets _ _) (rows_are c.requires.writable)
