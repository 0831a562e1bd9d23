-- `writer::put_book` meets its contract: the part of the bytes that is copied is the book's settings and nodes.
use mathlib.Core.Path.{ap, ◌∙◌}
use native.Mathlib.Omega.{arith}
use lib.ListN.{length}
use lib.Seq.{sets}
use Rattle.book.proofs.Decoded.{formed, nodes_end}
use Rattle.book.proofs.Rebuilt.{body_part}
use Rattle.plan.specs.Form.{plan_settings_at}
use Rattle.writer.specs.Bytes.{book_body}
use Rattle.writer.proofs.put_book.Goals as goal

pub put_part-requires : goal.put_part-requires
put_part-requires c =
    omega (arith, c.settings_at.ensures, nodes_end (formed c.args.book.now c.count.ensures.form), c.count.ensures.count, ap length c.bytes.ensures)

pub returns : goal.returns
unfolding book_body
returns c =
    let form = formed c.args.book.now c.count.ensures.form in
    c.put_part.ensures.copied
    ∙ rw (c.bytes.ensures, c.settings_at.ensures, c.count.ensures.count)
    (ap (sets c.args.plan.now plan_settings_at) (body_part c.args.book.now form (rw c.bytes.ensures at c.put_part.ensures.bytes_below)))
