-- `writer::write_plan` meets its contract: the parts stored one behind the other are the plan.
use mathlib.Core.Path.{ap, ◌∙◌}
use lib.Seq.{sets}
use Rattle.writer.proofs.Writing.{rows_ready, same_rows, dues_are, plan-written}
use Rattle.writer.proofs.write_plan.Goals as goal

pub write_rows-requires-clause-clear : goal.write_rows-requires-clause-clear
write_rows-requires-clause-clear c =
    let (writable, zeros) = c.requires.writable in
    (rows_ready writable zeros (rw (c.count-count.ensures.count, c.kinds-kinds.ensures.kinds) at c.put_plan_contents.ensures) c.put_book.ensures).1

pub returns : goal.returns
returns c =
    let lengths = c.args.lengths.now in
    let (writable, zeros) = c.requires.writable in
    plan-written writable _ zeros (rw (c.count-count.ensures.count, c.kinds-kinds.ensures.kinds) at c.put_plan_contents.ensures) c.put_book.ensures
    (c.write_rows.ensures ∙ ap (sets _ _) (same_rows writable lengths))
    ((rw (c.count-count.ensures.count, c.kinds-kinds.ensures.kinds) at c.write_dues.ensures) ∙ ap (sets _ _) (dues_are writable lengths))
