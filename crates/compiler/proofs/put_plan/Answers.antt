-- `compiler::put_plan` meets its contract: the plan is written where there is room for it.
use Rattle.compiler.proofs.Answers.{answered_no_room, answered_done}
use Rattle.compiler.proofs.put_plan.Goals as goal

pub returns-then-plan-size : goal.returns-then-plan-size
returns-then-plan-size c =
    let size = rw (c.count.ensures.count, c.kinds.ensures.kinds, c.book-book.ensures.book) at c.plan_size-size.ensures.0 in
    answered_no_room c.requires.judges size c.if-plan-size.true c.requires.clear

pub returns : goal.returns
returns c =
    let same = c.book-book.ensures.book in
    let size = rw (c.count.ensures.count, c.kinds.ensures.kinds, same) at c.plan_size-size.ensures.0 in
    let hand = c.book-book.ensures.at_hand in
    let lengths = rw (c.nodes.ensures.node, c.nodes.ensures.count, same) at c.least_lengths.ensures in
    answered_done c.requires.judges size hand.known lengths c.if-plan-size.false
    (rw (same, c.table.ensures) at c.write_plan.ensures)
