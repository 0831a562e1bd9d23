-- `unread::write_run` meets its contract: the book's refusal, or what reading the tree and the two tests of its events come to.
use native.Mathlib.Omega.{arith}
use Rattle.unread.specs.declared.UnreadError.TheVariants.{Judged}
use Rattle.unread.proofs.Settling.{book_refused, handed_on, tree_read, not_tree, too_many, no_room, written_out}
use Rattle.unread.proofs.write_run.Goals as goal

pub returns-in_err-passed : goal.returns-in_err-passed
returns-in_err-passed c =
    handed_on _ _ _ (Judged c.in_err-passed.field-0.0) c.from_residual.ensures.1 (book_refused _ c.in_err-passed.ensures)

pub read_tree-requires : goal.read_tree-requires
read_tree-requires c = rw c.in_ok-passed.ensures.0 c.in_ok-passed.ensures.1

pub returns-in_err-events : goal.returns-in_err-events
returns-in_err-events c =
    let passed = c.in_ok-passed.ensures in
    let clear = c.fill.ensures.after (λ y is. is) in
    handed_on _ _ _ c.in_err-events.field-0.0 c.from_residual-in_err-events.ensures.1
    (not_tree _ _ clear (rw passed.0 at c.read_tree.ensures) c.map_err.ensures.cases passed.1.judges c.in_err-events.was)

pub returns-then-events-gt-MOST_EVENTS : goal.returns-then-events-gt-MOST_EVENTS
returns-then-events-gt-MOST_EVENTS c =
    let passed = c.in_ok-passed.ensures in
    let clear = c.fill.ensures.after (λ y is. is) in
    let read = tree_read _ _ clear (rw passed.0 at c.read_tree.ensures) c.map_err.ensures.cases c.in_ok-events.was in
    too_many passed.1.judges read c.if-events-gt-MOST_EVENTS.true

pub returns-then-run-events : goal.returns-then-run-events
returns-then-run-events c =
    let passed = c.in_ok-passed.ensures in
    let clear = c.fill.ensures.after (λ y is. is) in
    let read = tree_read _ _ clear (rw passed.0 at c.read_tree.ensures) c.map_err.ensures.cases c.in_ok-events.was in
    no_room passed.1.judges read (omega (arith, c.if-events-gt-MOST_EVENTS.false))
    (omega (arith, c.if-run-events.true, c.read_tree.ensures.kept, c.fill.ensures.len))

pub returns : goal.returns
returns c =
    let passed = c.in_ok-passed.ensures in
    let clear = c.fill.ensures.after (λ y is. is) in
    let read = tree_read _ _ clear (rw passed.0 at c.read_tree.ensures) c.map_err.ensures.cases c.in_ok-events.was in
    written_out passed.1.judges read (omega (arith, c.if-events-gt-MOST_EVENTS.false))
    (omega (arith, c.if-run-events.false, c.read_tree.ensures.kept, c.fill.ensures.len))
