use mathlib.Core.Path.{sym}
use Rattle.due.proofs.Looking.{looking_begun, over_emptied, over_node, found_here, start_due, tree_whole}
use Rattle.due.proofs.past.Past.due.Goals as goal

pub loop-at-init : goal.loop-at-init
loop-at-init c = rw (sym c.self.view_is) (looking_begun _ _ _)

pub loop-at-preserved-then-given-ge-EMPTY : goal.loop-at-preserved-then-given-ge-EMPTY
loop-at-preserved-then-given-ge-EMPTY c =
    rw (sym c.self.view_is)
    (over_emptied c.loop-at-test.true (rw (sym c.self.view_is) at c.loop-at.invariant) c.from-given.ensures c.if-given-ge-EMPTY.true)

pub returns-in_default : goal.returns-in_default
returns-in_default c =
    rw (sym c.self.view_is)
    (found_here c.loop-at-test.true (rw (sym c.self.view_is) at c.loop-at.invariant) c.from-given.ensures c.if-given-ge-EMPTY.false
    c.node-node.ensures c.found_at.ensures c.in_default.not-Nothing)

pub loop-at-preserved : goal.loop-at-preserved
loop-at-preserved c =
    rw (sym c.self.view_is)
    (over_node c.loop-at-test.true (rw (sym c.self.view_is) at c.loop-at.invariant) c.from-given.ensures c.if-given-ge-EMPTY.false
    c.node-node.ensures c.found_at.ensures c.in-Nothing.is c.whole_from-whole.ensures)

pub returns-then-whole-eq0 : goal.returns-then-whole-eq0
returns-then-whole-eq0 c =
    rw (c.start.ensures.start, sym c.self.view_is)
    (start_due c.loop-at-test.false (rw (sym c.self.view_is) at c.loop-at.invariant) c.if-whole-eq0.true)

pub returns-else-whole-eq0 : goal.returns-else-whole-eq0
returns-else-whole-eq0 c = tree_whole c.loop-at-test.false c.loop-at.invariant c.if-whole-eq0.false
