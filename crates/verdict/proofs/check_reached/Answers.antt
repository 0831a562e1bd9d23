use mathlib.Core.Path.{sym, ◌∙◌}
use native.Mathlib.Omega.{arith}
use Rattle.std.proofs.Common.{below_more}
use Rattle.verdict.proofs.Lowest.{reached_all, answered_unused, marked_here}
use Rattle.verdict.proofs.check_reached.Goals as goal

pub returns-then-reach : goal.returns-then-reach
returns-then-reach c =
    let (reached, all) = rw (c.nodes.ensures.node, c.nodes.ensures.count, c.start.ensures.start) at c.reach.ensures in
    reached_all c.args.book.now reached (all c.if-reach.true)

pub loop-n-preserved : goal.loop-n-preserved
loop-n-preserved c = below_more _ _ c.loop-n.invariant (marked_here c.is_marked.ensures c.if-not-is_marked.false)

pub returns-then-not-is_marked : goal.returns-then-not-is_marked
returns-then-not-is_marked c =
    let (reached, all) = rw (c.nodes.ensures.node, c.nodes.ensures.count, c.start.ensures.start) at c.reach.ensures in
    answered_unused c.args.book.now reached c.count-n-end.ensures.form (omega (arith, c.loop-n-test.true, c.count-n-end.ensures.count))
    c.loop-n.invariant
    (sym c.is_marked.ensures ∙ c.if-not-is_marked.true)

pub returns : goal.returns
returns c =
    let (reached, all) = rw (c.nodes.ensures.node, c.nodes.ensures.count, c.start.ensures.start) at c.reach.ensures in
    reached_all c.args.book.now reached (λ m below. c.loop-n.invariant m (omega (arith, c.loop-n-test.false, c.count-n-end.ensures.count)))
