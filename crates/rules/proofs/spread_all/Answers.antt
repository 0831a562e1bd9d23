use native.Mathlib.Omega.{arith}
use Rattle.rules.proofs.Growing.{turning_none, turning_more, turning_past, turning_end, grown_sound, given_before, order_below, order_all}
use Rattle.rules.proofs.Reading.{read_left, read_right}
use Rattle.rules.proofs.Spreading.{told_marked, children_spread, unmarked_closed}
use Rattle.rules.proofs.spread_all.Goals.{then-is_marked, else-is_marked}
use Rattle.rules.proofs.spread_all.Goals as goal

pub loop-step-init : goal.loop-step-init
loop-step-init g c = λ start sound. turning_none _ (λ n done. omega (arith, done))

pub mark-left-requires : goal.mark-left-requires
mark-left-requires g c =
    let known = c.count-count.ensures in
    let below = order_below c.requires.order known.count c.loop-step-test.true c.order-n.ensures in
    let read = rw c.own-own.ensures at c.node-node.ensures in
    let inside = read_left {at = c.args.nodes.now} known.good below read in
    omega (arith, c.left_from.ensures, inside, known.count, known.few, c.loop-step.auto.marks, c.requires.marks_size_in_bounds)

pub mark-right-requires : goal.mark-right-requires
mark-right-requires g c =
    let known = c.count-count.ensures in
    let below = order_below c.requires.order known.count c.loop-step-test.true c.order-n.ensures in
    let read = rw c.own-own.ensures at c.node-node.ensures in
    omega (
      arith,
      c.right_from.ensures,
      read_right {at = c.args.nodes.now} known.good below read,
      known.count,
      known.few,
      c.mark-left.auto.marks,
      c.loop-step.auto.marks,
      c.requires.marks_size_in_bounds,
    )

pub loop-step-preserved : goal.loop-step-preserved
loop-step-preserved g c start sound =
    let known = c.count-count.ensures in
    let below = order_below c.requires.order known.count c.loop-step-test.true c.order-n.ensures in
    let turning = c.loop-step.invariant start sound in
    elim c.if-is_marked.branch [
      | then-is_marked w ↦
          let here = told_marked c.is_marked.ensures w.if-is_marked.true in
          let read = rw c.own-own.ensures at w.node-node.ensures in
          let spread = children_spread {nodes = c.args.nodes.now} known.good below read
          (omega (arith, c.loop-step.auto.marks, c.requires.marks_size_in_bounds)) here
          w.left_from.ensures w.mark-left.ensures w.right_from.ensures w.mark-right.ensures in
          rw (w.marks-is, w.changed-is) (turning_more turning (spread.from start (grown_sound turning.grown sound)) (given_before c.order-n.ensures))
      | else-is_marked w ↦
          let closed = unmarked_closed c.is_marked.ensures w.if-is_marked.false in
          rw (w.marks-is, w.changed-is) (turning_past turning closed (given_before c.order-n.ensures))
    ]

pub returns : goal.returns
returns g c = record {
  from = λ start sound. turning_end (c.loop-step.invariant start sound) (order_all c.requires.order c.count-count.ensures.count c.loop-step-test.false);
}
