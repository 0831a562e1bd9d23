use Prim.Native.Nat.{◌<◌}
use mathlib.Core.Path.{◌≡◌, ◌∙◌}
use native.Mathlib.Omega.{arith}
use lib.ListN.{length}
use Rattle.rules.proofs.Growing.{turning_more, turning_past, grown_sound, turning_end, or_true, given_before, order_below, order_all}
use Rattle.rules.proofs.Reading.{read_left_or_zero, read_right_or_zero, read_kind}
use Rattle.book.specs.Nodes.{node_in}
use Rattle.lengths.specs.Measures.{fitting_laws}
use Rattle.lengths.specs.Falling.{measure_at}
use Rattle.lengths.proofs.Kinded.{nodes_kinded, kinded_fitting}
use Rattle.lengths.proofs.Lowering.{get_d_within, kept_closed, visit_lowers}
use Rattle.lengths.proofs.lower_all.Goals.{then-new-measure_at, else-new-measure_at}
use Rattle.lengths.proofs.lower_all.Goals as goal

pub measure_by-new-requires : goal.measure_by-new-requires
measure_by-new-requires g c =
    let known = c.count-count.ensures in
    let below = order_below c.requires.order known.count (omega arith) c.order-n.ensures in
    let read = rw c.own-own.ensures at c.node.ensures in
    let long = c.loop-step.auto.table in
    let pre = c.requires in
    record {
      left_in_bounds = omega (arith, read_left_or_zero {at = c.args.nodes.now} known.good below read, pre.count_in_bounds, long);
      right_in_bounds = omega (arith, read_right_or_zero {at = c.args.nodes.now} known.good below read, pre.count_in_bounds, long);
      kind_bound = read_kind {at = c.args.nodes.now} known.good below read;
    }

pub loop-step-preserved : goal.loop-step-preserved
loop-step-preserved g c =
    let known = c.count-count.ensures in
    let laws = fitting_laws g.met.M.Measure.laws in
    let turning = c.loop-step.invariant in
    let read = rw c.own-own.ensures at c.node.ensures in
    let inside : c.order-n.result < length c.loop-step.table =
    omega (
      arith,
      order_below c.requires.order known.count (omega arith) c.order-n.ensures,
      c.requires.count_in_bounds,
      c.loop-step.auto.table,
    ) in
    let old : c.measure_at.result ≡ measure_at g.M.Measure.CAP c.loop-step.table c.order-n.result =
    c.measure_at.ensures.0 ∙ get_d_within c.loop-step.table c.order-n.result 0 g.M.Measure.CAP inside in
    elim c.if-new-measure_at.branch [
      | then-new-measure_at w ↦
          let visited = visit_lowers laws (kinded_fitting laws (node_in c.args.nodes.now) (nodes_kinded c.args.nodes.now known.good)) read c.measure_by-new.ensures
          (grown_sound turning.grown c.requires.sound) inside (omega (arith, w.if-new-measure_at.true, old)) in
          rw (w.table-is, w.changed-is, ← or_true c.loop-step.changed) (turning_more turning visited (given_before c.order-n.ensures))
      | else-new-measure_at w ↦
          let closed = kept_closed laws read c.measure_by-new.ensures (omega (arith, w.if-new-measure_at.false, old)) in
          rw (w.table-is, w.changed-is) (turning_past turning closed (given_before c.order-n.ensures))
    ]

pub returns-clause-lowered : goal.returns-clause-lowered
returns-clause-lowered g c =
    turning_end c.loop-step.invariant (order_all c.requires.order c.count-count.ensures.count (omega arith))
