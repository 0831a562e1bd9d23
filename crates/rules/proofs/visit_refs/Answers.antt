use Prim.Native.Nat.{◌<◌, ◌-◌}
use mathlib.Core.Path.{sym, ◌∙◌}
use native.Mathlib.Omega.{arith}
use Rattle.book.specs.Form.{book_of}
use Rattle.rules.proofs.Flat.{flat_at}
use Rattle.rules.proofs.Growing.{turning_none, turning_more, turning_past, turning_end, grown_sound}
use Rattle.rules.proofs.Reading.{left_or_zero}
use Rattle.rules.proofs.Climbing.{ref_visited, other_closed}
use Rattle.rules.proofs.visit_refs.Goals as goal

pub loop-n-init : goal.loop-n-init
loop-n-init c = (turning_none _ (λ n done. omega (arith, done, c.count-n.ensures.count)), λ narrow. narrow)

pub node-requires : goal.node-requires
node-requires c = omega (arith, c.loop-n-test.true, c.loop-n.auto.n, c.count-n.ensures.count)

pub offset_bounds-table-l : goal.offset_bounds-table-l
offset_bounds-table-l c =
    let below : c.loop-n.n - 1 < (book_of c.args.book.now).count = omega (arith, c.loop-n-test.true, c.loop-n.auto.n, c.count-n.ensures.count) in
    let inside = left_or_zero _ c.count-n.ensures.form below (sym c.in-Ref.is ∙ c.node.ensures) in
    record { fits = omega (arith, inside, c.count-n.ensures.few, c.count-n.ensures.count) }

pub slice_copy_out-facts : goal.slice_copy_out-facts
slice_copy_out-facts c =
    let below : c.loop-n.n - 1 < (book_of c.args.book.now).count = omega (arith, c.loop-n-test.true, c.loop-n.auto.n, c.count-n.ensures.count) in
    let inside = left_or_zero _ c.count-n.ensures.form below (sym c.in-Ref.is ∙ c.node.ensures) in
    omega (arith, inside, c.loop-n.auto.table, c.requires.count_in_bounds)

pub loop-n-preserved-in-Ref : goal.loop-n-preserved-in-Ref
loop-n-preserved-in-Ref c =
    let turning = c.loop-n.invariant.0 in (
      turning_more turning
          (ref_visited (grown_sound turning.grown c.requires.sound) (sym c.in-Ref.is ∙ c.node.ensures) (sym (flat_at c.loop-n.table _)) c.put-changed.ensures.put)
          (λ m more other. (omega (arith, more.0, other), more.1)),
      λ narrow. c.put-changed.ensures.narrow (c.loop-n.invariant.1 narrow),
    )

pub loop-n-preserved : goal.loop-n-preserved
loop-n-preserved c = (
  turning_past c.loop-n.invariant.0 (other_closed _ _ c.node.ensures c.in_default.not-Ref)
      (λ m more other. (omega (arith, more.0, other), more.1)),
  c.loop-n.invariant.1,
)

pub returns-clause-turned : goal.returns-clause-turned
returns-clause-turned c = turning_end c.loop-n.invariant.0 (λ n below. (omega (arith, c.loop-n-test.false), below))

pub returns-clause-narrow : goal.returns-clause-narrow
returns-clause-narrow c = c.loop-n.invariant.1
