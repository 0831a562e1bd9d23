use mathlib.Core.Path.{◌≡◌, refl, sym, ◌∙◌}
use mathlib.Core.Bool.{cond}
use native.Mathlib.Omega.{arith}
use lib.ListN.{length-set}
use Rattle.writer.proofs.StoredByKinds.{by_kinds_none, by_kinds_less, by_kinds_more, by_kinds_all}
use Rattle.kinds.specs.Kinds.{has?}
use Rattle.writer.proofs.put_row.Goals as goal
use Rattle.writer.proofs.put_row.Goals.{then-has, else-has}

pub loop-k-init : goal.loop-k-init
loop-k-init c = (by_kinds_none _ _ _ _ _ (omega arith) c.requires.2, c.lowest-k.ensures)

pub loop-k-smaller : goal.loop-k-smaller
loop-k-smaller c =
    let inv = c.loop-k.invariant in
    by_kinds_less _ _ _ _ inv.0 inv.1 c.requires.1 c.loop-k-test.true c.without-rest.ensures

pub loop-k-preserved : goal.loop-k-preserved
loop-k-preserved c =
    let inv = c.loop-k.invariant in
    let pre = c.requires in
    let row = c.args.row in
    let chosen : c.if-has.plan ≡ cond (has? row.left c.loop-k.k) row.near row.far =
    elim c.if-has.branch [
      | then-has w ↦ w.plan-is ∙ rw (sym c.has.ensures ∙ w.if-has.true) refl
      | else-has w ↦ w.plan-is ∙ rw (sym c.has.ensures ∙ w.if-has.false) refl
    ]
    in (
      by_kinds_more _ _ _ _ inv.0 inv.1 pre.1 (omega (arith, pre.0)) c.loop-k-test.true chosen c.without-rest.ensures,
      c.lowest-k-in-loop-k.ensures,
    )

pub bounds-plan-at-2 : goal.bounds-plan-at-2
bounds-plan-at-2 c = omega (arith, c.loop-k.invariant.0.long)

pub shape_of-plan : goal.shape_of-plan
shape_of-plan c = length-set c.loop-k.plan _ _ ∙ c.loop-k.invariant.0.long

pub returns : goal.returns
returns c =
    let inv = c.loop-k.invariant in
    by_kinds_all _ _ _ _ inv.0 inv.1 _ (omega (arith, c.requires.0)) c.loop-k-test.false
