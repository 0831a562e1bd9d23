use mathlib.Core.Path.{refl, ◌∙◌}
use Prim.Native.Nat.{◌+◌}
use native.Mathlib.Numerals.{add-one}
use native.Mathlib.Omega.{arith}
use lib.Seq.{get_or-take, length-take-le}
use Rattle.lengths.specs.Falling.{smaller}
use Rattle.lengths.proofs.Cutting.{smaller_right}
use Rattle.reader.specs.Machine.{stack}
use Rattle.drums.specs.Drums.{most_due, due_of}
use Rattle.drums.proofs.Tests.{smaller_is}
use Rattle.drums.proofs.due_sum.Goals as goal

pub loop-slot-init : goal.loop-slot-init
unfolding due_of stack
loop-slot-init c = (refl, omega arith)

pub loop-slot-preserved : goal.loop-slot-preserved
unfolding due_of stack
loop-slot-preserved c =
    let a = c.args in
    let below = rw (length-take-le a.held a.slots.now c.requires.few) at c.loop-slot-test.true in
    let due_is = rw (get_or-take a.held a.slots.now c.loop-slot.slot-index 0 below) at c.due.ensures.due in
    let cut_is = c.min-sum.ensures ∙ smaller_is (c.due.result + c.loop-slot.sum) most_due in (
      rw (add-one c.loop-slot.slot-index) (cut_is ∙ (λ i. smaller (due_is i + c.loop-slot.invariant.0 i) most_due)),
      rw cut_is (smaller_right (c.due.result + c.loop-slot.sum) most_due),
    )
