-- `drums::due_sum` meets its contract. The loop's invariant: the sum is that of the parts in the slots passed, and it is cut.
use Prim.Native.Nat.{◌≤◌}
use mathlib.Core.Path.{◌≡◌}
use Rattle.plan.specs.Form.{plan_of}
use Rattle.reader.specs.Machine.{stack}
use Rattle.drums.specs.Drums.{most_due, due_of}
use Rattle.drums.proofs.due_sum.Given as goal

abbrev pub invariant-loop-slot : goal.invariant-loop-slot
invariant-loop-slot l =
    (l.sum ≡ due_of (plan_of l.plan) (stack l.slots l.slot-index)) × (l.sum ≤ most_due)
