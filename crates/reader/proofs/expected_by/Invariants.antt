-- `reader::expected_by` meets its contract. The loop's invariant: the kinds joined so far, with those that the parts left expect, are those
-- that all parts expect. The measure is the parts left.
use Prim.Native.Nat.{◌≤◌}
use Rattle.running.specs.Running.{expected}
use Rattle.running.specs.Stages.{nodes_of}
use Rattle.plan.specs.Form.{plan_of}
use Rattle.reader.specs.Machine.{stack}
use Rattle.reader.proofs.Rows.{Joining}
use Rattle.reader.proofs.expected_by.Given as goal

abbrev pub invariant-loop-parts : goal.invariant-loop-parts
invariant-loop-parts l =
    (l.parts ≤ l.count) × Joining (plan_of l.plan) l.held (expected (plan_of l.plan) (nodes_of (stack l.held l.count))) l.set l.parts

abbrev pub decreases-loop-parts : goal.decreases-loop-parts
decreases-loop-parts l = l.parts
