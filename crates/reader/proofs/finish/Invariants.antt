-- `reader::finish` meets its contract. The loop's invariant: taking the parts left off comes to the run's end, and the state is sound. The
-- measure is the parts left.
use Prim.Native.Nat.{◌+◌}
use lib.ListN.{length}
use Rattle.plan.specs.Form.{plan_count, plan_of}
use Rattle.reader.specs.Machine.{finish_of}
use Rattle.reader.proofs.PartsTakenOff.{Taking}
use Rattle.reader.proofs.finish.Given as goal

abbrev pub invariant-loop-standing : goal.invariant-loop-standing
invariant-loop-standing l =
    Taking (finish_of (plan_of l.plan)) (finish_of (plan_of l.plan) l.fn.standing.count l.fn.standing.written l.held l.initial.tree)
    (plan_count l.plan) (length l.held) (length l.initial.tree) (l.fn.standing.written + l.fn.standing.count) l.standing.count l.standing.written l.held l.tree

abbrev pub decreases-loop-standing : goal.decreases-loop-standing
decreases-loop-standing l = l.standing.count
