-- `reader::walk` meets its contract. The loop's invariant: what is left of the walk comes to the whole walk's end, and the state is sound.
use Prim.Native.Nat.{◌+◌, ◌*◌, ◌-◌}
use lib.ListN.{length}
use Rattle.plan.specs.Form.{plan_count, plan_of}
use Rattle.reader.specs.Machine.{walk_of}
use Rattle.reader.proofs.WalkUnderWay.{Walking}
use Rattle.reader.proofs.walk.Given as goal

abbrev pub invariant-loop : goal.invariant-loop
invariant-loop l =
    let first = l.fn.standing in
    let nodes = plan_count l.plan in
    Walking (plan_of l.plan) l.kind
    (walk_of (plan_of l.plan) l.kind nodes l.from l.outer first.count first.written l.initial.held l.initial.tree)
    (length l.initial.held) (length l.initial.tree) (first.written + first.count + 2 * nodes) (nodes - l.counter) l.node l.label
    l.standing.count l.standing.written l.held l.tree
