-- `reader::pass_events` meets its contract. The loop's invariant: what is left of the events comes to where all of them stop, and the state
-- is sound.
use lib.ListN.{length}
use Rattle.plan.specs.Form.{plan_of}
use Rattle.reader.specs.Machine.{pass_of}
use Rattle.reader.proofs.RunUnderWay.{Going}
use Rattle.reader.proofs.pass_events.Given as goal

abbrev pub invariant-loop-at : goal.invariant-loop-at
invariant-loop-at l =
    Going (plan_of l.plan) l.run (pass_of (plan_of l.plan) 0 l.run 1 0 l.initial.held l.initial.tree)
    (length l.initial.held) (length l.initial.tree) l.at l.standing.count l.standing.written l.held l.tree
