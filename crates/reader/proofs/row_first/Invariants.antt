-- `reader::row_first` meets its contract. The loop's invariant: the set has the kinds passed.
use mathlib.Core.Path.{◌≡◌}
use Rattle.running.specs.Running.{row_first}
use Rattle.plan.specs.Form.{plan_of}
use Rattle.reader.proofs.row_first.Given as goal

abbrev pub invariant-loop-kind : goal.invariant-loop-kind
invariant-loop-kind l = l.first ≡ row_first (plan_of l.plan) l.node l.kind
