-- `plan::step_of` meets its contract, cell by cell.
use mathlib.Core.Path.{refl}
use Rattle.running.specs.Running.{move_of}
use Rattle.plan.proofs.Steps.{no_step}
use Rattle.plan.proofs.step_of.Goals as goal

pub returns-in-1 : goal.returns-in-1
unfolding move_of
returns-in-1 c = rw c.in-1.is refl

pub returns-in-2 : goal.returns-in-2
unfolding move_of
returns-in-2 c = rw c.in-2.is refl

pub returns-in-3 : goal.returns-in-3
unfolding move_of
returns-in-3 c = rw c.in-3.is refl

pub returns-in-4 : goal.returns-in-4
unfolding move_of
returns-in-4 c = rw c.in-4.is refl

pub returns-in-5 : goal.returns-in-5
unfolding move_of
returns-in-5 c = rw c.in-5.is refl

pub returns-in_default : goal.returns-in_default
returns-in_default c = search no_step
