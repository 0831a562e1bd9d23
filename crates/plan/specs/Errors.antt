-- What stands against a plan, by number and place; and the moves of a walk by their names.
use Rattle.book.specs.Form.{judged}
use Rattle.book.specs.declared.Judged.{Judged}
use Rattle.running.specs.Running.{Move, refuse, take_event, go_left, hold_right, skip_left, go_right}
use Rattle.plan.specs.Form.{PLAN-FORM, CELL}
use Rattle.plan.specs.declared.PlanError.{PlanError}
use Rattle.plan.specs.declared.PlanError.TheVariants.{Form, Cell}
use Rattle.plan.specs.declared.Step.{Step}
use Rattle.plan.specs.declared.Step.TheVariants.{Refuse, Take, Left, Hold, Skip, Right}

-- the number of what stands against a plan, with its place
abbrev pub judged_by : PlanError → Judged
judged_by Form = judged PLAN-FORM 0
judged_by (Cell place) = judged CELL place

-- the move of a walk that a step is
abbrev pub move_by : Step → Move
move_by Refuse = refuse
move_by Take = take_event
move_by Left = go_left
move_by Hold = hold_right
move_by Skip = skip_left
move_by Right = go_right
