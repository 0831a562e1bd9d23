-- `plan::plan_start` meets its contract: the second number of the settings.
use borrow.Author.Rules.{rules}
use Rattle.plan.specs.Form.{plan_start}
use Rattle.plan.proofs.plan_start.Goals as goal

pub returns : goal.returns
unfolding plan_start
returns c = search rules
