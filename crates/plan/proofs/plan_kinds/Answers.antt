-- `plan::plan_kinds` meets its contract: the first number of the settings.
use borrow.Author.Rules.{rules}
use Rattle.plan.specs.Form.{plan_kinds}
use Rattle.plan.proofs.plan_kinds.Goals as goal

pub returns : goal.returns
unfolding plan_kinds
returns c = search rules
