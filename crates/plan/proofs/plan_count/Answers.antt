-- `plan::plan_count` meets its contract: the length of section 2 by 6.
use borrow.Author.Rules.{rules}
use Rattle.plan.specs.Form.{plan_count}
use Rattle.plan.proofs.plan_count.Goals as goal

pub returns : goal.returns
unfolding plan_count
returns c = search rules
