-- `drums::start` meets its contract: the start is held in the first slot.
use mathlib.Core.Path.{◌∙◌}
use native.Mathlib.Omega.{arith}
use Rattle.plan.specs.Form.{plan_from}
use Rattle.plan.proofs.Runnable.{own, few_nodes}
use Rattle.drums.proofs.Parts.{start_held, opened_is}
use Rattle.drums.proofs.start.Goals as goal

pub go_on-requires : goal.go_on-requires
go_on-requires c = (start_held _ (few_nodes (own _ c.start.ensures.good)) c.start.ensures.below, omega arith)

pub returns : goal.returns
unfolding plan_from
returns c = c.go_on.ensures ∙ opened_is _ _ c.start.ensures.start (omega (arith, c.start.ensures.few))
