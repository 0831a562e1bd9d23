-- `drums::refuse_event` meets its contract: the refusal tells stage and kinds, or it does not.
use mathlib.Core.Path.{sym, ◌∙◌}
use Rattle.drums.proofs.Parts.{whole_parts, small_place}
use Rattle.drums.proofs.Steps.{refusal-told, refusal_silent}
use Rattle.drums.proofs.refuse_event.Goals as goal

pub refuse-requires : goal.refuse-requires
refuse-requires c = (whole_parts c.requires, small_place c.requires)

pub returns-then-tells_kinds : goal.returns-then-tells_kinds
returns-then-tells_kinds c =
    rw c.from-number.ensures at c.refuse.ensures ∙ refusal-told _ _ _ _ (sym c.tells_kinds.ensures ∙ c.if-tells_kinds.true)

pub returns : goal.returns
returns c = rw c.from-number.ensures at c.answer.ensures ∙ refusal_silent _ _ _ _ (sym c.tells_kinds.ensures ∙ c.if-tells_kinds.false)
