-- `resolving::is_word_at` meets its contract.
use mathlib.Core.Path.{sym, ◌∙◌}
use Rattle.resolving.proofs.Letters.{begins_otherwise, goes_further, ends_there}
use Rattle.resolving.proofs.is_word_at.Goals as goal

pub returns-then-not-starts_with : goal.returns-then-not-starts_with
returns-then-not-starts_with c =
    begins_otherwise _ _ _ c.min-from.ensures (sym c.starts_with.ensures.value ∙ c.if-not-starts_with.true)

pub returns-then-is_letter : goal.returns-then-is_letter
returns-then-is_letter c =
    goes_further _ _ _ c.min-from.ensures c.look.ensures (sym c.is_letter.ensures ∙ c.if-is_letter.true)

pub returns : goal.returns
returns c =
    ends_there _ _ _ c.min-from.ensures (sym c.starts_with.ensures.value ∙ c.if-not-starts_with.false)
    c.look.ensures (sym c.is_letter.ensures ∙ c.if-is_letter.false) c.word_at.ensures
