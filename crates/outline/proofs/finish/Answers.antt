-- `outline::finish` meets its contract: a `)` stands there, or the rule's `;`.
use mathlib.Core.Path.{sym, ◌∙◌}
use borrow.Author.Tests.{eqb-true}
use Rattle.outline.proofs.Rules.{finish_shut, finish_read}
use Rattle.outline.proofs.finish.Goals as goal

pub returns-then-not-stands : goal.returns-then-not-stands
returns-then-not-stands c = finish_shut (sym c.stands.ensures ∙ c.if-not-stands.true)

pub returns : goal.returns
returns c = finish_read (eqb-true _ _ (sym c.stands.ensures ∙ c.if-not-stands.false)) c.skip_blanks.ensures
