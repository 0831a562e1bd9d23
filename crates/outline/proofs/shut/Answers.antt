-- `outline::shut` meets its contract: the expression within is not closed, or is closed.
use mathlib.Core.Path.{sym, ◌∙◌}
use borrow.Author.Tests.{eqb-true}
use Rattle.outline.proofs.Factors.{shut_open, shut_closed}
use Rattle.outline.proofs.shut.Goals as goal

pub returns-then-not-stands : goal.returns-then-not-stands
returns-then-not-stands c = shut_open (sym c.stands.ensures ∙ c.if-not-stands.true)

pub returns : goal.returns
returns c = shut_closed (eqb-true _ _ (sym c.stands.ensures ∙ c.if-not-stands.false))
