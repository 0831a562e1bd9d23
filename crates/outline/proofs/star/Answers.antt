-- `outline::star` meets its contract: the factor has no star, or has one.
use mathlib.Core.Path.{sym, ◌∙◌}
use borrow.Author.Tests.{eqb-true}
use Rattle.outline.proofs.Factors.{star_none, star_one}
use Rattle.outline.proofs.star.Goals as goal

pub returns-then-not-stands : goal.returns-then-not-stands
returns-then-not-stands c = star_none c.skip_blanks-place.ensures (sym c.stands.ensures ∙ c.if-not-stands.true)

pub returns : goal.returns
returns c =
    star_one
    c.skip_blanks-place.ensures
    (eqb-true _ _ (sym c.stands.ensures ∙ c.if-not-stands.false))
    c.put_star-next.ensures
    c.skip_blanks-end.ensures
