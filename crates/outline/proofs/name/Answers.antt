-- `outline::name` meets its contract: no letter stands there, there are too many, they are `empty`, no `=` follows, or one does.
use native.Mathlib.Omega.{arith}
use mathlib.Core.Path.{sym, ◌∙◌}
use borrow.Author.Tests.{eqb-true}
use Rattle.outline.proofs.Rules.{name_none, name_long, name_empty, name_unequal, name_read}
use Rattle.outline.proofs.name.Goals as goal

pub returns-then-end-at : goal.returns-then-end-at
returns-then-end-at c = name_none c.requires.0 c.requires.1 (rw c.if-end-at.true at c.letters_end-end.ensures.past)

pub returns-then-end-at-gt-LETTERS : goal.returns-then-end-at-gt-LETTERS
returns-then-end-at-gt-LETTERS c = name_long c.letters_end-end.ensures (omega arith)

pub returns-then-is_empty : goal.returns-then-is_empty
returns-then-is_empty c =
    name_empty
    c.letters_end-end.ensures
    (omega (arith, c.letters_end-end.ensures.low))
    (omega arith)
    (sym c.is_empty.ensures ∙ c.if-is_empty.true)

pub returns-then-not-stands : goal.returns-then-not-stands
returns-then-not-stands c =
    name_unequal
    c.letters_end-end.ensures
    (omega (arith, c.letters_end-end.ensures.low))
    (omega arith)
    (sym c.is_empty.ensures ∙ c.if-is_empty.false)
    c.skip_blanks-equals.ensures
    (sym c.stands.ensures ∙ c.if-not-stands.true)

pub returns : goal.returns
returns c =
    name_read
    c.letters_end-end.ensures
    (omega (arith, c.letters_end-end.ensures.low))
    (omega arith)
    (sym c.is_empty.ensures ∙ c.if-is_empty.false)
    c.skip_blanks-equals.ensures
    (eqb-true _ _ (sym c.stands.ensures ∙ c.if-not-stands.false))
