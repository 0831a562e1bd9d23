-- `plan::bad_column` meets its contract: the first bad cell for a kind, or the last cell.
use mathlib.Core.Path.{◌∙◌}
use mathlib.Core.Bool.{true, false}
use borrow.Author.Rules.{rules}
use borrow.Author.Tests.{tests}
use Rattle.std.proofs.lemmas.Iterator.{IsFirst-from_position, YieldsList-from_slice}
use Rattle.plan.proofs.Columns.{Tested, first_column}
use Rattle.plan.proofs.bad_column.Goals as goal

pub returns : goal.returns
returns c =
    let a = c.args in
    c.unwrap_or.ensures
    ∙ first_column a.plan.now a.at a.kinds a.one a.other _
    (IsFirst-from_position _ _ _ (Tested a.plan.now a.at a.kinds a.one a.other false) (Tested a.plan.now a.at a.kinds a.one a.other true)
    c.position.ensures.ran (YieldsList-from_slice _ c.iter.ensures.rest)
    (λ x q k. search (rules, tests)) (λ x q k. search (rules, tests)))
    c.requires.0 c.requires.1
