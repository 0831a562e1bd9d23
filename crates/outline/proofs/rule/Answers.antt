-- `outline::rule` meets its contract: the name or the expression is wrong, or the rule's expression is read as its body.
use Rattle.std.proofs.lemmas.Result.{MatchResult-weaker}
use Rattle.outline.proofs.Handing.{handed_on}
use Rattle.outline.proofs.Rules.{rule_wrong, rule_as}
use Rattle.outline.proofs.rule.Goals as goal

pub returns-in_err-read : goal.returns-in_err-read
returns-in_err-read c =
    handed_on _ _ _ c.from_residual-in_err-read.ensures.1 (rule_wrong c.in_ok-begin.ensures c.in_err-read.ensures)

pub returns : goal.returns
returns c =
    MatchResult-weaker _ c.finish.ensures
    (λ body finished. rule_as c.in_ok-begin.ensures (finished.body c.in_ok-read.ensures))
    (λ place broken. rule_wrong c.in_ok-begin.ensures (broken.wrong c.in_ok-read.ensures))
