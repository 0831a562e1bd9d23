-- `resolving::past_rule` meets its contract.
use mathlib.Core.Bool.{not}
use lib.Dec.{eqb}
use borrow.Author.Rules.{rules}
use Rattle.resolving.proofs.Letters.{by_test, rule_passed, rule_missed}
use Rattle.resolving.proofs.past_rule.Goals as goal

pub returns-then-end-text : goal.returns-then-end-text
returns-then-end-text c =
    rule_passed (by_test (λ byte. not (eqb byte 59)) (λ byte r met. search rules) c.past-end.ensures) c.if-end-text.true

pub returns-else-end-text : goal.returns-else-end-text
returns-else-end-text c =
    rule_missed (by_test (λ byte. not (eqb byte 59)) (λ byte r met. search rules) c.past-end.ensures) c.if-end-text.false
