-- `resolving::named_before` meets its contract.
use mathlib.Core.Path.{sym, ◌∙◌}
use Rattle.resolving.proofs.Lines.{rule_first, rule-next, not_before_none, not_before_more, before_here}
use Rattle.resolving.proofs.named_before.Goals as goal

pub loop-init : goal.loop-init
loop-init c = (c.past_blanks-at.ensures ∙ rule_first _, not_before_none _ _)

pub returns-then-is_word_at : goal.returns-then-is_word_at
returns-then-is_word_at c =
    sym (before_here _ _ _ c.loop.invariant.0 (sym c.is_word_at.ensures ∙ c.if-is_word_at.true) c.loop-test.true)

pub loop-preserved : goal.loop-preserved
loop-preserved c = (
  rule-next _ c.loop.counter c.loop.invariant.0 c.past_rule.ensures c.past_blanks-at-in-loop.ensures,
  not_before_more _ _ c.loop.counter c.loop.invariant.0 (sym c.is_word_at.ensures ∙ c.if-is_word_at.false) c.loop.invariant.1,
)
