use mathlib.Core.Path.{sym, ◌∙◌}
use native.Mathlib.Omega.{arith}
use borrow.Author.Rules.{rules}
use Rattle.resolving.proofs.Lines.{rule_first, rule-next, behind, new_none, new_more}
use Rattle.resolving.proofs.find_again.Goals as goal

pub loop-at-init : goal.loop-at-init
loop-at-init c = (c.past_blanks-at.ensures ∙ rule_first _, omega arith, new_none _)

pub returns-then-named_before : goal.returns-then-named_before
returns-then-named_before c =
    let turn = c.loop-at in
    record {
      number = turn.n;
      new = turn.invariant.2;
      at_is = turn.invariant.0;
      within = c.loop-at-test.true;
      known = rw c.word_at.ensures at (sym c.named_before.ensures ∙ c.if-named_before.true);
    }

pub overflow_add-n : goal.overflow_add-n
overflow_add-n c =
    let turn = c.loop-at in
    search (rules, turn.invariant.1)

pub loop-at-smaller : goal.loop-at-smaller
loop-at-smaller c =
    let turn = c.loop-at in
    let below = c.loop-at-test.true in
    omega (arith, below, behind _ c.past_rule.ensures c.past_blanks-at-in-loop-at.ensures below)

pub loop-at-preserved : goal.loop-at-preserved
loop-at-preserved c =
    let turn = c.loop-at in
    let below = c.loop-at-test.true in
    let new = rw c.word_at.ensures at (sym c.if-named_before.false ∙ c.named_before.ensures) in (
      rule-next _ turn.n turn.invariant.0 c.past_rule.ensures c.past_blanks-at-in-loop-at.ensures,
      omega (arith, turn.invariant.1, behind _ c.past_rule.ensures c.past_blanks-at-in-loop-at.ensures below),
      new_more _ turn.invariant.2 turn.invariant.0 below new,
    )

pub returns : goal.returns
returns c =
    let turn = c.loop-at in
    record { number = turn.n; new = turn.invariant.2; ends = rw turn.invariant.0 at c.loop-at-test.false }
