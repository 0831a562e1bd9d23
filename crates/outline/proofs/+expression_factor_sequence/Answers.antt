-- What is read so far is read still, with one more part; a factor is a word or what stands between parentheses.
use native.Mathlib.Omega.{arith}
use mathlib.Core.Path.{◌≡◌, refl, sym, ◌∙◌}
use Rattle.std.proofs.Common.{◌+◌, ◌-◌}
use borrow.Author.Tests.{eqb-true}
use Rattle.outline.proofs.Handing.{handed_on}
use Rattle.outline.proofs.Factors.{wrong_after_blanks, done_after_blanks, group_wrong, no_nesting, byte_there}
use Rattle.outline.proofs.Sequences.{first_factor, further_factor, further_factor_wrong, factors_over}
use Rattle.outline.proofs.Sequences.{first_sequence, first_sequence_wrong, further_sequence, further_sequence_wrong}
use Rattle.outline.proofs.Sequences.{sequences_over, sequences_broken}
use Rattle.outline.proofs.+expression_factor_sequence.Goals as goal

pub expression-returns-in_err-part : goal.expression-returns-in_err-part
expression-returns-in_err-part t c =
    handed_on _ _ _ c.from_residual.ensures.1 (first_sequence_wrong c.in_err-part.ensures)

pub expression-sequence-requires-in-loop-nodes : goal.expression-sequence-requires-in-loop-nodes
expression-sequence-requires-in-loop-nodes t c =
    let so_far = c.loop-nodes.invariant.on (first_sequence c.in_ok-part.ensures) in
    let bar = eqb-true _ _ (sym c.stands.ensures ∙ c.loop-nodes-test.true) in
    let there = byte_there c.args.s.now c.loop-nodes.part.at 124 refl bar in
    (omega (arith, so_far.further, there, c.requires), omega (arith, there))

pub expression-returns-in_err-further : goal.expression-returns-in_err-further
expression-returns-in_err-further t c =
    let so_far = c.loop-nodes.invariant.on (first_sequence c.in_ok-part.ensures) in
    let bar = eqb-true _ _ (sym c.stands.ensures ∙ c.loop-nodes-test.true) in
    handed_on _ _ _ c.from_residual-in_err-further.ensures.1 (further_sequence_wrong so_far bar c.in_err-further.ensures)

pub expression-loop-nodes-preserved : goal.expression-loop-nodes-preserved
expression-loop-nodes-preserved t c =
    let bar = eqb-true _ _ (sym c.stands.ensures ∙ c.loop-nodes-test.true) in
    record {
      on = λ p.
          further_sequence (c.loop-nodes.invariant.on p) bar c.in_ok-further.ensures
          c.last.ensures c.last-in-loop-nodes.ensures c.join-part.ensures;
    }

pub expression-returns-then-not-ends_expression : goal.expression-returns-then-not-ends_expression
expression-returns-then-not-ends_expression t c =
    sequences_broken
    (c.loop-nodes.invariant.on (first_sequence c.in_ok-part.ensures))
    (sym c.stands.ensures ∙ c.loop-nodes-test.false)
    (sym c.ends_expression.ensures ∙ c.if-not-ends_expression.true)

pub expression-returns : goal.expression-returns
expression-returns t c =
    sequences_over
    (c.loop-nodes.invariant.on (first_sequence c.in_ok-part.ensures))
    (sym c.ends_expression.ensures ∙ c.if-not-ends_expression.false)

pub factor-returns-in_err-bare : goal.factor-returns-in_err-bare
factor-returns-in_err-bare t c =
    handed_on _ _ _ c.from_residual.ensures.1
    (wrong_after_blanks c.skip_blanks-place.ensures (c.in_err-bare.ensures.wrong _))

pub factor-star-requires : goal.factor-star-requires
factor-star-requires t c = (c.in_ok-bare.ensures.bare 0).within

pub factor-returns-then-not-stands : goal.factor-returns-then-not-stands
factor-returns-then-not-stands t c =
    done_after_blanks c.skip_blanks-place.ensures (c.star.ensures.factor (c.in_ok-bare.ensures.bare _))

pub factor-returns-then-depth-eq0 : goal.factor-returns-then-depth-eq0
factor-returns-then-depth-eq0 t c =
    let blanks = c.skip_blanks-place.ensures in
    let is = eqb-true _ _ (sym c.stands.ensures ∙ c.if-not-stands.false) in
    rw c.if-depth-eq0.true (wrong_after_blanks blanks (no_nesting blanks.high is))

pub factor-returns-in_err-inner : goal.factor-returns-in_err-inner
factor-returns-in_err-inner t c =
    let deep : c.args.depth - 1 + 1 ≡ c.args.depth = omega arith in
    let wrong = group_wrong (sym c.stands.ensures ∙ c.if-not-stands.false) c.in_err-inner.ensures in
    handed_on _ _ _ c.from_residual-in_err-inner.ensures.1
    (wrong_after_blanks c.skip_blanks-place.ensures (rw deep at wrong))

pub factor-returns-in_err-bare-2 : goal.factor-returns-in_err-bare-2
factor-returns-in_err-bare-2 t c =
    let deep : c.args.depth - 1 + 1 ≡ c.args.depth = omega arith in
    let wrong = c.in_err-bare-2.ensures.wrong (sym c.stands.ensures ∙ c.if-not-stands.false) c.in_ok-inner.ensures in
    handed_on _ _ _ c.from_residual-in_err-bare-2.ensures.1
    (wrong_after_blanks c.skip_blanks-place.ensures (rw deep at wrong))

pub factor-returns : goal.factor-returns
factor-returns t c =
    let deep : c.args.depth - 1 + 1 ≡ c.args.depth = omega arith in
    let bare = c.in_ok-bare-2.ensures.bare (sym c.stands.ensures ∙ c.if-not-stands.false) c.in_ok-inner.ensures in
    done_after_blanks c.skip_blanks-place.ensures (rw deep at (c.star-2.ensures.factor bare))

pub sequence-factor-requires-in-loop-nodes : goal.sequence-factor-requires-in-loop-nodes
sequence-factor-requires-in-loop-nodes t c =
    let so_far = c.loop-nodes.invariant.on (first_factor c.in_ok-part.ensures) in
    (omega (arith, so_far.further, so_far.within, c.requires), so_far.within)

pub sequence-returns-in_err-further : goal.sequence-returns-in_err-further
sequence-returns-in_err-further t c =
    let so_far = c.loop-nodes.invariant.on (first_factor c.in_ok-part.ensures) in
    let begins = sym c.begins_factor.ensures ∙ c.loop-nodes-test.true in
    handed_on _ _ _ c.from_residual-in_err-further.ensures.1 (further_factor_wrong so_far begins c.in_err-further.ensures)

pub sequence-loop-nodes-preserved : goal.sequence-loop-nodes-preserved
sequence-loop-nodes-preserved t c =
    let begins = sym c.begins_factor.ensures ∙ c.loop-nodes-test.true in
    record {
      on = λ p.
          further_factor (c.loop-nodes.invariant.on p) begins c.in_ok-further.ensures
          c.last.ensures c.last-in-loop-nodes.ensures c.join-part.ensures;
    }

pub sequence-returns : goal.sequence-returns
sequence-returns t c =
    factors_over
    (c.loop-nodes.invariant.on (first_factor c.in_ok-part.ensures))
    (sym c.begins_factor.ensures ∙ c.loop-nodes-test.false)
