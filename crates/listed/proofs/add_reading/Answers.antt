-- `listed::add_reading` meets its contract, by whether the run was accepted.
use native.Mathlib.Omega.{arith}
use mathlib.Core.Path.{sym}
use lib.Seq.{length-take-le}
use Rattle.listed.proofs.Answers.{lines_accepted, lines_refused}
use Rattle.listed.proofs.add_reading.Goals as goal

pub slice_bounds-add_accepted-end : goal.slice_bounds-add_accepted-end
slice_bounds-add_accepted-end c = sym (length-take-le _ _ (c.requires.records c.if-answer-eq-DONE.true))

pub returns-then-answer-eq-DONE-clause-added : goal.returns-then-answer-eq-DONE-clause-added
returns-then-answer-eq-DONE-clause-added c =
    rw (lines_accepted c.args.events c.args.answer c.args.tree.now c.if-answer-eq-DONE.true) c.add_accepted.ensures.added

pub returns-then-answer-eq-DONE-clause-short : goal.returns-then-answer-eq-DONE-clause-short
returns-then-answer-eq-DONE-clause-short c =
    let within = c.requires.records c.if-answer-eq-DONE.true in
    rw (lines_accepted c.args.events c.args.answer c.args.tree.now c.if-answer-eq-DONE.true)
    (omega (arith, c.add_accepted.ensures.short, length-take-le c.args.answer.records c.args.tree.now within, within, c.requires.whole))

pub returns-else-answer-eq-DONE-clause-added : goal.returns-else-answer-eq-DONE-clause-added
returns-else-answer-eq-DONE-clause-added c =
    rw (lines_refused c.args.events c.args.answer c.args.tree.now c.if-answer-eq-DONE.false, ← c.third_of.ensures)
    c.add_refused.ensures.added

pub returns-else-answer-eq-DONE-clause-short : goal.returns-else-answer-eq-DONE-clause-short
returns-else-answer-eq-DONE-clause-short c =
    rw (lines_refused c.args.events c.args.answer c.args.tree.now c.if-answer-eq-DONE.false, ← c.third_of.ensures)
    (omega (arith, c.add_refused.ensures.short))
