use native.Mathlib.Omega.{arith}
use Rattle.verdict.proofs.Answers.{answered_conflict, conflict_none}
use Rattle.verdict.proofs.check_conflicts.Goals as goal

pub clash_at-requires : goal.clash_at-requires
clash_at-requires c =
    let counted = rw c.book.ensures.book at c.count-n-end.ensures.count in
    omega (arith, c.loop-n-test.true, counted)

pub returns-in-Some : goal.returns-in-Some
returns-in-Some c =
    answered_conflict c.book.ensures.at_hand.known c.requires.reached c.requires.fruitful c.loop-n.invariant c.in-Some.ensures

pub returns : goal.returns
returns c =
    let counted = rw c.book.ensures.book at c.count-n-end.ensures.count in
    conflict_none c.book.ensures.at_hand.known c.requires.reached (λ m below. c.loop-n.invariant m (omega (arith, c.loop-n-test.false, counted)))
