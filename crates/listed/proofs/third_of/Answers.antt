-- `listed::third_of` meets its contract.
use borrow.Author.Tests.{eq-eqb, ne_eqb}
use Rattle.listed.specs.Listing.{third_of}
use Rattle.listed.proofs.third_of.Goals as goal

pub returns-then-answer-eq-NO_ROOM : goal.returns-then-answer-eq-NO_ROOM
unfolding third_of
returns-then-answer-eq-NO_ROOM c = simp (eq-eqb _ _ c.if-answer-eq-NO_ROOM.true)

pub returns-else-answer-eq-NO_ROOM : goal.returns-else-answer-eq-NO_ROOM
unfolding third_of
returns-else-answer-eq-NO_ROOM c = simp (ne_eqb _ _ c.if-answer-eq-NO_ROOM.false)
