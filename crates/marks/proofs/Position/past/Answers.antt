-- `marks::Position::past` meets its contract, by whether the byte is a line feed.
use borrow.Author.Tests.{eq-eqb, ne_eqb}
use Rattle.marks.proofs.Position.past.Goals as goal

pub returns-then-byte-eq10 : goal.returns-then-byte-eq10
returns-then-byte-eq10 c = rw (eq-eqb _ _ c.if-byte-eq10.true)

pub returns : goal.returns
returns c = rw (ne_eqb _ _ c.if-byte-eq10.false)
