-- `making::draft::Draft::place` meets its contract.
use borrow.Author.Tests.{lt-ltb, le-ltb}
use Rattle.making.specs.Bytes.{place_down}
use Rattle.making.proofs.draft.Draft.place.Goals as goal

pub returns-then-self-node : goal.returns-then-self-node
unfolding place_down
returns-then-self-node c = rw (← c.self.view_is, c.answered.ensures, le-ltb _ _ c.if-self-node.true)

pub returns : goal.returns
unfolding place_down
returns c = rw (← c.self.view_is, c.answered-2.ensures, lt-ltb _ _ c.if-self-node.false)
