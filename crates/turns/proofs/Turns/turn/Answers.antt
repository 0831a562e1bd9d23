-- `Turns::turn` meets its contract: behind an empty record, or behind that of a node.
use native.Mathlib.Omega.{arith}
use borrow.Author.Tests.{lt-leb}
use Rattle.turns.proofs.Kept.{kind_small, turn_lapsed, turn_opened}
use Rattle.turns.proofs.Turning.{keep_events}
use Rattle.turns.proofs.Turns.turn.Goals as goal

pub open-requires : goal.open-requires
open-requires c =
    let pre = c.requires in
    let below = pre.looked.0.below _ (omega arith) (rw c.from-given.ensures at (lt-leb _ _ c.if-given-ge-EMPTY.false)) in (
      rw (c.node.ensures, c.from-given.ensures) (kind_small _ c.count.ensures.form _ below),
      rw (c.keep.ensures, keep_events c.args.self.now.spot c.args.self.now.spot.due c.args.self.now.slots) pre.counted.1,
    )

pub returns-then-given-ge-EMPTY : goal.returns-then-given-ge-EMPTY
returns-then-given-ge-EMPTY c =
    turn_lapsed _ _ _ _ _ _ c.from-given.ensures c.if-given-ge-EMPTY.true (rw c.of-past.ensures at c.lapse.ensures)

pub returns-else-given-ge-EMPTY : goal.returns-else-given-ge-EMPTY
returns-else-given-ge-EMPTY c =
    turn_opened _ _ _ _ _ _ c.from-given.ensures c.if-given-ge-EMPTY.false c.node.ensures c.keep.ensures
    (rw c.of-past.ensures at c.open.ensures.opened) c.open.ensures.slots
