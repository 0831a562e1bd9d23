use native.Mathlib.Omega.{arith}
use mathlib.Core.Path.{refl}
use Rattle.rules.proofs.Flat.{flat_length}
use Rattle.unread.proofs.UnderWay.{begun, written_long}
use Rattle.unread.proofs.Calls.{comes_to, can_ask, no_turn, can_turn, turned}
use Rattle.unread.proofs.read_tree.Goals as goal

pub of-powers-requires : goal.of-powers-requires
of-powers-requires c =
    let known = c.requires.known refl in
    omega (arith, c.count.ensures.count, known.long, flat_length c.args.table.now)

pub loop-at-init : goal.loop-at-init
loop-at-init c = rw c.of-turns.ensures.spot (begun _ _ _ _ _ refl (omega (arith, c.of-turns.ensures.slots)))

pub allowed-requires : goal.allowed-requires
allowed-requires c =
    rw c.due.ensures
    (can_ask c.requires c.loop-at.invariant c.of-powers.ensures c.count.ensures.count)

pub returns-then-not-allowed : goal.returns-then-not-allowed
returns-then-not-allowed c = record {
  told =
      no_turn c.requires c.loop-at.invariant c.of-powers.ensures c.count.ensures.count
      c.loop-at-test.true c.from.ensures (rw c.due.ensures at c.allowed.ensures) c.if-not-allowed.true;
  kept = written_long c.loop-at.invariant;
}

pub turn-requires-clause-looked : goal.turn-requires-clause-looked
turn-requires-clause-looked c =
    (can_turn c.requires c.loop-at.invariant c.of-powers.ensures c.count.ensures.count
    c.loop-at-test.true c.from.ensures (rw c.due.ensures at c.allowed.ensures) c.if-not-allowed.false (omega arith)).0

pub turn-requires-clause-counted : goal.turn-requires-clause-counted
turn-requires-clause-counted c =
    (can_turn c.requires c.loop-at.invariant c.of-powers.ensures c.count.ensures.count
    c.loop-at-test.true c.from.ensures (rw c.due.ensures at c.allowed.ensures) c.if-not-allowed.false (omega arith)).1

pub loop-at-preserved : goal.loop-at-preserved
loop-at-preserved c =
    turned c.requires c.loop-at.invariant c.of-powers.ensures c.count.ensures.count
    c.loop-at-test.true c.from.ensures (rw c.due.ensures at c.allowed.ensures) c.if-not-allowed.false c.turn.ensures

pub returns : goal.returns
returns c = record {
  told =
      rw (c.at_end.ensures, c.due-2.ensures, c.events.ensures)
      (comes_to c.requires c.loop-at.invariant (omega (arith, c.loop-at-test.false)));
  kept = written_long c.loop-at.invariant;
}
