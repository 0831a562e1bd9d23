use mathlib.Core.Path.{refl, sym, ◌∙◌}
use Prim.Native.Nat.{◌-◌, ◌<◌}
use native.Mathlib.Omega.{arith}
use borrow.Author.Tests.{lt-ltb, le-ltb}
use Rattle.std.proofs.lemmas.Bool.{not-true, not-false}
use Rattle.plan.specs.Form.{plan_kinds, plan_from}
use Rattle.reader.specs.Machine.{event_of}
use Rattle.reader.proofs.PartsTakenOff.{last_below, label_small, last_inside, fewer}
use Rattle.reader.proofs.PartsTakenOff.{take_none, take_walks, take_refuses, take_passes}
use Rattle.reader.proofs.take_parts.Goals as goal
use Rattle.reader.proofs.take_parts.Goals.{In-loop-standing}

-- the kind is known
known : (t : In-loop-standing) → t.args.kind < plan_kinds t.args.plan.now
known t = omega (arith, t.kinds.ensures.kinds, t.if-kinds-kind.false)

-- the kind is not known
pub returns-then-kinds-kind : goal.returns-then-kinds-kind
unfolding event_of plan_from
returns-then-kinds-kind c =
    sym (rw (le-ltb c.args.kind (plan_kinds c.args.plan.now) (omega (arith, c.kinds.ensures.kinds, c.if-kinds-kind.true))) refl)

pub loop-standing-init : goal.loop-standing-init
unfolding event_of plan_from
loop-standing-init c =
    record {
      rest = rw (lt-ltb c.args.kind (plan_kinds c.args.plan.now) (omega (arith, c.kinds.ensures.kinds, c.if-kinds-kind.false))) refl;
      safe = c.requires.parts;
      tree_long = refl;
      small = omega arith;
    }

pub offset_bounds-held-standing : goal.offset_bounds-held-standing
offset_bounds-held-standing c = omega (arith, c.loop-standing.invariant.small, c.requires.few_records)

pub bounds-held-standing : goal.bounds-held-standing
bounds-held-standing c = last_inside c.loop-standing.invariant c.loop-standing-test.true

pub overflow_cast-slot : goal.overflow_cast-slot
overflow_cast-slot c = omega (arith, c.type_inv.held (c.loop-standing.standing.count - 1))

pub takes-requires : goal.takes-requires
takes-requires c = (last_below c.loop-standing.invariant c.loop-standing-test.true, known (goal.at.takes-requires c).In-loop-standing)

-- its cell is not 0: it walks
pub walk-requires : goal.walk-requires
walk-requires c =
    let inv = c.loop-standing.invariant in
    let some = c.loop-standing-test.true in (
      record {
        parts = rw inv.safe.long (fewer inv some);
        few_records = omega (arith, inv.small, c.requires.few_records);
      },
      known (goal.at.walk-requires c).In-loop-standing,
      last_below inv some,
      label_small inv some,
    )

pub returns-then-takes : goal.returns-then-takes
unfolding plan_from
returns-then-takes c =
    c.walk.ensures
    ∙ take_walks _ _ c.loop-standing.invariant c.loop-standing-test.true (not-true _ (sym c.takes.ensures ∙ c.if-takes.true))

-- its cell is 0, and it is not nullable: the event is refused
pub is_nullable-requires : goal.is_nullable-requires
is_nullable-requires c = last_below c.loop-standing.invariant c.loop-standing-test.true

pub returns-then-not-is_nullable : goal.returns-then-not-is_nullable
unfolding plan_from
returns-then-not-is_nullable c =
    take_refuses _ _ c.loop-standing.invariant c.loop-standing-test.true (not-false _ (sym c.takes.ensures ∙ c.if-takes.false))
    (sym c.is_nullable.ensures.null ∙ c.if-not-is_nullable.true)

-- it is nullable: it is passed
pub overflow_add-node : goal.overflow_add-node
overflow_add-node c = omega (arith, c.is_nullable.ensures.few)

pub note-requires : goal.note-requires
note-requires c = omega (arith, c.is_nullable.ensures.few)

pub overflow_add-standing : goal.overflow_add-standing
overflow_add-standing c =
    omega (arith, c.loop-standing.invariant.small, c.loop-standing-test.true, c.requires.few_records)

pub loop-standing-preserved : goal.loop-standing-preserved
unfolding plan_from
loop-standing-preserved c =
    take_passes _ _ c.loop-standing.invariant c.loop-standing-test.true (not-false _ (sym c.takes.ensures ∙ c.if-takes.false))
    (sym c.is_nullable.ensures.null ∙ c.if-not-is_nullable.false) c.note.ensures

-- no part is left
pub returns : goal.returns
returns c = take_none _ _ c.loop-standing.invariant c.loop-standing-test.false
