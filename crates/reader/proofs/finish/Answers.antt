use mathlib.Core.Path.{refl, sym, ◌∙◌}
use Prim.Native.Nat.{◌-◌}
use native.Mathlib.Omega.{arith}
use Rattle.plan.specs.Form.{plan_from}
use Rattle.reader.proofs.PartsTakenOff.{last_below, last_inside, finish_none, finish_refuses, finish_passes}
use Rattle.reader.proofs.finish.Goals as goal

pub loop-standing-init : goal.loop-standing-init
loop-standing-init c = record { rest = refl; safe = c.requires.parts; tree_long = refl; small = omega arith }

pub offset_bounds-held-standing : goal.offset_bounds-held-standing
offset_bounds-held-standing c = omega (arith, c.loop-standing.invariant.small, c.requires.few_records)

pub bounds-held-standing : goal.bounds-held-standing
bounds-held-standing c = last_inside c.loop-standing.invariant c.loop-standing-test.true

pub overflow_cast-node : goal.overflow_cast-node
overflow_cast-node c = omega (arith, c.type_inv.held (c.loop-standing.standing.count - 1))

pub is_nullable-requires : goal.is_nullable-requires
is_nullable-requires c = last_below c.loop-standing.invariant c.loop-standing-test.true

-- it is not nullable: the run ends too early
pub returns-then-not-is_nullable : goal.returns-then-not-is_nullable
unfolding plan_from
returns-then-not-is_nullable c =
    finish_refuses _ c.loop-standing.invariant c.loop-standing-test.true (sym c.is_nullable.ensures.null ∙ c.if-not-is_nullable.true)

-- it is nullable: it is passed
pub overflow_add-node : goal.overflow_add-node
overflow_add-node c = omega (arith, c.is_nullable.ensures.few)

pub note-requires : goal.note-requires
note-requires c = omega (arith, c.is_nullable.ensures.few)

pub overflow_add-standing : goal.overflow_add-standing
overflow_add-standing c =
    omega (arith, c.loop-standing.invariant.small, c.loop-standing-test.true, c.requires.few_records)

pub loop-standing-preserved : goal.loop-standing-preserved
unfolding plan_from
loop-standing-preserved c =
    finish_passes _ c.loop-standing.invariant c.loop-standing-test.true
    (sym c.is_nullable.ensures.null ∙ c.if-not-is_nullable.false) c.note.ensures

-- no part is left
pub returns : goal.returns
returns c = finish_none _ c.loop-standing.invariant c.loop-standing-test.false
