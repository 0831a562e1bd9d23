use mathlib.Core.Path.{refl, sym, ◌∙◌}
use Prim.Native.Nat.{◌-◌, ◌<◌}
use native.Mathlib.Omega.{arith}
use lib.Bits.{or_zero_l}
use lib.ListN.{length, get_or}
use Rattle.plan.specs.Form.{plan_count, plan_from}
use Rattle.reader.specs.Machine.{node_in}
use Rattle.reader.proofs.Rows.{joined-all, joined_here, joined_on}
use Rattle.reader.proofs.expected_by.Goals as goal
use Rattle.reader.proofs.expected_by.Goals.{In-loop-parts}

-- a turn, in which a part is passed, and the function's entry
abbrev Turn : Type 0
Turn = In-loop-parts

-- the part's slot stands in the slots, and the part is a node
last_inside : (t : Turn) → t.loop-parts.parts - 1 < length t.args.held.now
last_inside t = omega (arith, t.loop-parts-test.true, t.loop-parts.invariant.0, t.requires.few)

last_below : (t : Turn) → node_in (get_or t.args.held.now (t.loop-parts.parts - 1) 0) < plan_count t.args.plan.now
last_below t = t.requires.below _ (omega (arith, t.loop-parts-test.true, t.loop-parts.invariant.0))

pub loop-parts-init : goal.loop-parts-init
loop-parts-init c = (omega arith, record { rest = or_zero_l _ })

pub offset_bounds-held-parts : goal.offset_bounds-held-parts
offset_bounds-held-parts c = omega (arith, last_inside (goal.at.offset_bounds-held-parts c).In-loop-parts, c.well_formed)

pub bounds-held-parts : goal.bounds-held-parts
bounds-held-parts c = last_inside (goal.at.bounds-held-parts c).In-loop-parts

pub overflow_cast-part : goal.overflow_cast-part
overflow_cast-part c = omega (arith, c.type_inv.held (c.loop-parts.parts - 1))

pub row_first-set-requires : goal.row_first-set-requires
row_first-set-requires c = last_below (goal.at.row_first-set-requires c).In-loop-parts

pub is_nullable-requires : goal.is_nullable-requires
is_nullable-requires c = last_below (goal.at.is_nullable-requires c).In-loop-parts

-- the part is not nullable
pub returns-then-not-is_nullable : goal.returns-then-not-is_nullable
unfolding plan_from
returns-then-not-is_nullable c =
    rw c.row_first-set.ensures
    (joined_here _ c.loop-parts.invariant.1 c.loop-parts-test.true refl
    (sym c.is_nullable.ensures.null ∙ c.if-not-is_nullable.true))

-- it is nullable
pub loop-parts-preserved : goal.loop-parts-preserved
unfolding plan_from
loop-parts-preserved c = (
  omega (arith, c.loop-parts-test.true, c.loop-parts.invariant.0),
  rw c.row_first-set.ensures
      (joined_on _ c.loop-parts.invariant.1 c.loop-parts-test.true refl
      (sym c.is_nullable.ensures.null ∙ c.if-not-is_nullable.false)),
)

pub returns : goal.returns
returns c = joined-all _ c.loop-parts.invariant.1 (omega (arith, c.loop-parts-test.false))
