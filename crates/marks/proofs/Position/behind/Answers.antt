use native.Mathlib.Omega.{arith}
use Rattle.marks.proofs.Laws.{gone_none, gone_more, gone_all}
use Rattle.marks.proofs.Position.behind.Goals as goal

pub loop-at-init : goal.loop-at-init
loop-at-init c = gone_none _

pub past-position-requires : goal.past-position-requires
past-position-requires c = (omega (arith, c.loop-at.invariant.lines), omega arith)

pub loop-at-preserved : goal.loop-at-preserved
loop-at-preserved c = rw c.past-position.ensures (gone_more c.loop-at-test.true c.loop-at.invariant)

pub returns : goal.returns
returns c = (
  gone_all c.loop-at-test.false c.loop-at.invariant,
  omega (arith, c.loop-at.invariant.starts, c.loop-at.invariant.within),
  omega (arith, c.loop-at.invariant.lines, c.loop-at.invariant.within),
)
