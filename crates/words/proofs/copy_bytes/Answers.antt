use native.Mathlib.Omega.{arith}
use Rattle.words.proofs.Stored.{copied_none, copied_more, copied_all}
use Rattle.words.proofs.copy_bytes.Goals as goal

pub loop-i-init : goal.loop-i-init
loop-i-init c = copied_none _ _ _ _

pub loop-i-preserved : goal.loop-i-preserved
loop-i-preserved c = copied_more _ _ c.loop-i.invariant (omega arith)

pub shape_of-to : goal.shape_of-to
shape_of-to c = c.loop-i.invariant.long

pub returns : goal.returns
returns c = copied_all _ _ c.loop-i.invariant {size = c.args.size} (omega arith)
