use native.Mathlib.Omega.{arith}
use Rattle.prints.proofs.Lists.{added_no_list, added_list, added_lists}
use Rattle.prints.proofs.Page.add_each.Goals as goal

pub loop-n-init : goal.loop-n-init
loop-n-init g c = λ list each. added_no_list list _

pub loop-n-preserved : goal.loop-n-preserved
loop-n-preserved g c =
    λ list each. added_list list c.loop-n.n (c.loop-n.invariant list each) (each c.loop-n.n _ _ c.loop-n-test.true c.add.ensures)

pub returns : goal.returns
returns g c =
    λ list each. added_lists list (c.loop-n.invariant list each) (omega (arith, c.loop-n.auto.n-end, c.loop-n-test.false))
