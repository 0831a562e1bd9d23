use native.Mathlib.Omega.{arith}
use mathlib.Core.Path.{◌∙◌, sym}
use Rattle.words.proofs.FirstBad.{searched_none, searched_more, searched_bad, searched_all}
use Rattle.book.proofs.first_bad.Goals as goal

pub loop-n-init : goal.loop-n-init
loop-n-init c = searched_none _ _

pub returns-then-not-node_good : goal.returns-then-not-node_good
returns-then-not-node_good c =
    (c.loop-n-test.true, searched_bad _ c.loop-n.invariant c.loop-n-test.true (sym c.node_good.ensures ∙ c.if-not-node_good.true))

pub loop-n-preserved : goal.loop-n-preserved
loop-n-preserved c = searched_more _ c.loop-n.invariant c.loop-n-test.true
    (sym c.node_good.ensures ∙ c.if-not-node_good.false)

pub returns : goal.returns
returns c = sym (searched_all _ c.loop-n.invariant c.loop-n-test.false) ∙ omega arith
