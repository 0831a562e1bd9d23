-- `making::draft::Draft::names_size` meets its contract.
use mathlib.Core.Path.{ap}
use native.Mathlib.Omega.{arith}
use lib.ListN.{length}
use Rattle.resolving.specs.Letters.{word_at}
use Rattle.making.proofs.Naming.{measuring_none, measuring_more, short_at}
use Rattle.making.proofs.draft.Draft.names_size.Goals as goal

pub loop-kind-init : goal.loop-kind-init
loop-kind-init c = measuring_none _ _

pub overflow_add-size-in-loop-kind : goal.overflow_add-size-in-loop-kind
overflow_add-size-in-loop-kind c =
    let short = short_at (word_at c.self.inside.text.now) c.self.inside.kinds.now 0 c.loop-kind-test.true c.self.invariant.short in
    omega (arith, c.loop-kind.invariant.few, c.self.invariant.few_kinds, c.loop-kind-test.true, short, ap length c.word_at.ensures)

pub loop-kind-preserved : goal.loop-kind-preserved
loop-kind-preserved c =
    measuring_more _ _ c.loop-kind.invariant _ c.loop-kind-test.true c.word_at.ensures
    (short_at (word_at c.self.inside.text.now) c.self.inside.kinds.now 0 c.loop-kind-test.true c.self.invariant.short)
