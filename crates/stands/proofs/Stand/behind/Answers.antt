use mathlib.Core.Path.{refl}
use Rattle.stands.proofs.Laws.{advanced_more, advanced-all}
use Rattle.stands.proofs.Stand.behind.Goals as goal

pub loop-byte-init : goal.loop-byte-init
loop-byte-init c = refl

pub loop-byte-preserved : goal.loop-byte-preserved
loop-byte-preserved c =
    let turn = c.loop-byte in
    advanced_more _ _ turn.stand c.loop-byte-test.true turn.invariant refl c.move_on-stand.ensures

pub returns : goal.returns
returns c = advanced-all _ _ c.loop-byte.stand c.loop-byte-test.false c.loop-byte.invariant
