use mathlib.Core.List.{[], ◌∷◌}
use Prim.Native.Nat.{◌+◌, ◌*◌}
use native.Mathlib.Nat.{add-zero}
use native.Mathlib.Omega.{arith}
use Rattle.words.proofs.Bytes.{length_words}
use Rattle.writer.specs.Table.{due_by}
use Rattle.writer.proofs.Stored.{lists_none, lists_more, lists_all}
use Rattle.writer.proofs.Writing.{due_stored}
use Rattle.writer.proofs.write_dues.Goals as goal

pub loop-n-init : goal.loop-n-init
loop-n-init c = rw add-zero (lists_none _ _ _ _)

pub put_u16-requires : goal.put_u16-requires
put_u16-requires c =
    omega (arith, c.loop-n.invariant.long, c.loop-n-test.true, c.requires.1)

pub loop-n-preserved : goal.loop-n-preserved
loop-n-preserved c =
    let args = c.args in
    let below = c.loop-n-test.true in
    let stored = due_stored c.loop-n.plan args.lengths.now (args.from + 2 * c.loop-n.n) c.loop-n.n args.count below c.length_at.ensures.0 c.min.ensures c.put_u16.ensures in
    lists_more _ c.loop-n.invariant below stored (omega (arith, length_words (due_by args.lengths.now args.count c.loop-n.n ∷ [])))

pub returns : goal.returns
returns c = lists_all _ c.loop-n.invariant c.loop-n-test.false
