-- `outline::put` meets its contract: there is room for the item, or the buffer is shorter than the most.
use Prim.Native.Nat.{◌+◌}
use native.Mathlib.Omega.{arith}
use mathlib.Core.Path.{◌∙◌}
use Rattle.outline.proofs.Counting.{cut_is, laid_one, laid_short}
use Rattle.outline.proofs.put.Goals as goal
use Rattle.outline.proofs.put.Goals.{then-n-list, else-n-list}

pub returns : goal.returns
returns g c =
    let counted = omega (arith, c.min.ensures, c.saturating_add.ensures, c.ranges.n.fits) ∙ cut_is (c.args.n + 1) in
    elim c.if-n-list.branch [
      | then-n-list w ↦ laid_one counted w.list-is
      | else-n-list w ↦ laid_short counted w.if-n-list.false w.list-is
    ]
