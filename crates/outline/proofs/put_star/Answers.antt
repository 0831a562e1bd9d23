-- `outline::put_star` meets its contract: too many nodes, or four are put down one after the other.
use native.Mathlib.Omega.{arith}
use Rattle.outline.proofs.Counting.{laid_past, laid_star}
use Rattle.outline.proofs.put_star.Goals as goal

pub returns-then-n-ge-MOST : goal.returns-then-n-ge-MOST
returns-then-n-ge-MOST c = laid_past (omega arith)

pub returns : goal.returns
returns c =
    laid_star c.saturating_sub.ensures c.put_node-then.ensures c.put_node-empty.ensures c.put_node-either.ensures c.put_node.ensures
