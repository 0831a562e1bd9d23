-- `resolving::find_again` meets its contract. The loop's invariant: the place is that of the rule reached, and the names of those passed
-- are new. The measure is what is left of the text.
use mathlib.Core.Path.{◌≡◌}
use Prim.Native.Nat.{◌-◌, ◌≤◌}
use lib.ListN.{length}
use Rattle.resolving.specs.Lines.{rule_at, NewBefore}
use Rattle.resolving.proofs.find_again.Given as goal

abbrev pub invariant-loop-at : goal.invariant-loop-at
invariant-loop-at l = (l.at ≡ rule_at l.text l.n) × (l.n ≤ l.at) × NewBefore l.text l.n

abbrev pub decreases-loop-at : goal.decreases-loop-at
decreases-loop-at l = length l.text - l.at
