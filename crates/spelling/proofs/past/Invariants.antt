-- `spelling::past` meets its contract. The loop's invariant: the bytes so far meet the test.
use Prim.Native.Nat.{ℕ, ◌≤◌, ◌<◌}
use mathlib.Core.Bool.{true}
use lib.ListN.{length}
use Rattle.spelling.specs.Places.{byte_at}
use Rattle.spelling.proofs.past.Given as goal

abbrev pub invariant-loop-next : goal.invariant-loop-next
invariant-loop-next g l =
    (l.at ≤ l.next) × ((k : ℕ) → l.at ≤ k → k < l.next → goal.F-post g l.meets (byte_at l.s k) true × (k < length l.s))
