-- `verdict::check_reached` meets its contract. The loop's invariant: every node passed is marked.
use Prim.Native.Nat.{ℕ, ◌<◌}
use Rattle.rules.specs.Facts.{IsMarked}
use Rattle.verdict.proofs.check_reached.Given as goal

abbrev pub invariant-loop-n : goal.invariant-loop-n
invariant-loop-n l = (m : ℕ) → m < l.n → IsMarked l.marks m
