-- `names::find_bad` meets its contract. The loop's invariant: the place is that of the name reached, and what is left to search gives the
-- answer.
use mathlib.Core.Path.{◌≡◌}
use Prim.Native.Nat.{◌≤◌}
use lib.ListN.{length}
use Rattle.words.proofs.FirstBad.{Searched}
use Rattle.names.specs.Names.{name_at, name_good}
use Rattle.names.proofs.find_bad.Given as goal

abbrev pub invariant-loop-n : goal.invariant-loop-n
invariant-loop-n l =
    (l.at ≡ name_at l.bytes l.base l.n) × (l.at ≤ length l.bytes) × Searched (name_good l.bytes l.base) l.count l.n
