-- `writer::put_row` meets its contract. The loop's invariant: all cells but those of the kinds left are the row's, and `k` is the lowest
-- kind left. The measure is the set of the kinds left, as a number.
use mathlib.Core.Path.{◌≡◌}
use Rattle.kinds.specs.Kinds.{lowest_kind}
use Rattle.writer.proofs.StoredByKinds.{StoredByKinds}
use Rattle.writer.proofs.put_row.Given as goal

abbrev pub invariant-loop-k : goal.invariant-loop-k
invariant-loop-k l =
    StoredByKinds l.row.first l.row.left l.row.near l.row.far l.initial.plan l.plan l.at l.kinds l.rest × (l.k ≡ lowest_kind l.rest)

abbrev pub decreases-loop-k : goal.decreases-loop-k
decreases-loop-k l = l.rest
