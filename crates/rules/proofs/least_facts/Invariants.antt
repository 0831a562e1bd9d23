-- `rules::least_facts` meets its contract. The loop's invariant: all that the table has is by the rules, and it has what they give all
-- nodes but refs. The measure is what is left for the sum of the table's numbers to grow.
use Prim.Native.Nat.{ℕ, ◌<◌}
use mathlib.Core.Path.{◌≡◌}
use mathlib.Core.Bool.{false}
use lib.ListN.{length}
use Rattle.book.specs.Form.{book_of}
use Rattle.rules.specs.Facts.{flat}
use Rattle.rules.specs.Growth.{masks, Narrow}
use Rattle.rules.specs.Step.{FactAt, is_ref, RuleClosed}
use Rattle.rules.proofs.Growing.{Settling}
use Rattle.rules.proofs.Growing.{room_left}
use Rattle.rules.proofs.least_facts.Given as goal

abbrev pub invariant-loop-table : goal.invariant-loop-table
invariant-loop-table l =
    (Settling masks (FactAt (book_of l.book).node) (flat l.initial.table) (flat l.table)
    × ((n : ℕ) → n < (book_of l.book).count → is_ref ((book_of l.book).node n) ≡ false → RuleClosed (book_of l.book).node (flat l.table) n))
    × Narrow (flat l.table)

abbrev pub decreases-loop-table : goal.decreases-loop-table
decreases-loop-table l = room_left (length (flat l.initial.table)) (flat l.table)
