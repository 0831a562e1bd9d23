-- On the plan of a passed book every walk that begins ends with the event taken: no zero is met in a walk, and no walk runs away.
use Prim.Native.Nat.{ℕ}
use mathlib.Core.Path.{◌≡◌}
use mathlib.Core.Bool.{true}
use mathlib.Core.Logic.{◌≢◌}
use mathlib.Core.List.{List}
use Rattle.words.proofs.Tests.{holds}
use Rattle.book.specs.Book.{Book}
use Rattle.grammar.specs.Rules.{First}
use Rattle.running.specs.Cells.{Marks, Marked, cell_of, plan_for}
use Rattle.running.specs.Running.{unlimited, taken, walk}
use Rattle.grammar.specs.Passing.{Passes}
use Rattle.meaning.proofs.Machine.{cell_other}
use Rattle.meaning.proofs.Walk.{after, recorded}
use Rattle.meaning.proofs.Event.{walk_whole}

module _ {b : Book} (passes : Passes b) (marks : Marks) (marked : Marked b.node marks) where
  pub walks_take : (n k : ℕ) → cell_of marks k n (b.node n) ≢ 0 → (held : List ℕ)
      → (then records : List ℕ) × (walk (plan_for b marks) unlimited k b.count n held ≡ taken then records)
  walks_take n k some held =
      let first : marks.first n k ≡ true = holds _ (λ none. some (cell_other b marks marked k n (b.node n) none)) in
      let d : First b.node (b.node n) k = (marked.first_is n k).0 first in
      (after d held, recorded n d, walk_whole passes marks marked k d held)
