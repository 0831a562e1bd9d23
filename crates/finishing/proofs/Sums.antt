-- The least length of what parts held derive in turn is the sum of their least lengths, cut.
use Prim.Native.Nat.{ℕ, ◌+◌, ◌≤◌, ◌<◌}
use native.Mathlib.Omega.{arith}
use mathlib.Core.Path.{◌≡◌, refl, ap, ap₂}
use mathlib.Core.Bool.{Bool, true, false, cond}
use mathlib.Core.List.{List, [], ◌∷◌, ◌++◌}
use lib.Dec.{ltb}
use lib.ListN.{length, length-append}
use borrow.Author.Tests.{ltb-true, ltb-false}
use Rattle.book.specs.declared.Node.{Node}
use Rattle.grammar.proofs.Facts.{nullable_derives_empty}
use Rattle.lengths.specs.Falling.{smaller}
use Rattle.lengths.specs.Least.{Least, LeastCut, below_cap, at_cap}
use Rattle.lengths.proofs.Cutting.{cut_none_shorter}
use Rattle.running.specs.Running.{Plan}
use Rattle.running.specs.Stages.{Part, nodes_of}
use Rattle.running.proofs.Agrees.{Below, one_held}
use Rattle.drums.specs.Drums.{most_due, due_of}
use Rattle.meaning.specs.Meaning.{tree}
use Rattle.meaning.proofs.Parts.{Held, held_end, held_none, held_some, derives_before, part_derives}

-- a sum that is cut
smaller_low : (sum : ℕ) → (smaller sum most_due ≤ sum) × (smaller sum most_due ≤ most_due)
smaller_low sum = at (ltb sum most_due) refl
  where
    at : (t : Bool) → ltb sum most_due ≡ t → (cond t sum most_due ≤ sum) × (cond t sum most_due ≤ most_due)
    at true e = (omega arith, omega (arith, ltb-true sum most_due e))
    at false e = (ltb-false sum most_due e, omega arith)

smaller-whole : (sum : ℕ) → smaller sum most_due < most_due → smaller sum most_due ≡ sum
smaller-whole sum = at (ltb sum most_due)
  where
    at : (t : Bool) → cond t sum most_due < most_due → cond t sum most_due ≡ sum
    at true low = refl
    at false low = absurd (omega (arith, low))

-- the cut sum of nodes' numbers
pub sum_of : (ℕ → ℕ) → List ℕ → ℕ
sum_of due [] = 0
sum_of due (n ∷ held) = smaller (due n + sum_of due held) most_due

-- it is what is due for parts with these nodes
pub due_sum : (p : Plan) {due : ℕ → ℕ} → ((n : ℕ) → n < p.count → p.due n ≡ due n) → (held : List Part)
    → Below p.count (nodes_of held) → due_of p held ≡ sum_of due (nodes_of held)
unfolding due_of sum_of
due_sum p dues [] below = refl
due_sum p dues (q ∷ held) (one_held small below) =
    ap₂ (λ (one rest : ℕ). smaller (one + rest) most_due) (dues q.node small) (due_sum p dues held below)

low_least : {node : ℕ → Node} {at : Node} {m : ℕ} → LeastCut node at most_due m → m < most_due → Least node at m
low_least (below_cap below least) low = least
low_least (at_cap none) low = absurd (omega (arith, low))

module _ {node : ℕ → Node} {due : ℕ → ℕ} (least : (n : ℕ) → LeastCut node (node n) most_due (due n)) where
  -- no run that they derive is shorter
  pub held_longer : {held run records : List ℕ} → Held node held run records → sum_of due held ≤ length run
  unfolding sum_of
  held_longer held_end = omega arith
  held_longer (held_none {n} {h} none rest) =
      omega (
        arith,
        (smaller_low (due n + sum_of due h)).0,
        cut_none_shorter (least n) [] (nullable_derives_empty none),
        held_longer rest,
      )
  held_longer (held_some {n} {k} {h} {zs} {ys} part rest) =
      let d = part_derives part in
      omega (
        arith,
        (smaller_low (due n + sum_of due h)).0,
        cut_none_shorter (least n) (k ∷ d.run) d.derivation,
        held_longer rest,
        ap length d.run_is,
        length-append d.run ys,
      )

  -- below the cut some run is as short
  pub held_short : (held : List ℕ) → sum_of due held < most_due
      → (run records : List ℕ) × Held node held run records × (length run ≡ sum_of due held)
  unfolding sum_of
  held_short [] low = ([], [], held_end, refl)
  held_short (n ∷ held) low =
      let whole = smaller-whole (due n + sum_of due held) low in
      let one = low_least (least n) (omega (arith, low, whole)) in
      let (run, records, rest, long) = held_short held (omega (arith, low, whole)) in (
        one.run ++ run,
        tree n one.derived ++ records,
        derives_before n one.run one.derived rest,
        omega (arith, length-append one.run run, one.long, long, whole),
      )

-- and it is never over the cut
pub sum-cut : (due : ℕ → ℕ) (held : List ℕ) → sum_of due held ≤ most_due
unfolding sum_of
sum-cut due [] = omega arith
sum-cut due (n ∷ held) = (smaller_low (due n + sum_of due held)).1
