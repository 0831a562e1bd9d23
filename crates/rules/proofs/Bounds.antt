-- What stands below the count of a book: children of its nodes, reachable nodes, and nodes that are not fail.
use Prim.Native.Nat.{ℕ, ◌<◌}
use native.Mathlib.Omega.{arith}
use native.Mathlib.Decide.{dec_lt}
use mathlib.Core.Path.{◌≡◌, refl, subst}
use mathlib.Core.Logic.{◌⊎◌, inl, inr, ⊎_elim}
use Rattle.book.specs.declared.Node.{Node}
use Rattle.book.specs.declared.Node.TheVariants.{Fail}
use Rattle.book.specs.Book.{Book, WellFormed, Proper}
use Rattle.grammar.specs.Rules.{First, Conflict, Child, either_left, either_right, then_left, then_right, tagged_left, ref_left, Reach}
use Rattle.grammar.specs.Rules.{r_start, r_child}
use Rattle.rules.specs.Step.{left_from, right_from}
use Rattle.rules.proofs.Reading.{left_below, right_below}
use Rattle.rules.proofs.Laws.{first_below}

-- a child is the left or the right
pub child_side : {at : Node} {m : ℕ} (n : ℕ) → Child at m → (left_from n at ≡ m) ⊎ (right_from n at ≡ m)
child_side n either_left = inl refl
child_side n either_right = inr refl
child_side n then_left = inl refl
child_side n then_right = inr refl
child_side n tagged_left = inl refl
child_side n ref_left = inl refl

child_within : {kinds count n m : ℕ} {at : Node} → n < count → Proper kinds count n at → Child at m → m < count
child_within {n = n} below proper child =
    ⊎_elim (λ same. rw same at (left_below below proper)) (λ same. rw same at (right_below below proper)) (child_side n child)

-- where the nodes below the count are proper and the start is one of them, so is every reachable node
pub reach_within : {node : ℕ → Node} {kinds start count n : ℕ} → ((m : ℕ) → m < count → Proper kinds count m (node m)) → start < count
    → Reach node start n → n < count
reach_within proper start_below r_start = start_below
reach_within proper start_below (r_child reach child) =
    let parent = reach_within proper start_below reach in child_within parent (proper _ parent) child

module _ (book : Book) (wf : WellFormed book) where
  -- what does not hold of fail holds of nodes below the count only
  pub named_below : (P : Node → Type 0) → (P Fail → ⊥) → (n : ℕ) → P (book.node n) → n < book.count
  named_below P none n h = at (dec_lt n book.count)
    where
      at : Dec (n < book.count) → n < book.count
      at (yes below) = below
      at (no beyond) = absurd (none (subst P (wf.beyond n (omega arith)) h))

  -- a node that has a conflict, and one that has a child
  pub conflict_below : (n : ℕ) → Conflict book.node (book.node n) → n < book.count
  conflict_below = named_below (Conflict book.node) (elim [ ])

  pub parent_below : (n : ℕ) {m : ℕ} → Child (book.node n) m → n < book.count
  parent_below n {m} = named_below (λ x. Child x m) (elim [ ]) n

  pub child_below : (n : ℕ) {m : ℕ} → Child (book.node n) m → m < book.count
  child_below n c = child_within (parent_below n c) (wf.proper n (parent_below n c)) c

  -- a kind of FIRST is below the number of kinds
  pub first_kind : (n : ℕ) {k : ℕ} → First book.node (book.node n) k → k < book.kinds
  first_kind n {k} d = first_below wf.proper (named_below (λ x. First book.node x k) (elim [ ]) n d) d
