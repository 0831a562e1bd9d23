-- A sample: a shortest lawful run, of the shortest the one with the lowest kind at the first place where two differ.
use Rattle.std.specs.Prelude.{ℕ, ◌≤◌, ◌<◌, ◌≡◌, List, [], ◌∷◌, length}
use Rattle.book.specs.Book.{Book}
use Rattle.book.specs.declared.Node.{Node}
use Rattle.grammar.specs.Derivations.{Derives}

-- of two runs of one length the first has the lower kind at the first place where they differ, if they do
pub data NoHigher : List ℕ → List ℕ → Type 0 where
  ends : NoHigher [] []
  same : {k : ℕ} {xs ys : List ℕ} → NoHigher xs ys → NoHigher (k ∷ xs) (k ∷ ys)
  lower : {j k : ℕ} {xs ys : List ℕ} → j < k → NoHigher (j ∷ xs) (k ∷ ys)

-- the best run of a node: the node derives it, none that it derives is shorter, none as short is lower
pub record Best (node : ℕ → Node) (at : Node) (run : List ℕ) : Type 0 where
  pub derived : Derives node at run
  pub shortest : (other : List ℕ) → Derives node at other → length run ≤ length other
  pub lowest : (other : List ℕ) → Derives node at other → length other ≡ length run → NoHigher run other

-- the sample of a book: the best run of its start, so that it is lawful
abbrev pub Sample : Book → List ℕ → Type 0
Sample b run = Best b.node (b.node b.start) run
