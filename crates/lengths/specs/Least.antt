-- The least length of a run that a node derives, and that length cut.
use Rattle.std.specs.Prelude.{ℕ, ◌≤◌, ◌<◌, ◌≡◌, List, length, get_or}
use Rattle.book.specs.declared.Node.{Node}
use Rattle.grammar.specs.Derivations.{Derives}

module _ (node : ℕ → Node) (at : Node) where
  -- no run that the node derives is shorter than a number
  abbrev pub NoneShorter : ℕ → Type 0
  NoneShorter m = (run : List ℕ) → Derives node at run → m ≤ length run

  -- the least length of a run that the node derives: some run is as long, none is shorter
  pub record Least (m : ℕ) : Type 0 where
    pub run : List ℕ
    pub derived : Derives node at run
    pub long : length run ≡ m
    pub none_shorter : NoneShorter m

  -- the least length cut at a cap: the length where it is below the cap, the cap where it is that or more or there is
  -- none
  pub data LeastCut (cap : ℕ) : ℕ → Type 0 where
    below_cap : {m : ℕ} → m < cap → Least m → LeastCut cap m
    at_cap : NoneShorter cap → LeastCut cap cap

-- the length that stands in a table for a node, 65,536 beyond the table
abbrev pub length_at : List ℕ → ℕ → ℕ
length_at lengths n = get_or lengths n 65536

-- the table has the least lengths of so many nodes, cut at 65,536
pub record Lengths (node : ℕ → Node) (count : ℕ) (lengths : List ℕ) : Type 0 where
  pub least_is : (n : ℕ) → n < count → LeastCut node (node n) 65536 (length_at lengths n)
