-- The weight of a run, by its length and then its first kind, and the least weight of a run that a node derives, cut.
use Rattle.std.specs.Prelude.{ℕ, ◌+◌, ◌*◌, ◌≤◌, ◌<◌, ◌≡◌, List, length, get_or}
use Rattle.book.specs.declared.Node.{Node}
use Rattle.grammar.specs.Derivations.{Derives}

-- the first kind of a run, 0 of the empty run
abbrev pub head_of : List ℕ → ℕ
head_of run = get_or run 0 0

-- the weight of a run: 64 for each event, and its first kind. Of two runs of kinds below 64 the lighter is shorter, or
-- as long with the lower first kind
abbrev pub weight_of : List ℕ → ℕ
weight_of run = 64 * length run + head_of run

-- where weights are cut: the weight of 65,536 events
abbrev pub CAP : ℕ
CAP = 4194304

module _ (node : ℕ → Node) (at : Node) where
  -- no run that the node derives is lighter than a number
  abbrev pub NoneLighter : ℕ → Type 0
  NoneLighter m = (run : List ℕ) → Derives node at run → m ≤ weight_of run

  -- the least weight of a run that the node derives: some run has it, none is lighter
  pub record Lightest (m : ℕ) : Type 0 where
    pub run : List ℕ
    pub derived : Derives node at run
    pub weighs : weight_of run ≡ m
    pub none_lighter : NoneLighter m

  -- the least weight cut: the weight where it is below the cap, the cap where it is that or more or there is none
  pub data LightestCut : ℕ → Type 0 where
    below_cap : {m : ℕ} → m < CAP → Lightest m → LightestCut m
    at_cap : NoneLighter CAP → LightestCut CAP

-- the weight that stands in a table for a node, the cap beyond the table
abbrev pub weight_at : List ℕ → ℕ → ℕ
weight_at weights n = get_or weights n CAP

-- the table has the least weights of all nodes, cut
pub record Weights (node : ℕ → Node) (weights : List ℕ) : Type 0 where
  pub lightest_is : (n : ℕ) → LightestCut node (node n) (weight_at weights n)
