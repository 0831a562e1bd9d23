-- The facts of a book's nodes as sets of kinds, and the reachable nodes as sets of numbers.
use Rattle.std.specs.Prelude.{ℕ, ◌+◌, ◌*◌, ◌/◌, ◌%◌, ◌<◌, Bool, List, [], ◌∷◌, ◌↔◌, get_or}
use Rattle.kinds.specs.Kinds.{Has, has?}
use Rattle.book.specs.declared.Node.{Node}
use Rattle.grammar.specs.Rules.{Productive, Nullable, First, Snf, Reach}
use Rattle.rules.specs.declared.NodeFacts.{NodeFacts}

-- how many numbers the table of facts for so many nodes has: four a node
abbrev pub table_size : ℕ → ℕ
table_size count = 4 * count

-- a table's numbers, four a node
unfoldable pub flat : List NodeFacts → List ℕ
flat [] = []
flat (facts ∷ more) = facts.productive ∷ facts.nullable ∷ facts.first ∷ facts.snf ∷ flat more

-- the facts that stand in a table's numbers for a node
abbrev pub facts_at : List ℕ → ℕ → NodeFacts
facts_at table n = record {
  productive = get_or table (4 * n) 0;
  nullable = get_or table (4 * n + 1) 0;
  first = get_or table (4 * n + 2) 0;
  snf = get_or table (4 * n + 3) 0;
}

-- the table has the facts of so many nodes: productive and nullable, each as no kind or all kinds, FIRST and SNF
pub record Facts (node : ℕ → Node) (count : ℕ) (table : List ℕ) : Type 0 where
  pub productive_is : (n k : ℕ) → n < count → k < 64 → Has (facts_at table n).productive k ↔ Productive node (node n)
  pub nullable_is : (n k : ℕ) → n < count → k < 64 → Has (facts_at table n).nullable k ↔ Nullable node (node n)
  pub first_is : (n k : ℕ) → n < count → k < 64 → Has (facts_at table n).first k ↔ First node (node n) k
  pub snf_is : (n k : ℕ) → n < count → k < 64 → Has (facts_at table n).snf k ↔ Snf node (node n) k

-- how many numbers the marks of 512 nodes have: 64 nodes to a set
abbrev pub marks_size : ℕ
marks_size = 8

-- whether the marks have a node
abbrev pub marked? : List ℕ → ℕ → Bool
marked? marks n = has? (get_or marks (n / 64) 0) (n % 64)

-- the marks have a node
pub record IsMarked (marks : List ℕ) (n : ℕ) : Type 0 where
  pub mark : Has (get_or marks (n / 64) 0) (n % 64)

-- the marks have all nodes below a count
abbrev pub AllMarked : List ℕ → ℕ → Type 0
AllMarked marks count = (n : ℕ) → n < count → IsMarked marks n

-- the marks have the reachable nodes
pub record Reached (node : ℕ → Node) (start count : ℕ) (marks : List ℕ) : Type 0 where
  pub reach_is : (n : ℕ) → n < count → IsMarked marks n ↔ Reach node start n
