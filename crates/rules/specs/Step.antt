-- The rules as a step: what a table's facts of its left and right give a node, and what a mark gives its children.
use Rattle.std.specs.Prelude.{ℕ, zero, suc, ◌+◌, ◌*◌, ◌/◌, ◌%◌, ◌^◌, ◌<◌, ◌≡◌, Bool, true, false, List, get_or}
use Rattle.kinds.specs.Kinds.{Has, every_kind, only_kind, joined, in_both}
use Rattle.book.specs.declared.Node.{Node}
use Rattle.book.specs.declared.Node.TheVariants.{Fail, Empty, Token, Either, Then, Tagged, Ref}
use Rattle.grammar.specs.Rules.{Productive, Nullable, First, Snf, Child, Reach}
use Rattle.rules.specs.Facts.{facts_at, IsMarked}
use Rattle.rules.specs.Growth.{masks, Sound, Grown, Visited, Turned}
use Rattle.rules.specs.declared.NodeFacts.{NodeFacts}

-- the left of a node, its own number where it has none
abbrev pub left_from : ℕ → Node → ℕ
left_from own Fail = own
left_from own Empty = own
left_from own (Token k) = own
left_from own (Either l r) = l
left_from own (Then l r) = l
left_from own (Tagged l t) = l
left_from own (Ref l) = l

-- the right of a node, its own number where it has none
abbrev pub right_from : ℕ → Node → ℕ
right_from own Fail = own
right_from own Empty = own
right_from own (Token k) = own
right_from own (Either l r) = r
right_from own (Then l r) = r
right_from own (Tagged l t) = own
right_from own (Ref l) = own

-- the kind of a token, 0 for other nodes
abbrev pub kind_of : Node → ℕ
kind_of Fail = 0
kind_of Empty = 0
kind_of (Token k) = k
kind_of (Either l r) = 0
kind_of (Then l r) = 0
kind_of (Tagged l t) = 0
kind_of (Ref l) = 0

-- the facts of a node joined with more
abbrev pub joined_facts : NodeFacts → NodeFacts → NodeFacts
joined_facts old more = record {
  productive = joined old.productive more.productive;
  nullable = joined old.nullable more.nullable;
  first = joined old.first more.first;
  snf = joined old.snf more.snf;
}

-- what the rules give an either by the facts of its left and right
abbrev pub either_facts : NodeFacts → NodeFacts → NodeFacts
either_facts left right = record {
  productive = joined left.productive right.productive;
  nullable = joined left.nullable right.nullable;
  first = joined left.first right.first;
  snf =
      joined (joined (joined left.snf right.snf) (in_both left.first right.nullable))
      (in_both left.nullable right.first);
}

-- what the rules give a then by the facts of its left and right
abbrev pub then_facts : NodeFacts → NodeFacts → NodeFacts
then_facts left right = record {
  productive = in_both left.productive right.productive;
  nullable = in_both left.nullable right.nullable;
  first = joined (in_both left.first right.productive) (in_both left.nullable right.first);
  snf = joined (in_both left.snf right.nullable) (in_both left.productive right.snf);
}

-- what the rules give a node by the facts of its left and right
unfoldable pub ruled_of : Node → (ℕ → NodeFacts) → NodeFacts
ruled_of Fail facts = record { productive = 0; nullable = 0; first = 0; snf = 0 }
ruled_of Empty facts = record { productive = every_kind; nullable = every_kind; first = 0; snf = 0 }
ruled_of (Token k) facts = record { productive = every_kind; nullable = 0; first = only_kind k; snf = 0 }
ruled_of (Either l r) facts = either_facts (facts l) (facts r)
ruled_of (Then l r) facts = then_facts (facts l) (facts r)
ruled_of (Tagged l t) facts = facts l
ruled_of (Ref l) facts = facts l

-- whether a node is a ref
abbrev pub is_ref : Node → Bool
is_ref Fail = false
is_ref Empty = false
is_ref (Token k) = false
is_ref (Either l r) = false
is_ref (Then l r) = false
is_ref (Tagged l t) = false
is_ref (Ref l) = true

-- the four facts by number: productive 0, nullable 1, FIRST 2, SNF 3
abbrev pub fact_of : NodeFacts → ℕ → ℕ
fact_of facts zero = facts.productive
fact_of facts (suc zero) = facts.nullable
fact_of facts (suc (suc zero)) = facts.first
fact_of facts (suc (suc (suc more))) = facts.snf

abbrev pub Fact : (ℕ → Node) → Node → ℕ → ℕ → Type 0
Fact node at zero k = Productive node at
Fact node at (suc zero) k = Nullable node at
Fact node at (suc (suc zero)) k = First node at k
Fact node at (suc (suc (suc more))) k = Snf node at k

-- the four facts are 64-bit numbers
abbrev pub NarrowFacts : NodeFacts → Type 0
NarrowFacts facts = (j : ℕ) → fact_of facts j < 2 ^ 64

-- the kind belongs at a place of the table: four places a node
pub record FactAt (node : ℕ → Node) (i k : ℕ) : Type 0 where
  pub fact : Fact node (node (i / 4)) (i % 4) k

-- the kind is among the facts given for one node, and the place is that node's
pub record Given (n : ℕ) (facts : NodeFacts) (i k : ℕ) : Type 0 where
  pub own : i / 4 ≡ n
  pub given : Has (fact_of facts (i % 4)) k

-- the table has the facts at a node
pub record Holds (facts : NodeFacts) (table : List ℕ) (n : ℕ) : Type 0 where
  pub holds : (j k : ℕ) → j < 4 → Has (fact_of facts j) k → Has (get_or table (4 * n + j) 0) k

-- a table is another at the nodes lower than one
pub record SameBelow (n : ℕ) (before after : List ℕ) : Type 0 where
  pub same : (i : ℕ) → i < 4 * n → get_or after i 0 ≡ get_or before i 0

-- facts have been put into the table at a node: it has grown by a rule, has them, and is as it was at lower nodes
pub record PutAt (By : ℕ → ℕ → Type 0) (facts : NodeFacts) (n : ℕ) (before after : List ℕ) (changed : Bool) : Type 0 where
  pub grown : Grown masks By before after changed
  pub given : Holds facts after n
  pub lower : SameBelow n before after

-- the table has what the rules give a node
abbrev pub RuleClosed : (ℕ → Node) → List ℕ → ℕ → Type 0
RuleClosed node table n = Holds (ruled_of (node n) (facts_at table)) table n

-- the table has what the rules give a node if that is a ref
pub record RefClosed (node : ℕ → Node) (table : List ℕ) (n : ℕ) : Type 0 where
  pub closed : is_ref (node n) ≡ true → RuleClosed node table n

-- all refs below a count have been visited
abbrev pub RefsTurned : (ℕ → Node) → ℕ → List ℕ → List ℕ → Bool → Type 0
RefsTurned node = Turned masks (FactAt node) (RefClosed node)

-- the nodes below a count have been visited upward: the table has grown, and has what the rules give all but refs
pub record Climbed (node : ℕ → Node) (count : ℕ) (before after : List ℕ) (changed : Bool) : Type 0 where
  pub grown : Grown masks (FactAt node) before after changed
  pub closed : (n : ℕ) → n < count → is_ref (node n) ≡ false → RuleClosed node after n

-- a mark at a place stands for a reachable node
pub record ReachAt (node : ℕ → Node) (start i k : ℕ) : Type 0 where
  pub reach : Reach node start (64 * i + k)

-- the marks have the children of a marked node
pub record ChildClosed (node : ℕ → Node) (marks : List ℕ) (n : ℕ) : Type 0 where
  pub children : (m : ℕ) → Child (node n) m → IsMarked marks n → IsMarked marks m

-- a node's children have been marked if it is: from any start, all by reaching
pub record Spread (node : ℕ → Node) (n : ℕ) (before after : List ℕ) (changed : Bool) : Type 0 where
  pub from : (start : ℕ) → Sound masks (ReachAt node start) before
      → Visited masks (ReachAt node start) (ChildClosed node) n before after changed

-- the children of all marked nodes have been marked: from any start, all by reaching
pub record SpreadAll (node : ℕ → Node) (count : ℕ) (before after : List ℕ) (changed : Bool) : Type 0 where
  pub from : (start : ℕ) → Sound masks (ReachAt node start) before
      → Turned masks (ReachAt node start) (ChildClosed node) count before after changed
