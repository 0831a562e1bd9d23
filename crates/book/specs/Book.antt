-- A book: its nodes, looked up by number, with their count, the number of kinds and the start.
use Rattle.std.specs.Prelude.{ℕ, ◌≤◌, ◌<◌, ◌≡◌}
use Rattle.book.specs.declared.Node.{Node}
use Rattle.book.specs.declared.Node.TheVariants.{Fail, Empty, Token, Either, Then, Tagged, Ref}

-- a book as its rules see it
pub record Book : Type 0 where
  pub count : ℕ
  pub kinds : ℕ
  pub start : ℕ
  pub node : ℕ → Node

-- the left of a node (types 3 to 6)
abbrev pub left_of : Node → ℕ
left_of Fail = 0
left_of Empty = 0
left_of (Token k) = 0
left_of (Either l r) = l
left_of (Then l r) = l
left_of (Tagged l t) = l
left_of (Ref l) = l

-- the right of a node (types 3 and 4)
abbrev pub right_of : Node → ℕ
right_of Fail = 0
right_of Empty = 0
right_of (Token k) = 0
right_of (Either l r) = r
right_of (Then l r) = r
right_of (Tagged l t) = 0
right_of (Ref l) = 0

-- the label of a tagged node; 0 where a node is not tagged
abbrev pub tag_of : Node → ℕ
tag_of Fail = 0
tag_of Empty = 0
tag_of (Token k) = 0
tag_of (Either l r) = 0
tag_of (Then l r) = 0
tag_of (Tagged l t) = t
tag_of (Ref l) = 0

-- a label: 1 to 65,535
abbrev pub Label : ℕ → Type 0
Label t = (1 ≤ t) × (t ≤ 65535)

-- a node's fields are as the type table has them, for a number of kinds, a count of nodes and the node's own number
pub data Proper (kinds count own : ℕ) : Node → Type 0 where
  fail_is : Proper kinds count own Fail
  empty_is : Proper kinds count own Empty
  token_is : {k : ℕ} → k < kinds → Proper kinds count own (Token k)
  either_is : {l r : ℕ} → l < own → r < own → Proper kinds count own (Either l r)
  then_is : {l r : ℕ} → l < own → r < own → Proper kinds count own (Then l r)
  tagged_is : {l t : ℕ} → l < own → Label t → Proper kinds count own (Tagged l t)
  ref_is : {l : ℕ} → l < count → Proper kinds count own (Ref l)

-- a well-formed book: 1 to 512 nodes over 1 to 64 kinds, the start among them, each node proper, nothing beyond
pub record WellFormed (b : Book) : Type 0 where
  pub some_node : 0 < b.count
  pub few_nodes : b.count ≤ 512
  pub some_kind : 0 < b.kinds
  pub few_kinds : b.kinds ≤ 64
  pub start_below : b.start < b.count
  pub proper : (n : ℕ) → n < b.count → Proper b.kinds b.count n (b.node n)
  pub beyond : (n : ℕ) → b.count ≤ n → b.node n ≡ Fail
