-- The bytes of nodes: three 16-bit numbers each, type, left and right.
use Rattle.std.specs.Prelude.{ℕ, ◌+◌, ◌*◌, ◌≤◌, ◌<◌, Bool, false, ◌&&◌, cond, List, [], ◌∷◌, ltb, leb, eqb, length, Option, Some, None, slice_get}
use Rattle.words.specs.Words.{u16_at}
use Rattle.book.specs.Book.{Proper}
use Rattle.book.specs.declared.Fields.{Fields}
use Rattle.book.specs.declared.Node.{Node}
use Rattle.book.specs.declared.Node.TheVariants.{Fail, Empty, Token, Either, Then, Tagged, Ref}
use Rattle.book.specs.declared.NodeType.{NodeType}

-- the types, in the type table's order
abbrev pub types : List NodeType
types =
    NodeType.Fail ∷ NodeType.Empty ∷ NodeType.Token ∷ NodeType.Either ∷ NodeType.Then ∷ NodeType.Tagged ∷ NodeType.Ref
    ∷ []

-- the type with a number in the type table, if it is one's
abbrev pub type_of : ℕ → Option NodeType
type_of number = slice_get types number

-- the node of a type with a left and a right
abbrev pub typed_node : Option NodeType → ℕ → ℕ → Node
typed_node (Some NodeType.Fail) left right = Fail
typed_node (Some NodeType.Empty) left right = Empty
typed_node (Some NodeType.Token) left right = Token left
typed_node (Some NodeType.Either) left right = Either left right
typed_node (Some NodeType.Then) left right = Then left right
typed_node (Some NodeType.Tagged) left right = Tagged left right
typed_node (Some NodeType.Ref) left right = Ref left
typed_node None left right = Fail

-- the node that a type's number, a left and a right are
abbrev pub node_of : ℕ → ℕ → ℕ → Node
node_of number left right = typed_node (type_of number) left right

-- the type table, a rule for each type: what its left and its right are
abbrev pub fail_rule : Fields → Bool
fail_rule f = eqb f.left 0 && eqb f.right 0

abbrev pub empty_rule : Fields → Bool
empty_rule f = eqb f.left 0 && eqb f.right 0

abbrev pub token_rule : Fields → Bool
token_rule f = ltb f.left f.kinds && eqb f.right 0

abbrev pub either_rule : Fields → Bool
either_rule f = ltb f.left f.own && ltb f.right f.own

abbrev pub then_rule : Fields → Bool
then_rule f = ltb f.left f.own && ltb f.right f.own

abbrev pub tagged_rule : Fields → Bool
tagged_rule f = ltb f.left f.own && leb 1 f.right && leb f.right 65535

abbrev pub ref_rule : Fields → Bool
ref_rule f = ltb f.left f.count && eqb f.right 0

-- whether fields are those of a node of a type
abbrev pub fields_good : Option NodeType → Fields → Bool
fields_good (Some NodeType.Fail) f = fail_rule f
fields_good (Some NodeType.Empty) f = empty_rule f
fields_good (Some NodeType.Token) f = token_rule f
fields_good (Some NodeType.Either) f = either_rule f
fields_good (Some NodeType.Then) f = then_rule f
fields_good (Some NodeType.Tagged) f = tagged_rule f
fields_good (Some NodeType.Ref) f = ref_rule f
fields_good None f = false

module _ (bytes : List ℕ) (base : ℕ) where
  -- the type, the left and the right of the node with a number, in nodes that begin at `base`
  abbrev pub type_at : ℕ → ℕ
  type_at n = u16_at bytes (base + 6 * n)

  abbrev pub left_at : ℕ → ℕ
  left_at n = u16_at bytes (base + 6 * n + 2)

  abbrev pub right_at : ℕ → ℕ
  right_at n = u16_at bytes (base + 6 * n + 4)

  -- the node with a number
  unfoldable pub node_at : ℕ → Node
  node_at n = node_of (type_at n) (left_at n) (right_at n)

  -- the look-up of so many nodes: `fail` beyond them
  unfoldable pub nodes : ℕ → ℕ → Node
  nodes count n = cond (ltb n count) (node_at n) Fail

  -- whether the node with a number is as the type table has it
  unfoldable pub node_good : ℕ → ℕ → ℕ → Bool
  node_good kinds count n =
      fields_good (type_of (type_at n))
      (record { kinds = kinds; count = count; own = n; left = left_at n; right = right_at n })

  -- nodes that stand in the bytes and are all as the type table has them
  pub record GoodNodes (count kinds : ℕ) : Type 0 where
    pub within : base + 6 * count ≤ length bytes
    pub few_nodes : count ≤ 512
    pub few_kinds : kinds ≤ 64
    pub proper : (n : ℕ) → n < count → Proper kinds count n (nodes count n)
