-- The nodes of a sheet as they are written: a word is a ref to its rule's last node, or a token of its kind.
use Rattle.std.specs.Prelude.{ℕ, cond, List, map, get_or}
use Rattle.book.specs.declared.Node.{Node}
use Rattle.book.specs.declared.Node.TheVariants.{Fail, Empty, Token, Either, Then, Tagged, Ref}
use Rattle.sheets.specs.Nodes.{among, number_of}
use Rattle.outline.specs.declared.RawNode.{RawNode}
use Rattle.outline.specs.declared.Row.{Row}
use Rattle.resolving.specs.Letters.{word_at}
use Rattle.resolving.specs.Words.{names_at, kinds_at}

-- the last node of the rule with a number
abbrev pub last_of : List Row → ℕ → ℕ
last_of rows n = (get_or rows n (record { name = 0; last = 0 })).last

module _ (text : List ℕ) (rows : List Row) (kinds : List ℕ) where
  -- the node of the word at a place
  unfoldable pub resolved_word : ℕ → Node
  resolved_word place =
      cond (among (word_at text place) (names_at text rows))
      (Ref (last_of rows (number_of (word_at text place) (names_at text rows))))
      (Token (number_of (word_at text place) (kinds_at text kinds)))

  -- a node that is put down, and nodes
  unfoldable pub resolved : Node → ℕ → Node
  resolved Fail place = Fail
  resolved Empty place = Empty
  resolved (Token k) place = resolved_word place
  resolved (Either l r) place = Either l r
  resolved (Then l r) place = Then l r
  resolved (Tagged l t) place = Tagged l t
  resolved (Ref l) place = Ref l

  abbrev pub resolved_all : List RawNode → List Node
  resolved_all nodes = map (λ raw. resolved raw.node raw.place) nodes
