-- Good nodes, wherever they stand: a book's are such, and so are a plan's.
use Rattle.std.specs.Prelude.{ℕ, List}
use Rattle.book.specs.Decode.{nodes, GoodNodes}
use Rattle.book.specs.declared.Node.{Node}

-- where nodes stand: in which bytes, where in them they begin, and how many they are
pub record Placed : Type 0 where
  pub bytes : List ℕ
  pub base : ℕ
  pub count : ℕ

abbrev pub placed : List ℕ → ℕ → ℕ → Placed
placed bytes base count = record { bytes = bytes; base = base; count = count }

-- their look-up: `fail` beyond them
abbrev pub node_in : Placed → ℕ → Node
node_in at = nodes at.bytes at.base at.count

-- they are good nodes, for 64 kinds
abbrev pub AreGood : Placed → Type 0
AreGood at = GoodNodes at.bytes at.base at.count 64
