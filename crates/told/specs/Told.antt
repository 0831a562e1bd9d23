-- A book with names, told in words: its kinds with their names, its nodes, its start, a line each.
use Rattle.std.specs.Prelude.{ℕ, ◌<◌, ◌≡◌, true, List, ◌++◌}
use Rattle.words.specs.Lists.{lists_from}
use Rattle.names.specs.Names.{name_of}
use Rattle.book.specs.Book.{Proper}
use Rattle.book.specs.Form.{DONE, named, names_at, form_of, book_of}
use Rattle.book.specs.declared.Node.{Node}
use Rattle.book.specs.declared.Node.TheVariants.{Fail, Empty, Token, Either, Then, Tagged, Ref}
use Rattle.lines.specs.Text.{text}
use Rattle.prints.specs.Digits.{spaced}
use Rattle.lines.specs.Lines.{line_feed}

-- a book of good form with names
pub record NamedBook (bytes : List ℕ) : Type 0 where
  pub form : (form_of bytes).number ≡ DONE
  pub names : named bytes ≡ true

-- a word and two numbers; a ref
abbrev pub pair_text : List ℕ → ℕ → ℕ → List ℕ
pair_text word left right = word ++ spaced left ++ spaced right

abbrev pub ref_text : ℕ → List ℕ
ref_text left = text " ref" ++ spaced left

module _ (bytes : List ℕ) where
  -- a space and the name of a kind
  unfoldable pub name_text : ℕ → List ℕ
  name_text kind = text " " ++ name_of bytes (names_at bytes) kind

  -- a kind's line
  unfoldable pub kind_line : ℕ → List ℕ
  kind_line kind = text "kind" ++ spaced kind ++ name_text kind ++ line_feed

  -- a node: its type, and its left and right; a token with its kind's name
  unfoldable pub node_text : Node → List ℕ
  node_text Fail = text " fail"
  node_text Empty = text " empty"
  node_text (Token kind) = text " token" ++ name_text kind
  node_text (Either left right) = pair_text (text " either") left right
  node_text (Then left right) = pair_text (text " then") left right
  node_text (Tagged left label) = pair_text (text " tagged") left label
  node_text (Ref left) = ref_text left

  -- the line of the node with a number
  unfoldable pub node_line : ℕ → List ℕ
  node_line n = text "node" ++ spaced n ++ node_text ((book_of bytes).node n) ++ line_feed

  -- the lines of all kinds, of all nodes, and of the start
  unfoldable pub kind_lines : List ℕ
  kind_lines = lists_from kind_line (book_of bytes).kinds 0

  unfoldable pub node_lines : List ℕ
  node_lines = lists_from node_line (book_of bytes).count 0

  unfoldable pub start_line : List ℕ
  start_line = text "start" ++ spaced (book_of bytes).start ++ line_feed

  unfoldable pub book_lines : List ℕ
  book_lines = kind_lines ++ node_lines ++ start_line

  -- a kind of the book; a node that stands in it with a number
  abbrev pub KindIn : ℕ → Type 0
  KindIn kind = kind < (book_of bytes).kinds

  abbrev pub NodeIn : ℕ → Node → Type 0
  NodeIn n node = Proper (book_of bytes).kinds (book_of bytes).count n node

-- the most bytes that they take
abbrev pub book_room : ℕ
book_room = 18058
