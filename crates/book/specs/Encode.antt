-- The bytes of a book, without names and with them.
use Rattle.std.specs.Prelude.{ℕ, List, [], ◌∷◌, ◌++◌, length}
use Rattle.words.specs.Words.{word_bytes}
use Rattle.words.specs.Lists.{lists_from}
use Rattle.forms.specs.Forms.{contents_of}
use Rattle.names.specs.Names.{names_bytes}
use Rattle.book.specs.Book.{Book}
use Rattle.book.specs.Form.{book_sections, named_sections}
use Rattle.book.specs.declared.Node.{Node}
use Rattle.book.specs.declared.Node.TheVariants.{Fail, Empty, Token, Either, Then, Tagged, Ref}

-- a node's type, left and right
abbrev pub node_words : Node → List ℕ
node_words Fail = 0 ∷ 0 ∷ 0 ∷ []
node_words Empty = 1 ∷ 0 ∷ 0 ∷ []
node_words (Token k) = 2 ∷ k ∷ 0 ∷ []
node_words (Either l r) = 3 ∷ l ∷ r ∷ []
node_words (Then l r) = 4 ∷ l ∷ r ∷ []
node_words (Tagged l t) = 5 ∷ l ∷ t ∷ []
node_words (Ref l) = 6 ∷ l ∷ 0 ∷ []

-- a book's sections: kinds and start, then type, left and right of each node
unfoldable pub body_words : Book → List ℕ
body_words b = b.kinds ∷ b.start ∷ lists_from (λ n. node_words (b.node n)) b.count 0

-- the bytes of a book: contents, then its sections
unfoldable pub book_bytes : Book → List ℕ
book_bytes b = word_bytes (contents_of (book_sections b.count) ++ body_words b)

-- the bytes of a book with names: contents of three sections, and the names behind the others
unfoldable pub named_bytes : Book → List (List ℕ) → List ℕ
named_bytes b names =
    word_bytes (contents_of (named_sections b.count (length (names_bytes names))) ++ body_words b) ++ names_bytes names
