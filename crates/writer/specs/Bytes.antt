-- The bytes of a book's plan: contents, settings and nodes as in the book, then the rows and what is due.
use Rattle.std.specs.Prelude.{ℕ, cond, List, [], ◌∷◌, ◌++◌}
use Rattle.words.specs.Lists.{values_from, lists_from}
use Rattle.words.specs.Words.{word_bytes}
use Rattle.forms.specs.Forms.{contents_of}
use Rattle.book.specs.Book.{Book}
use Rattle.book.specs.Encode.{body_words}
use Rattle.running.specs.Cells.{Marks, cell_of}
use Rattle.plan.specs.Form.{plan_sections}

-- the contents of a plan with so many nodes and kinds
unfoldable pub plan_contents : ℕ → ℕ → List ℕ
plan_contents count kinds = word_bytes (contents_of (plan_sections count kinds))

-- the settings and nodes of a book
unfoldable pub book_body : Book → List ℕ
book_body book = word_bytes (body_words book)

module _ (marks : Marks) (book : Book) where
  -- a node's row: a cell for each kind, then 1 if the node is nullable, else 0
  unfoldable pub row_of : ℕ → List ℕ
  row_of n = values_from (λ k. cell_of marks k n (book.node n)) book.kinds 0 ++ (cond (marks.null n) 1 0 ∷ [])

  -- all rows
  unfoldable pub rows_of : List ℕ
  rows_of = lists_from row_of book.count 0

  -- what is due for all nodes, a 16-bit number each
  unfoldable pub dues_of : List ℕ
  dues_of = lists_from (λ n. word_bytes (marks.due n ∷ [])) book.count 0

-- the plan of a book, with the marks of its nodes
unfoldable pub plan_bytes : Book → Marks → List ℕ
plan_bytes book marks =
    plan_contents book.count book.kinds ++ (book_body book ++ (rows_of marks book ++ dues_of marks book))
