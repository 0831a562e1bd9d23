-- Marks read off tables of facts and of lengths, and the rows by sets of kinds.
use Rattle.std.specs.Prelude.{ℕ, ◌≤◌, ◌≡◌, ◌&&◌, cond, List, [], ◌∷◌, ◌++◌, ltb, length, get_or}
use Rattle.kinds.specs.Kinds.{has?}
use Rattle.words.specs.Lists.{values_from}
use Rattle.words.specs.Words.{word_bytes}
use Rattle.book.specs.Form.{DONE, form_of, book_of}
use Rattle.book.specs.declared.Node.{Node}
use Rattle.book.specs.declared.Node.TheVariants.{Fail, Empty, Token, Either, Then, Tagged, Ref}
use Rattle.rules.specs.Facts.{table_size, facts_at}
use Rattle.lengths.specs.Least.{length_at}
use Rattle.lengths.specs.Falling.{smaller}
use Rattle.running.specs.Cells.{Marks}
use Rattle.plan.specs.Form.{plan_size}

-- the sets of a node in a table of facts: nullable (no kind or all kinds), and FIRST
abbrev pub null_set : List ℕ → ℕ → ℕ
null_set table n = (facts_at table n).nullable

abbrev pub first_set : List ℕ → ℕ → ℕ
first_set table n = (facts_at table n).first

-- the marks that a table of facts for so many nodes has; by it nothing is due
unfoldable pub marks_of : List ℕ → ℕ → Marks
marks_of table count =
    record {
      first = λ n k. ltb n count && has? (first_set table n) k;
      null = λ n. ltb n count && has? (null_set table n) 0;
      due = λ n. 0;
    }

-- what is due for a node by a table of lengths for so many nodes: its least length, held at 65,535
abbrev pub due_by : List ℕ → ℕ → ℕ → ℕ
due_by lengths count n = cond (ltb n count) (smaller (length_at lengths n) 65535) 65535

-- marks, with what is due by a table of lengths for so many nodes
unfoldable pub with_due : Marks → List ℕ → ℕ → Marks
with_due marks lengths count = record { first = marks.first; null = marks.null; due = due_by lengths count }

-- the bytes of what is due for a node by a table of lengths
abbrev pub due_bytes : List ℕ → ℕ → ℕ → List ℕ
due_bytes lengths count n = word_bytes (due_by lengths count n ∷ [])

-- the cell of a node for a kind in FIRST(node) that is not in FIRST(left), given a then's
abbrev pub far_cell : Node → ℕ → ℕ
far_cell Fail skip = 0
far_cell Empty skip = 0
far_cell (Token k) skip = 1
far_cell (Either l r) skip = 5
far_cell (Then l r) skip = skip
far_cell (Tagged l t) skip = 2
far_cell (Ref l) skip = 2

-- a cell by the FIRST sets of a node and its left: one cell for a kind in both, another for a kind not in FIRST(left)
abbrev pub cell_by : ℕ → ℕ → ℕ → ℕ → ℕ → ℕ
cell_by first left near far k = cond (has? first k) (cond (has? left k) near far) 0

-- a row by those sets and cells, with its last cell
unfoldable pub row_by : ℕ → ℕ → ℕ → ℕ → ℕ → ℕ → List ℕ
row_by first left near far kinds mark = values_from (cell_by first left near far) kinds 0 ++ (mark ∷ [])

-- what the plan writer is called with: a book of good form, its count and kinds, a table of its facts, room for the plan
pub record Writable (book table plan : List ℕ) (count kinds : ℕ) : Type 0 where
  pub form : (form_of book).number ≡ DONE
  pub count_is : count ≡ (book_of book).count
  pub kinds_is : kinds ≡ (book_of book).kinds
  pub table_long : table_size count ≤ length table
  pub plan_long : plan_size count kinds ≤ length plan

-- a buffer with zeros from a place on
pub record ClearFrom (plan : List ℕ) (at : ℕ) : Type 0 where
  pub zero_from : (i : ℕ) → at ≤ i → get_or plan i 0 ≡ 0
