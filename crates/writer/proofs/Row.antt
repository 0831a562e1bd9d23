-- The row by sets of kinds is the row of the table's marks.
use mathlib.Core.Path.{◌≡◌, refl, ap₂, fun_ext}
use mathlib.Core.Bool.{Bool, true, false, not, ◌&&◌, cond}
use mathlib.Core.List.{List, [], ◌∷◌, ◌++◌}
use Prim.Native.Nat.{ℕ, ◌<◌}
use borrow.Author.Tests.{lt-ltb}
use Rattle.kinds.specs.Kinds.{has?}
use Rattle.words.specs.Lists.{values_from}
use Rattle.book.specs.Book.{Book, left_of}
use Rattle.book.specs.declared.Node.{Node}
use Rattle.book.specs.declared.Node.TheVariants.{Fail, Empty, Token, Either, Then, Tagged, Ref}
use Rattle.running.specs.Cells.{cell_of}
use Rattle.plan.specs.Rows.{one_cell}
use Rattle.writer.specs.Bytes.{row_of}
use Rattle.writer.specs.Table.{null_set, first_set, marks_of, far_cell, cell_by, row_by}

same_cells : (first left : Bool) (cell : ℕ) → cond first (cond left cell cell) 0 ≡ cond first cell 0
same_cells true true cell = refl
same_cells true false cell = refl
same_cells false left cell = refl

no_cells : (first left : Bool) → cond {A = ℕ} first (cond left 0 0) 0 ≡ 0
no_cells true true = refl
no_cells true false = refl
no_cells false left = refl

either_cells : (first left : Bool) → cond {A = ℕ} first (cond left 2 5) 0 ≡ cond first (cond left 2 5) 0
either_cells true true = refl
either_cells true false = refl
either_cells false left = refl

then_cells : (first left null : Bool) → cond {A = ℕ} first (cond left 3 (cond null 4 3)) 0 ≡ cond first (cond (null && not left) 4 3) 0
then_cells true true true = refl
then_cells true true false = refl
then_cells true false true = refl
then_cells true false false = refl
then_cells false left null = refl

module _ (table : List ℕ) (count n : ℕ) (small : n < count) where
  -- the cell of a node beside FIRST(left), by the table
  abbrev far : Node → ℕ
  far node = far_cell node (cond (has? (null_set table (left_of node)) 0) 4 3)

  cell_by_lem : (node : Node) → left_of node < count → (k : ℕ)
      → cell_by (first_set table n) (first_set table (left_of node)) (one_cell node) (far node) k ≡ cell_of (marks_of table count) k n node
  unfolding cell_of marks_of
  cell_by_lem Fail below k = no_cells (has? (first_set table n) k) (has? (first_set table 0) k)
  cell_by_lem Empty below k = no_cells (has? (first_set table n) k) (has? (first_set table 0) k)
  cell_by_lem (Token j) below k = rw (lt-ltb n count small) (same_cells (has? (first_set table n) k) (has? (first_set table 0) k) 1)
  cell_by_lem (Either l r) below k =
      rw (lt-ltb n count small, lt-ltb l count below) (either_cells (has? (first_set table n) k) (has? (first_set table l) k))
  cell_by_lem (Then l r) below k =
      rw (lt-ltb n count small, lt-ltb l count below)
      (then_cells (has? (first_set table n) k) (has? (first_set table l) k) (has? (null_set table l) 0))
  cell_by_lem (Tagged l t) below k = rw (lt-ltb n count small) (same_cells (has? (first_set table n) k) (has? (first_set table l) k) 2)
  cell_by_lem (Ref l) below k = rw (lt-ltb n count small) (same_cells (has? (first_set table n) k) (has? (first_set table l) k) 2)

  pub row_by_lem : (book : Book) → left_of (book.node n) < count
      → row_by (first_set table n) (first_set table (left_of (book.node n))) (one_cell (book.node n)) (far (book.node n)) book.kinds
      (cond (has? (null_set table n) 0) 1 0)
      ≡ row_of (marks_of table count) book n
  unfolding row_by row_of marks_of
  row_by_lem book below =
      ap₂ (λ (value : ℕ → ℕ) (mark : ℕ). values_from value book.kinds 0 ++ (mark ∷ [])) (fun_ext (cell_by_lem (book.node n) below)) mark_by
    where
      mark_by : cond {A = ℕ} (has? (null_set table n) 0) 1 0 ≡ cond ((marks_of table count).null n) 1 0
      mark_by = rw (lt-ltb n count small)
