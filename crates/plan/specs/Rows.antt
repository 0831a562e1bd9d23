-- A row as the code tests it: for the two cells for kinds that a node's type has beside 0.
use Rattle.std.specs.Prelude.{ℕ, ◌+◌, Bool, ◌||◌, cond, List, ltb, leb, eqb, get_or}
use Rattle.words.specs.Lists.{first_bad}
use Rattle.book.specs.declared.Node.{Node}
use Rattle.book.specs.declared.Node.TheVariants.{Fail, Empty, Token, Either, Then, Tagged, Ref}

-- the lower and the higher of the cells for kinds that a node's type has beside 0; 0 where it has none
abbrev pub one_cell : Node → ℕ
one_cell Fail = 0
one_cell Empty = 0
one_cell (Token k) = 1
one_cell (Either l r) = 2
one_cell (Then l r) = 3
one_cell (Tagged l t) = 2
one_cell (Ref l) = 2

abbrev pub other_cell : Node → ℕ
other_cell Fail = 0
other_cell Empty = 0
other_cell (Token k) = 1
other_cell (Either l r) = 5
other_cell (Then l r) = 4
other_cell (Tagged l t) = 2
other_cell (Ref l) = 2

module _ (bytes : List ℕ) (row_at kinds one other : ℕ) where
  -- whether the cell in a column of a row is 0 or one of two others, or is a last cell of 0 or 1
  unfoldable pub column_good : ℕ → Bool
  column_good column =
      let cell = get_or bytes (row_at + column) 0 in
      cond (ltb column kinds) (eqb cell 0 || eqb cell one || eqb cell other) (leb cell 1)

  -- the first column of a row with a bad cell; K + 1 where there is none
  unfoldable pub bad_column : ℕ
  bad_column = first_bad column_good (kinds + 1) 0
