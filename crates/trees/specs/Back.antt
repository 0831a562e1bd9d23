-- What is due at a record, found by looking back from it.
use Rattle.std.specs.Prelude.{ℕ, zero, suc, ◌-◌, Bool, true, false, cond, List, get_or}
use Rattle.book.specs.Book.{Book}
use Rattle.book.specs.declared.Node.{Node}
use Rattle.book.specs.declared.Node.TheVariants.{Fail, Empty, Token, Either, Then, Tagged, Ref}
use Rattle.trees.specs.declared.Due.{Due}
use Rattle.trees.specs.declared.Due.TheVariants.{Nothing, Part, Taking, OneOf, Both}
use Rattle.trees.specs.Trees.{is_emptied}

-- the right of a then whose left is whole: with events, where the left is an empty record
abbrev pub right_due : Bool → ℕ → Due
right_due empty r = cond empty (Taking r) (Part r)

-- what is due by the record of a node, where so many whole parts stand behind it, the first of them an empty record or
-- not; nothing, where its own part is whole
unfoldable pub found_at : Node → ℕ → Bool → Due
found_at Fail whole empty = Nothing
found_at Empty whole empty = Nothing
found_at (Token k) whole empty = Nothing
found_at (Either l r) zero empty = OneOf l r
found_at (Either l r) (suc whole) empty = Nothing
found_at (Then l r) zero empty = Both l r
found_at (Then l r) (suc zero) empty = right_due empty r
found_at (Then l r) (suc (suc whole)) empty = Nothing
found_at (Tagged l t) zero empty = Taking l
found_at (Tagged l t) (suc whole) empty = Nothing
found_at (Ref l) zero empty = Taking l
found_at (Ref l) (suc whole) empty = Nothing

-- how many whole parts stand from it on then
unfoldable pub whole_from : Node → ℕ → ℕ
whole_from Fail whole = suc whole
whole_from Empty whole = suc whole
whole_from (Token k) whole = suc whole
whole_from (Either l r) whole = whole
whole_from (Then l r) whole = whole - 1
whole_from (Tagged l t) whole = whole
whole_from (Ref l) whole = whole

-- what is found, or the other where that is nothing
unfoldable pub found_or : Due → Due → Due
found_or Nothing other = other
found_or (Part n) other = Part n
found_or (Taking n) other = Taking n
found_or (OneOf l r) other = OneOf l r
found_or (Both l r) other = Both l r

-- past the front: the start is due, or nothing, where it is whole
unfoldable pub front : ℕ → ℕ → Due
front start zero = Part start
front start (suc whole) = Nothing

module _ (b : Book) (records : List ℕ) where
  -- looking back over so many records, where so many whole parts stand behind them
  unfoldable pub back : ℕ → ℕ → Bool → Due
  back zero whole empty = front b.start whole
  back (suc i) whole empty =
      cond (is_emptied (get_or records i 0)) (back i (suc whole) true)
      (found_or (found_at (b.node (get_or records i 0)) whole empty)
      (back i (whole_from (b.node (get_or records i 0)) whole) false))

  -- what is due at a record
  unfoldable pub due_at : ℕ → Due
  due_at i = back i 0 false
