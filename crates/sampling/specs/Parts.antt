-- Writing a sample by parts that are due: what a node writes, and its parts that then are due, by least weights.
use Rattle.std.specs.Prelude.{ℕ, zero, suc, ◌+◌, ◌≤◌, ◌<◌, cond, List, [], ◌∷◌, ◌++◌, ltb, length}
use Rattle.book.specs.declared.Node.{Node}
use Rattle.book.specs.declared.Node.TheVariants.{Fail, Empty, Token, Either, Then, Tagged, Ref}

-- the events that a node writes by itself
unfoldable pub events_of : Node → List ℕ
events_of Fail = []
events_of Empty = []
events_of (Token k) = k ∷ []
events_of (Either l r) = []
events_of (Then l r) = []
events_of (Tagged l t) = []
events_of (Ref l) = []

-- a node in front of what is due, by its weight: one whose best run is empty is left out
abbrev pub due_before : ℕ → ℕ → List ℕ → List ℕ
due_before weight n due = cond (ltb weight 64) due (n ∷ due)

-- the parts of a node in front of what is due: of an either the lighter side, of a then both
unfoldable pub parts_on : Node → (ℕ → ℕ) → List ℕ → List ℕ
parts_on Fail by due = due
parts_on Empty by due = due
parts_on (Token k) by due = due
parts_on (Either l r) by due = cond (ltb (by l) (by r)) l r ∷ due
parts_on (Then l r) by due = due_before (by l) l (due_before (by r) r due)
parts_on (Tagged l t) by due = l ∷ due
parts_on (Ref l) by due = l ∷ due

-- the sum of numbers for parts
unfoldable pub sum_over : (ℕ → ℕ) → List ℕ → ℕ
sum_over value [] = 0
sum_over value (n ∷ due) = value n + sum_over value due

-- how many nodes are visited to write a part, down to a depth
unfoldable pub visits : (ℕ → Node) → (ℕ → ℕ) → ℕ → ℕ → ℕ
visits node by zero n = 0
visits node by (suc depth) n = suc (sum_over (λ m. visits node by depth m) (parts_on (node n) by []))

-- of so many nodes those that are lighter than a weight
unfoldable pub lighter_than : (ℕ → ℕ) → ℕ → ℕ → ℕ
lighter_than by zero weight = 0
lighter_than by (suc n) weight = cond (ltb (by n) weight) 1 0 + lighter_than by n weight

-- the parts due find room: below each are fewer than there are nodes, less those lighter than it
pub data Fits (by : ℕ → ℕ) (count : ℕ) : List ℕ → Type 0 where
  fits_none : Fits by count []
  fits_part : {n : ℕ} {due : List ℕ} → length due + lighter_than by count (by n) < count → Fits by count due
      → Fits by count (n ∷ due)

-- the parts that a node leaves are no heavier than it, and each of two is lighter
pub data Lightens (by : ℕ → ℕ) (count weight : ℕ) : List ℕ → Type 0 where
  leaves_none : Lightens by count weight []
  leaves_one : {l : ℕ} → by l ≤ weight → Lightens by count weight (l ∷ [])
  leaves_two : {l r : ℕ} → l < count → by l < weight → by r < weight → Lightens by count weight (l ∷ r ∷ [])

-- parts due that write a run, down to a depth: each writes its own events, then its parts write theirs
pub data Row (node : ℕ → Node) (by : ℕ → ℕ) (count : ℕ) : ℕ → List ℕ → List ℕ → Type 0 where
  row_none : {depth : ℕ} → Row node by count depth [] []
  row_part : {depth n : ℕ} {due xs ys : List ℕ} → n < count → Lightens by count (by n) (parts_on (node n) by [])
      → Row node by count depth (parts_on (node n) by []) xs → Row node by count (suc depth) due ys
      → Row node by count (suc depth) (n ∷ due) (events_of (node n) ++ (xs ++ ys))
