-- What ways from each node weigh, as numbers that only go up: each tells how many weights, from 0 on, ways from the
-- node weigh at least.
use Rattle.std.specs.Prelude.{ℕ, ◌+◌, ◌≤◌, ◌<◌, ◌≡◌, Bool, true, not, cond, List, ◌↔◌, ltb, eqb, get_or, set}
use Rattle.kinds.specs.Kinds.{has?}
use Rattle.book.specs.declared.Node.{Node}
use Rattle.book.specs.declared.Node.TheVariants.{Fail, Empty, Token, Either, Then, Tagged, Ref}
use Rattle.rules.specs.Facts.{facts_at}
use Rattle.rules.specs.Growth.{Told, Turned}
use Rattle.rules.specs.Step.{left_from, right_from}
use Rattle.depths.specs.Ways.{AtLeast}
use Rattle.profile.specs.declared.Side.{Side}

-- the most that a number tells: more weights than a book has nodes, and one
abbrev pub MOST : ℕ
MOST = 514

-- a number tells the weights below it
abbrev pub weighing : Told
weighing = record { tells = λ x j. j < x; nothing = 0; up = true }

-- the greater of two numbers
abbrev pub greater : ℕ → ℕ → ℕ
greater a b = cond (ltb a b) b a

-- one weight more where there is a way, up to the most
abbrev pub one_more : ℕ → ℕ
one_more x = cond (eqb x 0) 0 (cond (ltb x MOST) (x + 1) x)

-- a number where something is so, else 0
abbrev pub where_so : Bool → ℕ → ℕ
where_so so x = cond so x 0

-- what stands in the table and among the weights for a node: whether it is productive, and its number
abbrev pub side_at : List ℕ → List ℕ → ℕ → Side
side_at table list n = record { makes = has? (facts_at table n).productive 0; weight = get_or list n 0 }

-- what a then has by its sides: one more than left where right is productive, and right's where left is productive
abbrev pub then_weight : Side → Side → ℕ
then_weight left right =
    greater (where_so right.makes (one_more left.weight)) (where_so left.makes right.weight)

-- what a node has by its sides
abbrev pub weight_by : Node → Side → Side → ℕ
weight_by Fail left right = 0
weight_by Empty left right = 0
weight_by (Token k) left right = 1
weight_by (Either l r) left right = greater left.weight right.weight
weight_by (Then l r) left right = then_weight left right
weight_by (Tagged l t) left right = left.weight
weight_by (Ref l) left right = left.weight

-- what a node of a number has by the table and the weights
abbrev pub weight_of : List ℕ → List ℕ → ℕ → Node → ℕ
weight_of table list n node =
    weight_by node (side_at table list (left_from n node)) (side_at table list (right_from n node))

-- a number has been raised to another, if that is greater; whether it changed
pub record Raised (before after : List ℕ) (i more : ℕ) (changed : Bool) : Type 0 where
  pub list_is : after ≡ set before i (greater (get_or before i 0) more)
  pub changed_is : changed ≡ not (eqb (greater (get_or before i 0) more) (get_or before i 0))

-- a weight told at a place is that of a way from its node, at least
pub record WeightAt (node : ℕ → Node) (i j : ℕ) : Type 0 where
  pub heavy : AtLeast node (node i) j

-- the weights have what a node has by its sides
pub record WeightClosed (node : ℕ → Node) (table list : List ℕ) (n : ℕ) : Type 0 where
  pub closed : weight_of table list n (node n) ≤ get_or list n 0

-- the nodes below a count have been visited
abbrev pub WeightsTurned : (ℕ → Node) → List ℕ → ℕ → List ℕ → List ℕ → Bool → Type 0
WeightsTurned node table = Turned weighing (WeightAt node) (WeightClosed node table)

-- the weights of so many nodes, told below the most
pub record Weighed (node : ℕ → Node) (count : ℕ) (list : List ℕ) : Type 0 where
  pub told : (n j : ℕ) → n < count → j < MOST → (j < get_or list n 0) ↔ AtLeast node (node n) j
