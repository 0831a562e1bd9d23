-- Derivations by document 01's type table, and the runs that are lawful by them.
use Rattle.std.specs.Prelude.{ℕ, List, [], ◌∷◌, ◌++◌}
use Rattle.book.specs.Book.{Book}
use Rattle.book.specs.declared.Node.{Node}
use Rattle.book.specs.declared.Node.TheVariants.{Empty, Token, Either, Then, Tagged, Ref}

-- what a node derives: fail nothing; empty the empty run; token one event of its kind; either what left or right
-- derives; then left's run followed by right's; tagged and ref what left derives
pub data Derives (node : ℕ → Node) : Node → List ℕ → Type 0 where
  d_empty : Derives node Empty []
  d_token : {k : ℕ} → Derives node (Token k) (k ∷ [])
  d_left : {l r : ℕ} {xs : List ℕ} → Derives node (node l) xs → Derives node (Either l r) xs
  d_right : {l r : ℕ} {xs : List ℕ} → Derives node (node r) xs → Derives node (Either l r) xs
  d_then : {l r : ℕ} {xs ys : List ℕ} → Derives node (node l) xs → Derives node (node r) ys
      → Derives node (Then l r) (xs ++ ys)
  d_tagged : {l t : ℕ} {xs : List ℕ} → Derives node (node l) xs → Derives node (Tagged l t) xs
  d_ref : {l : ℕ} {xs : List ℕ} → Derives node (node l) xs → Derives node (Ref l) xs

-- a run is lawful if the start derives it
abbrev pub Lawful : Book → List ℕ → Type 0
Lawful b xs = Derives b.node (b.node b.start) xs

-- a beginning of a lawful run
pub record Begins (b : Book) (xs : List ℕ) : Type 0 where
  pub rest : List ℕ
  pub lawful : Lawful b (xs ++ rest)

-- a kind extends a node: some run that the node derives goes on, with the kind, to a longer run that it derives
pub record Extends (node : ℕ → Node) (top : Node) (k : ℕ) : Type 0 where
  pub shorter : List ℕ
  pub rest : List ℕ
  pub derives_shorter : Derives node top shorter
  pub derives_longer : Derives node top (shorter ++ (k ∷ rest))
