-- The rules of document 000, figure 5, as document 01 words them. Each fact is the least one that its rules give;
-- tagged and ref take all facts of their left. `node` looks a book's nodes up by number.
use Rattle.std.specs.Prelude.{ℕ}
use Rattle.book.specs.declared.Node.{Node}
use Rattle.book.specs.declared.Node.TheVariants.{Empty, Token, Either, Then, Tagged, Ref}

-- productive: empty; token; either if one side is; then if both are
pub data Productive (node : ℕ → Node) : Node → Type 0 where
  p_empty : Productive node Empty
  p_token : {k : ℕ} → Productive node (Token k)
  p_left : {l r : ℕ} → Productive node (node l) → Productive node (Either l r)
  p_right : {l r : ℕ} → Productive node (node r) → Productive node (Either l r)
  p_then : {l r : ℕ} → Productive node (node l) → Productive node (node r) → Productive node (Then l r)
  p_tagged : {l t : ℕ} → Productive node (node l) → Productive node (Tagged l t)
  p_ref : {l : ℕ} → Productive node (node l) → Productive node (Ref l)

-- nullable: empty; either if one side is; then if both are
pub data Nullable (node : ℕ → Node) : Node → Type 0 where
  n_empty : Nullable node Empty
  n_left : {l r : ℕ} → Nullable node (node l) → Nullable node (Either l r)
  n_right : {l r : ℕ} → Nullable node (node r) → Nullable node (Either l r)
  n_then : {l r : ℕ} → Nullable node (node l) → Nullable node (node r) → Nullable node (Then l r)
  n_tagged : {l t : ℕ} → Nullable node (node l) → Nullable node (Tagged l t)
  n_ref : {l : ℕ} → Nullable node (node l) → Nullable node (Ref l)

-- FIRST: a token has its kind; either joins both sides; then has FIRST(left) if right is productive, and FIRST(right)
-- if left is nullable
pub data First (node : ℕ → Node) : Node → ℕ → Type 0 where
  f_token : {k : ℕ} → First node (Token k) k
  f_left : {l r k : ℕ} → First node (node l) k → First node (Either l r) k
  f_right : {l r k : ℕ} → First node (node r) k → First node (Either l r) k
  f_hold : {l r k : ℕ} → First node (node l) k → Productive node (node r) → First node (Then l r) k
  f_skip : {l r k : ℕ} → Nullable node (node l) → First node (node r) k → First node (Then l r) k
  f_tagged : {l t k : ℕ} → First node (node l) k → First node (Tagged l t) k
  f_ref : {l k : ℕ} → First node (node l) k → First node (Ref l) k

-- should-not-follow: either joins both sides, with FIRST(left) if right is nullable and FIRST(right) if left is
-- nullable; then has SNF(left) if right is nullable, and SNF(right) if left is productive
pub data Snf (node : ℕ → Node) : Node → ℕ → Type 0 where
  s_left : {l r k : ℕ} → Snf node (node l) k → Snf node (Either l r) k
  s_right : {l r k : ℕ} → Snf node (node r) k → Snf node (Either l r) k
  s_first_left : {l r k : ℕ} → First node (node l) k → Nullable node (node r) → Snf node (Either l r) k
  s_first_right : {l r k : ℕ} → Nullable node (node l) → First node (node r) k → Snf node (Either l r) k
  s_then_left : {l r k : ℕ} → Snf node (node l) k → Nullable node (node r) → Snf node (Then l r) k
  s_then_right : {l r k : ℕ} → Productive node (node l) → Snf node (node r) k → Snf node (Then l r) k
  s_tagged : {l t k : ℕ} → Snf node (node l) k → Snf node (Tagged l t) k
  s_ref : {l k : ℕ} → Snf node (node l) k → Snf node (Ref l) k

-- a conflict: at an either both sides nullable, or a kind in both FIRST sets; at a then a kind in SNF(left) and in
-- FIRST(right)
pub data Conflict (node : ℕ → Node) : Node → Type 0 where
  c_nullable : {l r : ℕ} → Nullable node (node l) → Nullable node (node r) → Conflict node (Either l r)
  c_first : {l r k : ℕ} → First node (node l) k → First node (node r) k → Conflict node (Either l r)
  c_follow : {l r k : ℕ} → Snf node (node l) k → First node (node r) k → Conflict node (Then l r)

-- the left (types 3 to 6) and the right (types 3 and 4) of a node
pub data Child : Node → ℕ → Type 0 where
  either_left : {l r : ℕ} → Child (Either l r) l
  either_right : {l r : ℕ} → Child (Either l r) r
  then_left : {l r : ℕ} → Child (Then l r) l
  then_right : {l r : ℕ} → Child (Then l r) r
  tagged_left : {l t : ℕ} → Child (Tagged l t) l
  ref_left : {l : ℕ} → Child (Ref l) l

-- a node is reachable if it is the start or a child of a reachable node
pub data Reach (node : ℕ → Node) (start : ℕ) : ℕ → Type 0 where
  r_start : Reach node start start
  r_child : {n m : ℕ} → Reach node start n → Child (node n) m → Reach node start m
