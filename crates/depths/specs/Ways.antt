-- Ways down a book to a token, and what they weigh: how many rights are held behind the token's event.
use Rattle.std.specs.Prelude.{ℕ, suc, ◌-◌, ◌≤◌, cond, ltb}
use Rattle.book.specs.declared.Node.{Node}
use Rattle.book.specs.declared.Node.TheVariants.{Token, Either, Then, Tagged, Ref}
use Rattle.grammar.specs.Rules.{Productive}

-- a way from a node to a token, by weight: from a then to its left weighs one, where right is productive, and to its
-- right nothing, where left is productive; either, tagged and ref weigh nothing
pub data Weighs (node : ℕ → Node) : Node → ℕ → Type 0 where
  w_token : {k : ℕ} → Weighs node (Token k) 0
  w_left : {l r w : ℕ} → Weighs node (node l) w → Weighs node (Either l r) w
  w_right : {l r w : ℕ} → Weighs node (node r) w → Weighs node (Either l r) w
  w_hold : {l r w : ℕ} → Weighs node (node l) w → Productive node (node r) → Weighs node (Then l r) (suc w)
  w_pass : {l r w : ℕ} → Productive node (node l) → Weighs node (node r) w → Weighs node (Then l r) w
  w_tagged : {l t w : ℕ} → Weighs node (node l) w → Weighs node (Tagged l t) w
  w_ref : {l w : ℕ} → Weighs node (node l) w → Weighs node (Ref l) w

-- some way from a node weighs at least so much
pub record AtLeast (node : ℕ → Node) (top : Node) (j : ℕ) : Type 0 where
  pub weight : ℕ
  pub way : Weighs node top weight
  pub least : j ≤ weight

-- the greatest number of parts held, where ways from the start weigh at least 0, 1 and so on, so many numbers in all:
-- the weight of the heaviest way, one less than these, but one at least, since the start is held
abbrev pub held_by : ℕ → ℕ
held_by x = cond (ltb 2 x) (x - 1) 1
