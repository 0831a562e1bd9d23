-- What a table that has the facts tells: a kind of FIRST or SNF is below the number of kinds, and is told for every kind.
use Prim.Native.Nat.{ℕ, ◌^◌, ◌≤◌, ◌<◌}
use mathlib.Core.List.{List}
use mathlib.Core.Logic.{◌↔◌}
use native.Mathlib.Omega.{arith}
use lib.ListN.{get_or}
use Rattle.kinds.specs.Kinds.{Has}
use Rattle.kinds.proofs.Laws.{has_below}
use Rattle.book.specs.Book.{Proper, token_is}
use Rattle.book.specs.declared.Node.{Node}
use Rattle.book.specs.declared.Node.TheVariants.{Token}
use Rattle.grammar.specs.Rules.{First, Snf, f_token, f_left, f_right, f_hold, f_skip, f_tagged, f_ref, s_left, s_right}
use Rattle.grammar.specs.Rules.{s_first_left, s_first_right, s_then_left, s_then_right, s_tagged, s_ref}
use Rattle.rules.specs.Facts.{facts_at, Facts}
use Rattle.rules.specs.Step.{left_from, right_from}
use Rattle.rules.proofs.Reading.{left_below, right_below}

-- ---- kinds

token_kind : {kinds count n k : ℕ} → Proper kinds count n (Token k) → k < kinds
token_kind (token_is small) = small

module _ {node : ℕ → Node} {kinds count : ℕ} (proper : (n : ℕ) → n < count → Proper kinds count n (node n)) where
  -- a node among the book's, and proper
  record Inside (n : ℕ) (at : Node) : Type 0 where
    below : n < count
    is : Proper kinds count n at

  inside : {n : ℕ} → n < count → Inside n (node n)
  inside {n} below = record { below = below; is = proper n below }

  left : {n : ℕ} {at : Node} → Inside n at → Inside (left_from n at) (node (left_from n at))
  left known = inside (left_below known.below known.is)

  right : {n : ℕ} {at : Node} → Inside n at → Inside (right_from n at) (node (right_from n at))
  right known = inside (right_below known.below known.is)

  first_kind : {k : ℕ} {at : Node} → First node at k → {n : ℕ} → Inside n at → k < kinds
  first_kind f_token known = token_kind known.is
  first_kind (f_left d) known = first_kind d (left known)
  first_kind (f_right d) known = first_kind d (right known)
  first_kind (f_hold d e) known = first_kind d (left known)
  first_kind (f_skip d e) known = first_kind e (right known)
  first_kind (f_tagged d) known = first_kind d (left known)
  first_kind (f_ref d) known = first_kind d (left known)

  snf_kind : {k : ℕ} {at : Node} → Snf node at k → {n : ℕ} → Inside n at → k < kinds
  snf_kind (s_left d) known = snf_kind d (left known)
  snf_kind (s_right d) known = snf_kind d (right known)
  snf_kind (s_first_left d e) known = first_kind d (left known)
  snf_kind (s_first_right d e) known = first_kind e (right known)
  snf_kind (s_then_left d e) known = snf_kind d (left known)
  snf_kind (s_then_right d e) known = snf_kind e (right known)
  snf_kind (s_tagged d) known = snf_kind d (left known)
  snf_kind (s_ref d) known = snf_kind d (left known)

  -- a kind of FIRST is below the number of kinds
  pub first_below : {n k : ℕ} → n < count → First node (node n) k → k < kinds
  first_below below d = first_kind d (inside below)

  -- a kind of SNF is below the number of kinds
  pub snf_below : {n k : ℕ} → n < count → Snf node (node n) k → k < kinds
  snf_below below d = snf_kind d (inside below)

-- ---- a table that has the facts

-- where the numbers of the table are 64-bit numbers and the nodes proper, FIRST and SNF are told for every kind
module _ {node : ℕ → Node} {kinds count : ℕ} {table : List ℕ} (facts : Facts node count table) (fits : (i : ℕ) → get_or table i 0 < 2 ^ 64)
    (few : kinds ≤ 64) (proper : (m : ℕ) → m < count → Proper kinds count m (node m)) {n : ℕ} (below : n < count) where
  pub first_iff : (k : ℕ) → Has (facts_at table n).first k ↔ First node (node n) k
  first_iff k = (
    (λ has. (facts.first_is n k below (has_below 64 (fits _) has)).0 has),
    (λ first. (facts.first_is n k below (omega (arith, first_below proper below first))).1 first),
  )

  pub snf_iff : (k : ℕ) → Has (facts_at table n).snf k ↔ Snf node (node n) k
  snf_iff k = (
    (λ has. (facts.snf_is n k below (has_below 64 (fits _) has)).0 has),
    (λ snf. (facts.snf_is n k below (omega (arith, snf_below proper below snf))).1 snf),
  )
