-- Where a table is closed under the rules at every node, it has every fact that they give; where it is sound too, it has those alone.
use Prim.Native.Nat.{ℕ, ◌+◌, ◌*◌, ◌<◌}
use mathlib.Core.Path.{refl}
use mathlib.Core.List.{List}
use mathlib.Core.Logic.{inl, inr}
use native.Mathlib.Nat.{add-zero}
use native.Mathlib.Omega.{arith}
use lib.ListN.{get_or}
use Rattle.kinds.specs.Kinds.{Has, joined, in_both}
use Rattle.kinds.proofs.Laws.{all, has_single, has_join, has_shared}
use Rattle.book.specs.Book.{Proper}
use Rattle.book.specs.declared.Node.{Node}
use Rattle.grammar.specs.Rules.{Productive, Nullable, First, Snf, p_empty, p_token, p_left, p_right, p_then, p_tagged, p_ref}
use Rattle.grammar.specs.Rules.{n_empty, n_left, n_right, n_then, n_tagged, n_ref, f_token, f_left, f_right, f_hold, f_skip}
use Rattle.grammar.specs.Rules.{f_tagged, f_ref, s_left, s_right, s_first_left, s_first_right, s_then_left, s_then_right}
use Rattle.grammar.specs.Rules.{s_tagged, s_ref}
use Rattle.rules.specs.Facts.{facts_at, Facts}
use Rattle.rules.specs.Growth.{masks, Sound}
use Rattle.rules.specs.Step.{left_from, right_from, ruled_of, FactAt, Holds, RuleClosed}
use Rattle.rules.proofs.Reading.{left_below, right_below}
use Rattle.rules.proofs.Steps.{table_sound}

module _ {node : ℕ → Node} {kinds count : ℕ} (proper : (n : ℕ) → n < count → Proper kinds count n (node n)) {table : List ℕ}
    (closed : (n : ℕ) → n < count → RuleClosed node table n) where
  -- what a node of the book is known by: its place among the nodes, that it is proper, and that the table has what the rules give it
  record Node-at (at : Node) (n : ℕ) : Type 0 where
    below : n < count
    proper_is : Proper kinds count n at
    given : Holds (ruled_of at (facts_at table)) table n

  here : (n : ℕ) → n < count → Node-at (node n) n
  here n below = record { below = below; proper_is = proper n below; given = closed n below }

  left : {at : Node} {n : ℕ} → Node-at at n → Node-at (node (left_from n at)) (left_from n at)
  left known = here _ (left_below known.below known.proper_is)

  right : {at : Node} {n : ℕ} → Node-at at n → Node-at (node (right_from n at)) (right_from n at)
  right known = here _ (right_below known.below known.proper_is)

  -- the table has at a node what the rules give it
  module _ {at : Node} {n : ℕ} (known : Node-at at n) (k : ℕ) where
    give_productive : Has (ruled_of at (facts_at table)).productive k → Has (get_or table (4 * n) 0) k
    give_productive has = rw add-zero at (known.given.holds 0 k (omega arith) has)

    give_nullable : Has (ruled_of at (facts_at table)).nullable k → Has (get_or table (4 * n + 1) 0) k
    give_nullable has = known.given.holds 1 k (omega arith) has

    give_first : Has (ruled_of at (facts_at table)).first k → Has (get_or table (4 * n + 2) 0) k
    give_first has = known.given.holds 2 k (omega arith) has

    give_snf : Has (ruled_of at (facts_at table)).snf k → Has (get_or table (4 * n + 3) 0) k
    give_snf has = known.given.holds 3 k (omega arith) has

  module _ (k : ℕ) (small : k < 64) where
    has_productive : {at : Node} {n : ℕ} → Node-at at n → Productive node at → Has (get_or table (4 * n) 0) k
    unfolding ruled_of
    has_productive known p_empty = give_productive known k (all.1 small)
    has_productive known p_token = give_productive known k (all.1 small)
    has_productive known (p_left d) = give_productive known k ((has_join _ _ k).1 (inl (has_productive (left known) d)))
    has_productive known (p_right {l = l} d) =
        give_productive known k ((has_join (facts_at table l).productive _ k).1 (inr (has_productive (right known) d)))
    has_productive known (p_then d e) =
        give_productive known k ((has_shared _ _ k).1 (has_productive (left known) d, has_productive (right known) e))
    has_productive known (p_tagged d) = give_productive known k (has_productive (left known) d)
    has_productive known (p_ref d) = give_productive known k (has_productive (left known) d)

    has_nullable : {at : Node} {n : ℕ} → Node-at at n → Nullable node at → Has (get_or table (4 * n + 1) 0) k
    unfolding ruled_of
    has_nullable known n_empty = give_nullable known k (all.1 small)
    has_nullable known (n_left d) = give_nullable known k ((has_join _ _ k).1 (inl (has_nullable (left known) d)))
    has_nullable known (n_right {l = l} d) =
        give_nullable known k ((has_join (facts_at table l).nullable _ k).1 (inr (has_nullable (right known) d)))
    has_nullable known (n_then d e) =
        give_nullable known k ((has_shared _ _ k).1 (has_nullable (left known) d, has_nullable (right known) e))
    has_nullable known (n_tagged d) = give_nullable known k (has_nullable (left known) d)
    has_nullable known (n_ref d) = give_nullable known k (has_nullable (left known) d)

  has_first : {at : Node} {n k : ℕ} → k < 64 → Node-at at n → First node at k → Has (get_or table (4 * n + 2) 0) k
  unfolding ruled_of
  has_first {k = k} small known f_token = give_first known k ((has_single k k).1 refl)
  has_first {k = k} small known (f_left d) = give_first known k ((has_join _ _ k).1 (inl (has_first small (left known) d)))
  has_first {k = k} small known (f_right {l = l} d) =
      give_first known k ((has_join (facts_at table l).first _ k).1 (inr (has_first small (right known) d)))
  has_first {k = k} small known (f_hold {l = l} {r = r} d e) =
      give_first known k
      ((has_join _ _ k).1 (inl ((has_shared _ _ k).1 (has_first small (left known) d, has_productive k small (right known) e))))
  has_first {k = k} small known (f_skip {l = l} {r = r} d e) =
      give_first known k
      ((has_join (in_both (facts_at table l).first (facts_at table r).productive) _ k).1
      (inr ((has_shared _ _ k).1 (has_nullable k small (left known) d, has_first small (right known) e))))
  has_first {k = k} small known (f_tagged d) = give_first known k (has_first small (left known) d)
  has_first {k = k} small known (f_ref d) = give_first known k (has_first small (left known) d)

  has_snf : {at : Node} {n k : ℕ} → k < 64 → Node-at at n → Snf node at k → Has (get_or table (4 * n + 3) 0) k
  unfolding ruled_of
  has_snf {k = k} small known (s_left d) =
      give_snf known k ((has_join _ _ k).1 (inl ((has_join _ _ k).1 (inl ((has_join _ _ k).1 (inl (has_snf small (left known) d)))))))
  has_snf {k = k} small known (s_right {l = l} d) =
      give_snf known k
      ((has_join _ _ k).1 (inl ((has_join _ _ k).1 (inl ((has_join (facts_at table l).snf _ k).1 (inr (has_snf small (right known) d)))))))
  has_snf {k = k} small known (s_first_left {l = l} {r = r} d e) =
      give_snf known k
      ((has_join _ _ k).1 (inl ((has_join (joined (facts_at table l).snf (facts_at table r).snf) _ k).1
      (inr ((has_shared _ _ k).1 (has_first small (left known) d, has_nullable k small (right known) e))))))
  has_snf {k = k} small known (s_first_right {l = l} {r = r} d e) =
      give_snf known k
      ((has_join
      (joined (joined (facts_at table l).snf (facts_at table r).snf) (in_both (facts_at table l).first (facts_at table r).nullable))
      _ k).1
      (inr ((has_shared _ _ k).1 (has_nullable k small (left known) d, has_first small (right known) e))))
  has_snf {k = k} small known (s_then_left d e) =
      give_snf known k ((has_join _ _ k).1 (inl ((has_shared _ _ k).1 (has_snf small (left known) d, has_nullable k small (right known) e))))
  has_snf {k = k} small known (s_then_right {l = l} {r = r} d e) =
      give_snf known k
      ((has_join (in_both (facts_at table l).snf (facts_at table r).nullable) _ k).1
      (inr ((has_shared _ _ k).1 (has_productive k small (left known) d, has_snf small (right known) e))))
  has_snf {k = k} small known (s_tagged d) = give_snf known k (has_snf small (left known) d)
  has_snf {k = k} small known (s_ref d) = give_snf known k (has_snf small (left known) d)

  -- a sound table that is closed under the rules has the facts
  pub facts_are : Sound masks (FactAt node) table → Facts node count table
  facts_are sound = record {
    productive_is = λ n k below small. ((table_sound n sound).sound 0 k, has_productive k small (here n below));
    nullable_is = λ n k below small. ((table_sound n sound).sound 1 k, has_nullable k small (here n below));
    first_is = λ n k below small. ((table_sound n sound).sound 2 k, has_first small (here n below));
    snf_is = λ n k below small. ((table_sound n sound).sound 3 k, has_snf small (here n below));
  }
