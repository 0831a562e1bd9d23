-- A visit of one node: what is put into the table at the node is by the rules.
use Prim.Native.Nat.{ℕ, zero, suc, ◌+◌, ◌*◌, ◌/◌, ◌%◌, ◌≤◌, ◌<◌}
use mathlib.Core.Path.{◌≡◌, sym, ◌∙◌}
use mathlib.Core.Bool.{Bool, ◌||◌}
use mathlib.Core.List.{List}
use mathlib.Core.Logic.{⊎_elim}
use native.Mathlib.Nat.{add-zero}
use native.Mathlib.Omega.{arith}
use lib.ListN.{length, get_or}
use Rattle.kinds.specs.Kinds.{Has}
use Rattle.kinds.proofs.Laws.{none, has_single, has_join, has_shared}
use Rattle.book.specs.declared.Node.{Node}
use Rattle.book.specs.declared.Node.TheVariants.{Fail, Empty, Token, Either, Then, Tagged, Ref}
use Rattle.grammar.specs.Rules.{p_empty, p_token, p_left, p_right, p_then, p_tagged, p_ref, n_empty, n_left, n_right, n_then}
use Rattle.grammar.specs.Rules.{n_tagged, n_ref, f_token, f_left, f_right, f_hold, f_skip, f_tagged, f_ref, s_left, s_right}
use Rattle.grammar.specs.Rules.{s_first_left, s_first_right, s_then_left, s_then_right, s_tagged, s_ref}
use Rattle.rules.specs.declared.NodeFacts.{NodeFacts}
use Rattle.rules.specs.Growth.{masks, Sound, Joined, Grown}
use Rattle.rules.specs.Facts.{table_size, facts_at}
use Rattle.rules.specs.Step.{ruled_of, fact_of, Fact, FactAt, Given, Holds, PutAt}
use Rattle.rules.proofs.Growing.{grown_then, grown_by, joined-grown, joined_has, joined_other}

-- ---- four sets joined

-- the table has four facts at a node, one by one
holds_each : {facts : NodeFacts} {table : List ℕ} {n : ℕ} → ((k : ℕ) → Has facts.productive k → Has (get_or table (4 * n) 0) k)
    → ((k : ℕ) → Has facts.nullable k → Has (get_or table (4 * n + 1) 0) k)
    → ((k : ℕ) → Has facts.first k → Has (get_or table (4 * n + 2) 0) k)
    → ((k : ℕ) → Has facts.snf k → Has (get_or table (4 * n + 3) 0) k) → Holds facts table n
holds_each {facts} {table} {n} productive nullable first snf = record { holds = each }
  where
    each : (j k : ℕ) → j < 4 → Has (fact_of facts j) k → Has (get_or table (4 * n + j) 0) k
    each zero k l has = rw add-zero (productive k has)
    each (suc zero) k l has = nullable k has
    each (suc (suc zero)) k l has = first k has
    each (suc (suc (suc zero))) k l has = snf k has
    each (suc (suc (suc (suc more)))) k l has = absurd (omega arith)

module _ {table one two three four : List ℕ} {n : ℕ} {facts : NodeFacts} {c d e f : Bool} (inside : table_size (n + 1) ≤ length table)
    (productive : Joined table one (4 * n) facts.productive c) (nullable : Joined one two (4 * n + 1) facts.nullable d)
    (first : Joined two three (4 * n + 2) facts.first e) (snf : Joined three four (4 * n + 3) facts.snf f) where
  given : (j k : ℕ) → j < 4 → Has (fact_of facts j) k → Given n facts (4 * n + j) k
  given j k l has =
      let place : (4 * n + j) % 4 ≡ j = omega arith in
      record { own = omega arith; given = rw place has }

  grown_one : Grown masks (Given n facts) table one c
  grown_one = joined-grown (omega arith) productive (λ k has. rw add-zero at (given 0 k (omega arith) has))

  grown_two : Grown masks (Given n facts) one two d
  grown_two = joined-grown (omega (arith, grown_one.long)) nullable (λ k. given 1 k (omega arith))

  grown_three : Grown masks (Given n facts) two three e
  grown_three = joined-grown (omega (arith, grown_one.long, grown_two.long)) first (λ k. given 2 k (omega arith))

  grown-four : Grown masks (Given n facts) three four f
  grown-four = joined-grown (omega (arith, grown_one.long, grown_two.long, grown_three.long)) snf (λ k. given 3 k (omega arith))

  -- four facts joined at a node are put there
  pub facts_put : PutAt (Given n facts) facts n table four (c || d || e || f)
  facts_put = record {
    grown = grown_then (grown_then (grown_then grown_one grown_two) grown_three) grown-four;
    given = holds_each
        (λ k has. grown-four.keeps _ k (grown_three.keeps _ k (grown_two.keeps _ k (joined_has (omega arith) productive k has))))
        (λ k has. grown-four.keeps _ k (grown_three.keeps _ k (joined_has (omega (arith, grown_one.long)) nullable k has)))
        (λ k has. grown-four.keeps _ k (joined_has (omega (arith, grown_one.long, grown_two.long)) first k has))
        (λ k has. joined_has (omega (arith, grown_one.long, grown_two.long, grown_three.long)) snf k has);
    lower = record {
      same = λ i below.
          joined_other (omega (arith, grown_one.long, grown_two.long, grown_three.long)) snf i (λ same. omega arith)
          ∙ joined_other (omega (arith, grown_one.long, grown_two.long)) first i (λ same. omega arith)
          ∙ joined_other (omega (arith, grown_one.long)) nullable i (λ same. omega arith)
          ∙ joined_other (omega arith) productive i (λ same. omega arith);
    };
  }

-- ---- the rules

-- the sets are by the rules at a node
pub record SoundFacts (node : ℕ → Node) (at : Node) (facts : NodeFacts) : Type 0 where
  pub sound : (j k : ℕ) → Has (fact_of facts j) k → Fact node at j k

module _ {node : ℕ → Node} where
  -- a sound table has sound facts at every node
  pub table_sound : {table : List ℕ} (n : ℕ) → Sound masks (FactAt node) table → SoundFacts node (node n) (facts_at table n)
  table_sound {table} n sound = record { sound = each }
    where
      placed : (j k : ℕ) → j < 4 → Has (get_or table (4 * n + j) 0) k → Fact node (node n) j k
      placed j k l has =
          let place : (4 * n + j) % 4 ≡ j = omega arith in
          let own : (4 * n + j) / 4 ≡ n = omega arith in
          rw (place, own) at (sound.by (4 * n + j) k has).fact

      each : (j k : ℕ) → Has (fact_of (facts_at table n) j) k → Fact node (node n) j k
      each zero k has = placed 0 k (omega arith) (rw add-zero has)
      each (suc zero) k has = placed 1 k (omega arith) has
      each (suc (suc zero)) k has = placed 2 k (omega arith) has
      each (suc (suc (suc more))) k has = placed 3 k (omega arith) has

  -- what the rules give by sound facts is sound
  ruled_sound : (at : Node) {facts : ℕ → NodeFacts} → ((m : ℕ) → SoundFacts node (node m) (facts m)) → SoundFacts node at (ruled_of at facts)
  unfolding ruled_of
  ruled_sound at {facts} by = record { sound = each at }
    where
      each : (at : Node) (j k : ℕ) → Has (fact_of (ruled_of at facts) j) k → Fact node at j k
      each Fail zero k has = absurd (none has)
      each Fail (suc zero) k has = absurd (none has)
      each Fail (suc (suc zero)) k has = absurd (none has)
      each Fail (suc (suc (suc more))) k has = absurd (none has)
      each Empty zero k has = p_empty
      each Empty (suc zero) k has = n_empty
      each Empty (suc (suc zero)) k has = absurd (none has)
      each Empty (suc (suc (suc more))) k has = absurd (none has)
      each (Token kind) zero k has = p_token
      each (Token kind) (suc zero) k has = absurd (none has)
      each (Token kind) (suc (suc zero)) k has = rw ((has_single k kind).0 has) f_token
      each (Token kind) (suc (suc (suc more))) k has = absurd (none has)
      each (Either l r) zero k has = ⊎_elim (λ h. p_left ((by l).sound 0 k h)) (λ h. p_right ((by r).sound 0 k h)) ((has_join _ _ k).0 has)
      each (Either l r) (suc zero) k has = ⊎_elim (λ h. n_left ((by l).sound 1 k h)) (λ h. n_right ((by r).sound 1 k h)) ((has_join _ _ k).0 has)
      each (Either l r) (suc (suc zero)) k has = ⊎_elim (λ h. f_left ((by l).sound 2 k h)) (λ h. f_right ((by r).sound 2 k h)) ((has_join _ _ k).0 has)
      each (Either l r) (suc (suc (suc more))) k has =
          ⊎_elim
          (λ three.
          ⊎_elim
          (λ two. ⊎_elim (λ h. s_left ((by l).sound 3 k h)) (λ h. s_right ((by r).sound 3 k h)) ((has_join _ _ k).0 two))
          (λ h. let both = (has_shared _ _ k).0 h in s_first_left ((by l).sound 2 k both.0) ((by r).sound 1 k both.1))
          ((has_join _ _ k).0 three))
          (λ h. let both = (has_shared _ _ k).0 h in s_first_right ((by l).sound 1 k both.0) ((by r).sound 2 k both.1))
          ((has_join _ _ k).0 has)
      each (Then l r) zero k has = let both = (has_shared _ _ k).0 has in p_then ((by l).sound 0 k both.0) ((by r).sound 0 k both.1)
      each (Then l r) (suc zero) k has = let both = (has_shared _ _ k).0 has in n_then ((by l).sound 1 k both.0) ((by r).sound 1 k both.1)
      each (Then l r) (suc (suc zero)) k has =
          ⊎_elim
          (λ h. let both = (has_shared _ _ k).0 h in f_hold ((by l).sound 2 k both.0) ((by r).sound 0 k both.1))
          (λ h. let both = (has_shared _ _ k).0 h in f_skip ((by l).sound 1 k both.0) ((by r).sound 2 k both.1))
          ((has_join _ _ k).0 has)
      each (Then l r) (suc (suc (suc more))) k has =
          ⊎_elim
          (λ h. let both = (has_shared _ _ k).0 h in s_then_left ((by l).sound 3 k both.0) ((by r).sound 1 k both.1))
          (λ h. let both = (has_shared _ _ k).0 h in s_then_right ((by l).sound 0 k both.0) ((by r).sound 3 k both.1))
          ((has_join _ _ k).0 has)
      each (Tagged l t) zero k has = p_tagged ((by l).sound 0 k has)
      each (Tagged l t) (suc zero) k has = n_tagged ((by l).sound 1 k has)
      each (Tagged l t) (suc (suc zero)) k has = f_tagged ((by l).sound 2 k has)
      each (Tagged l t) (suc (suc (suc more))) k has = s_tagged ((by l).sound 3 k has)
      each (Ref l) zero k has = p_ref ((by l).sound 0 k has)
      each (Ref l) (suc zero) k has = n_ref ((by l).sound 1 k has)
      each (Ref l) (suc (suc zero)) k has = f_ref ((by l).sound 2 k has)
      each (Ref l) (suc (suc (suc more))) k has = s_ref ((by l).sound 3 k has)

  module _ {table after : List ℕ} {n : ℕ} {at : Node} {facts : NodeFacts} {changed : Bool} (sound : Sound masks (FactAt node) table) (is : at ≡ node n)
      (ruled : facts ≡ ruled_of at (facts_at table)) (put : PutAt (Given n facts) facts n table after changed) where
    -- what the rules give a node that was read has been put into a sound table by the rules
    pub rules_put : PutAt (FactAt node) (ruled_of (node n) (facts_at table)) n table after changed
    rules_put = record { grown = grown_by wider put.grown; given = rw (sym ruled_is) put.given; lower = put.lower }
      where
        ruled_is : facts ≡ ruled_of (node n) (facts_at table)
        ruled_is = cc

        wider : (i k : ℕ) → Given n facts i k → FactAt node i k
        wider i k given = record {
          fact = rw given.own ((ruled_sound (node n) (λ m. table_sound m sound)).sound (i % 4) k (rw ruled_is at given.given));
        }
