-- Visits upward and visits of refs: all nodes but refs have lower sides, so that a table visited upward has what the rules give them, and
-- once refs change nothing, it has all facts.
use Prim.Native.Nat.{ℕ, ◌+◌, ◌*◌, ◌≤◌, ◌<◌}
use mathlib.Core.Path.{◌≡◌, refl, sym, ap₂, subst}
use mathlib.Core.Bool.{Bool, true, false, ◌||◌, true≢false, false≢true}
use mathlib.Core.List.{List}
use mathlib.Core.Logic.{◌≢◌}
use native.Mathlib.Decide.{ℕ_discrete}
use native.Mathlib.Omega.{arith}
use Rattle.book.specs.Book.{Proper, fail_is, empty_is, token_is, either_is, then_is, tagged_is, ref_is}
use Rattle.book.specs.declared.Node.{Node}
use Rattle.book.specs.declared.Node.TheVariants.{Fail, Empty, Token, Either, Then, Tagged, Ref}
use Rattle.rules.specs.declared.NodeFacts.{NodeFacts}
use Rattle.rules.specs.Facts.{facts_at, Facts}
use Rattle.rules.specs.Growth.{masks, Sound, Visited, Turned}
use Rattle.rules.specs.Step.{either_facts, then_facts, ruled_of, is_ref, FactAt, Given, Holds, SameBelow, PutAt}
use Rattle.rules.specs.Step.{RuleClosed, RefClosed, Climbed}
use Rattle.rules.proofs.Growing.{grown_none, grown_then}
use Rattle.rules.proofs.Steps.{rules_put}
use Rattle.rules.proofs.Complete.{facts_are}

-- ---- tables that are the same at lower nodes

module _ {before after : List ℕ} {n : ℕ} (lower : SameBelow n before after) where
  same_facts : {l : ℕ} → l < n → facts_at after l ≡ facts_at before l
  same_facts {l} below =
      rw (
        lower.same (4 * l) (omega arith),
        lower.same (4 * l + 1) (omega arith),
        lower.same (4 * l + 2) (omega arith),
        lower.same (4 * l + 3) (omega arith),
      ) refl

  -- the rules give the same to a node that is not a ref
  ruled-same : {kinds count : ℕ} {at : Node} → Proper kinds count n at → is_ref at ≡ false
      → ruled_of at (facts_at after) ≡ ruled_of at (facts_at before)
  unfolding ruled_of
  ruled-same fail_is other = refl
  ruled-same empty_is other = refl
  ruled-same (token_is k) other = refl
  ruled-same (either_is l r) other = ap₂ either_facts (same_facts l) (same_facts r)
  ruled-same (then_is l r) other = ap₂ then_facts (same_facts l) (same_facts r)
  ruled-same (tagged_is l t) other = same_facts l
  ruled-same (ref_is l) other = absurd (true≢false other)

  -- and lower nodes have the same
  holds_same : {facts : NodeFacts} {m : ℕ} → m < n → Holds facts before m → Holds facts after m
  holds_same {facts} {m} below h = record { holds = λ j k small has. rw (lower.same (4 * m + j) (omega arith)) (h.holds j k small has) }

-- ---- visits upward

module _ {node : ℕ → Node} where
  pub climbed_none : (table : List ℕ) → Climbed node 0 table table false
  climbed_none table = record { grown = grown_none table; closed = λ n below. absurd (omega arith) }

  pub climbed_more : {kinds count i : ℕ} {before between after : List ℕ} {c d : Bool} → ((n : ℕ) → n < count → Proper kinds count n (node n))
      → i < count → Climbed node i before between c → PutAt (FactAt node) (ruled_of (node i) (facts_at between)) i between after d
      → Climbed node (i + 1) before after (c || d)
  climbed_more {kinds} {count} {i} {before} {between} {after} proper inside climbed put = record {
    grown = grown_then climbed.grown put.grown;
    closed = λ n below other. closed n below other (ℕ_discrete n i);
  }
    where
      closed : (n : ℕ) → n < i + 1 → is_ref (node n) ≡ false → Dec (n ≡ i) → RuleClosed node after n
      closed n below other (yes e) =
          subst (RuleClosed node after) (sym e) (rw (ruled-same put.lower (proper i inside) (rw e at other)) put.given)
      closed n below other (no f) =
          let lower : SameBelow n between after = record { same = λ j l. put.lower.same j (omega arith) } in
          rw (ruled-same lower (proper n (omega arith)) other) (holds_same put.lower (omega arith) (climbed.closed n (omega arith) other))

  pub climbed_end : {count i : ℕ} {before after : List ℕ} {c : Bool} → count ≤ i → Climbed node i before after c → Climbed node count before after c
  climbed_end {count} {i} end climbed = record { grown = climbed.grown; closed = λ n below. climbed.closed n (omega arith) }

-- ---- visits of refs

module _ {node : ℕ → Node} where
  -- the facts of its left put at a ref are a visit of it
  pub ref_visited : {n l : ℕ} {facts : NodeFacts} {before after : List ℕ} {changed : Bool} → Sound masks (FactAt node) before
      → Ref l ≡ node n → facts ≡ facts_at before l → PutAt (Given n facts) facts n before after changed
      → Visited masks (FactAt node) (RefClosed node) n before after changed
  unfolding ruled_of
  ref_visited {n} {l} {facts} {before} {after} {changed} sound is facts_are put = record {
    grown = ruled-put.grown;
    closed = λ unchanged. record {
      closed = λ same. subst (λ (table : List ℕ). Holds (ruled_of (node n) (facts_at before)) table n) (put.grown.still unchanged) ruled-put.given;
    };
  }
    where
      ruled-put : PutAt (FactAt node) (ruled_of (node n) (facts_at before)) n before after changed
      ruled-put = rules_put sound is facts_are put

  -- a node that is not a ref is passed over
  pub other_closed : {n : ℕ} (table : List ℕ) (at : Node) → at ≡ node n → ((l : ℕ) → at ≢ Ref l) → RefClosed node table n
  other_closed {n} table at is other = record { closed = λ ref. absurd (none at (rw is ref) other) }
    where
      none : (at : Node) → is_ref at ≡ true → ((l : ℕ) → at ≢ Ref l) → ⊥
      none Fail ref other = false≢true ref
      none Empty ref other = false≢true ref
      none (Token k) ref other = false≢true ref
      none (Either l r) ref other = false≢true ref
      none (Then l r) ref other = false≢true ref
      none (Tagged l t) ref other = false≢true ref
      none (Ref l) ref other = other l refl

  -- a sound table that has what the rules give all nodes but refs, and in which visits of refs changed nothing, has the facts
  pub refs_facts : {kinds count : ℕ} {before after : List ℕ} {changed : Bool} → ((n : ℕ) → n < count → Proper kinds count n (node n))
      → Sound masks (FactAt node) before → ((n : ℕ) → n < count → is_ref (node n) ≡ false → RuleClosed node before n)
      → Turned masks (FactAt node) (RefClosed node) count before after changed → changed ≡ false → Facts node count after
  refs_facts {count = count} {before = before} proper sound others refs unchanged =
      rw (refs.grown.still unchanged) (facts_are proper (λ n below. closed n below (is_ref (node n)) refl) sound)
    where
      closed : (n : ℕ) → n < count → (ref : Bool) → is_ref (node n) ≡ ref → RuleClosed node before n
      closed n below true is = (refs.closed unchanged n below).closed is
      closed n below false is = others n below is
