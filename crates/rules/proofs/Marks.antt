-- The facts of a well-formed book's nodes are decided, for a kind: the four facts of all nodes are the least set that one step by the rules
-- keeps.
use Prim.Native.Nat.{ℕ, zero, suc, ◌+◌, ◌*◌, ◌/◌, ◌%◌, ◌<◌}
use native.Mathlib.Omega.{arith}
use borrow.Author.Tests.{eqb-true, eq-eqb}
use mathlib.Core.Path.{◌≡◌, refl}
use mathlib.Core.Bool.{Bool, true, false, ◌||◌, ◌&&◌}
use mathlib.Core.Logic.{◌↔◌, ⊎_elim}
use lib.Dec.{eqb}
use Rattle.words.proofs.Tests.{never, both, joined, or_cases, or_left, or_right}
use Rattle.book.specs.declared.Node.{Node}
use Rattle.book.specs.declared.Node.TheVariants.{Fail, Empty, Token, Either, Then, Tagged, Ref}
use Rattle.book.specs.Book.{Book, WellFormed}
use Rattle.grammar.specs.Rules.{Productive, p_empty, p_token, p_left, p_right, p_then, p_tagged, p_ref}
use Rattle.grammar.specs.Rules.{Nullable, n_empty, n_left, n_right, n_then, n_tagged, n_ref}
use Rattle.grammar.specs.Rules.{First, f_token, f_left, f_right, f_hold, f_skip, f_tagged, f_ref}
use Rattle.grammar.specs.Rules.{Snf, s_left, s_right, s_first_left, s_first_right, s_then_left, s_then_right, s_tagged, s_ref}
use Rattle.rules.specs.Step.{Fact, FactAt}
use Rattle.rules.proofs.Bounds.{named_below}
use Rattle.rules.proofs.Least.{Decided, Ruled, decided}

-- what is marked of a node: that it is productive, nullable, and that the kind is in FIRST and in SNF
pub record Four : Type 0 where
  pub productive : Bool
  pub nullable : Bool
  pub first : Bool
  pub snf : Bool

abbrev pub four : Bool → Bool → Bool → Bool → Four
four productive nullable first snf = record { productive = productive; nullable = nullable; first = first; snf = snf }

-- what the rules give a node by the marks of its left and right
unfoldable pub ruled : ℕ → (ℕ → Four) → Node → Four
ruled k t Fail = four false false false false
ruled k t Empty = four true true false false
ruled k t (Token j) = four true false (eqb j k) false
ruled k t (Either l r) =
    four ((t l).productive || (t r).productive) ((t l).nullable || (t r).nullable) ((t l).first || (t r).first)
    (((t l).snf || (t r).snf) || ((t l).first && (t r).nullable || (t l).nullable && (t r).first))
ruled k t (Then l r) =
    four ((t l).productive && (t r).productive) ((t l).nullable && (t r).nullable)
    ((t l).first && (t r).productive || (t l).nullable && (t r).first)
    ((t l).snf && (t r).nullable || (t l).productive && (t r).snf)
ruled k t (Tagged l a) = t l
ruled k t (Ref l) = t l

-- ---- sound

-- marks of a node are facts
record SoundMarks (node : ℕ → Node) (k : ℕ) (at : Node) (marks : Four) : Type 0 where
  productive : marks.productive ≡ true → Productive node at
  nullable : marks.nullable ≡ true → Nullable node at
  first : marks.first ≡ true → First node at k
  snf : marks.snf ≡ true → Snf node at k

module _ {node : ℕ → Node} {k : ℕ} {t : ℕ → Four} (sound : (n : ℕ) → SoundMarks node k (node n) (t n)) where
  ruled_sound : (at : Node) → SoundMarks node k at (ruled k t at)
  unfolding ruled
  ruled_sound Fail = record { productive = never; nullable = never; first = never; snf = never }
  ruled_sound Empty = record { productive = λ e. p_empty; nullable = λ e. n_empty; first = never; snf = never }
  ruled_sound (Token j) =
      record { productive = λ e. p_token; nullable = never; first = λ e. rw (eqb-true j k e) f_token; snf = never }
  ruled_sound (Either l r) =
      record {
        productive = λ e. ⊎_elim (λ h. p_left ((sound l).productive h)) (λ h. p_right ((sound r).productive h)) (or_cases _ _ e);
        nullable = λ e. ⊎_elim (λ h. n_left ((sound l).nullable h)) (λ h. n_right ((sound r).nullable h)) (or_cases _ _ e);
        first = λ e. ⊎_elim (λ h. f_left ((sound l).first h)) (λ h. f_right ((sound r).first h)) (or_cases _ _ e);
        snf =
            λ e.
            ⊎_elim (λ own. ⊎_elim (λ h. s_left ((sound l).snf h)) (λ h. s_right ((sound r).snf h)) (or_cases _ _ own))
            (λ met.
            ⊎_elim (λ h. let (a, b) = both _ _ h in s_first_left ((sound l).first a) ((sound r).nullable b))
            (λ h. let (a, b) = both _ _ h in s_first_right ((sound l).nullable a) ((sound r).first b))
            (or_cases _ _ met))
            (or_cases _ _ e);
      }
  ruled_sound (Then l r) =
      record {
        productive = λ e. let (a, b) = both _ _ e in p_then ((sound l).productive a) ((sound r).productive b);
        nullable = λ e. let (a, b) = both _ _ e in n_then ((sound l).nullable a) ((sound r).nullable b);
        first =
            λ e.
            ⊎_elim (λ h. let (a, b) = both _ _ h in f_hold ((sound l).first a) ((sound r).productive b))
            (λ h. let (a, b) = both _ _ h in f_skip ((sound l).nullable a) ((sound r).first b))
            (or_cases _ _ e);
        snf =
            λ e.
            ⊎_elim (λ h. let (a, b) = both _ _ h in s_then_left ((sound l).snf a) ((sound r).nullable b))
            (λ h. let (a, b) = both _ _ h in s_then_right ((sound l).productive a) ((sound r).snf b))
            (or_cases _ _ e);
      }
  ruled_sound (Tagged l a) =
      record {
        productive = λ e. p_tagged ((sound l).productive e);
        nullable = λ e. n_tagged ((sound l).nullable e);
        first = λ e. f_tagged ((sound l).first e);
        snf = λ e. s_tagged ((sound l).snf e);
      }
  ruled_sound (Ref l) =
      record {
        productive = λ e. p_ref ((sound l).productive e);
        nullable = λ e. n_ref ((sound l).nullable e);
        first = λ e. f_ref ((sound l).first e);
        snf = λ e. s_ref ((sound l).snf e);
      }

-- ---- complete

-- marks have what others have
record Keeps (given marks : Four) : Type 0 where
  productive : given.productive ≡ true → marks.productive ≡ true
  nullable : given.nullable ≡ true → marks.nullable ≡ true
  first : given.first ≡ true → marks.first ≡ true
  snf : given.snf ≡ true → marks.snf ≡ true

-- marks that have at every node what the rules give it have every fact
module _ (node : ℕ → Node) (k : ℕ) (t : ℕ → Four) (keeps : (n : ℕ) → Keeps (ruled k t (node n)) (t n)) where
  has_productive : {at : Node} → Productive node at → (ruled k t at).productive ≡ true
  unfolding ruled
  has_productive p_empty = refl
  has_productive p_token = refl
  has_productive (p_left d) = or_left _ _ ((keeps _).productive (has_productive d))
  has_productive (p_right {l = l} d) = or_right (t l).productive _ ((keeps _).productive (has_productive d))
  has_productive (p_then d e) = joined _ _ ((keeps _).productive (has_productive d)) ((keeps _).productive (has_productive e))
  has_productive (p_tagged d) = (keeps _).productive (has_productive d)
  has_productive (p_ref d) = (keeps _).productive (has_productive d)

  has_nullable : {at : Node} → Nullable node at → (ruled k t at).nullable ≡ true
  unfolding ruled
  has_nullable n_empty = refl
  has_nullable (n_left d) = or_left _ _ ((keeps _).nullable (has_nullable d))
  has_nullable (n_right {l = l} d) = or_right (t l).nullable _ ((keeps _).nullable (has_nullable d))
  has_nullable (n_then d e) = joined _ _ ((keeps _).nullable (has_nullable d)) ((keeps _).nullable (has_nullable e))
  has_nullable (n_tagged d) = (keeps _).nullable (has_nullable d)
  has_nullable (n_ref d) = (keeps _).nullable (has_nullable d)

  makes : (n : ℕ) → Productive node (node n) → (t n).productive ≡ true
  makes n d = (keeps n).productive (has_productive d)

  null : (n : ℕ) → Nullable node (node n) → (t n).nullable ≡ true
  null n d = (keeps n).nullable (has_nullable d)

  has_first : {at : Node} → First node at k → (ruled k t at).first ≡ true
  unfolding ruled
  has_first f_token = eq-eqb k k refl
  has_first (f_left d) = or_left _ _ ((keeps _).first (has_first d))
  has_first (f_right {l = l} d) = or_right (t l).first _ ((keeps _).first (has_first d))
  has_first (f_hold d e) = or_left _ _ (joined _ _ ((keeps _).first (has_first d)) (makes _ e))
  has_first (f_skip {l = l} {r = r} d e) =
      or_right ((t l).first && (t r).productive) _ (joined _ _ (null _ d) ((keeps _).first (has_first e)))
  has_first (f_tagged d) = (keeps _).first (has_first d)
  has_first (f_ref d) = (keeps _).first (has_first d)

  begins : (n : ℕ) → First node (node n) k → (t n).first ≡ true
  begins n d = (keeps n).first (has_first d)

  has_snf : {at : Node} → Snf node at k → (ruled k t at).snf ≡ true
  unfolding ruled
  has_snf (s_left d) = or_left _ _ (or_left _ _ ((keeps _).snf (has_snf d)))
  has_snf (s_right {l = l} d) = or_left _ _ (or_right (t l).snf _ ((keeps _).snf (has_snf d)))
  has_snf (s_first_left {l = l} {r = r} d e) =
      or_right ((t l).snf || (t r).snf) _ (or_left _ _ (joined _ _ (begins _ d) (null _ e)))
  has_snf (s_first_right {l = l} {r = r} d e) =
      or_right ((t l).snf || (t r).snf) _ (or_right ((t l).first && (t r).nullable) _ (joined _ _ (null _ d) (begins _ e)))
  has_snf (s_then_left d e) = or_left _ _ (joined _ _ ((keeps _).snf (has_snf d)) (null _ e))
  has_snf (s_then_right {l = l} {r = r} d e) =
      or_right ((t l).snf && (t r).nullable) _ (joined _ _ (makes _ d) ((keeps _).snf (has_snf e)))
  has_snf (s_tagged d) = (keeps _).snf (has_snf d)
  has_snf (s_ref d) = (keeps _).snf (has_snf d)

-- ---- all nodes at once

-- the four by number, as the facts are
abbrev pub mark_of : Four → ℕ → Bool
mark_of marks zero = marks.productive
mark_of marks (suc zero) = marks.nullable
mark_of marks (suc (suc zero)) = marks.first
mark_of marks (suc (suc (suc j))) = marks.snf

-- the marks of a node, four numbers a node
abbrev pub marks_at : (ℕ → Bool) → ℕ → Four
marks_at t n = four (t (4 * n + 0)) (t (4 * n + 1)) (t (4 * n + 2)) (t (4 * n + 3))

-- what the rules give, by marks, at a number
unfoldable pub given : (ℕ → Node) → ℕ → (ℕ → Bool) → ℕ → Bool
given node k t i = mark_of (ruled k (marks_at t) (node (i / 4))) (i % 4)

module _ (node : ℕ → Node) (k n j : ℕ) (small : j < 4) where
  own : (4 * n + j) / 4 ≡ n
  own = omega arith

  place : (4 * n + j) % 4 ≡ j
  place = omega arith

  pub fact_at : FactAt node (4 * n + j) k ↔ Fact node (node n) j k
  fact_at = ((λ f. rw (own, place) at f.fact), (λ f. record { fact = rw (own, place) f }))

  given_at : (t : ℕ → Bool) → mark_of (ruled k (marks_at t) (node n)) j ≡ true → given node k t (4 * n + j) ≡ true
  unfolding given
  given_at t e = rw (own, place) e

module _ (node : ℕ → Node) (k : ℕ) where
  sound_number : {at : Node} {marks : Four} → SoundMarks node k at marks → (j : ℕ) → mark_of marks j ≡ true → Fact node at j k
  sound_number s zero e = s.productive e
  sound_number s (suc zero) e = s.nullable e
  sound_number s (suc (suc zero)) e = s.first e
  sound_number s (suc (suc (suc j))) e = s.snf e

  fail_number : (t : ℕ → Four) (j : ℕ) → mark_of (ruled k t Fail) j ≡ true → ⊥
  unfolding ruled
  fail_number t zero e = never e
  fail_number t (suc zero) e = never e
  fail_number t (suc (suc zero)) e = never e
  fail_number t (suc (suc (suc j))) e = never e

  has_number : (t : ℕ → Four) → ((n : ℕ) → Keeps (ruled k t (node n)) (t n)) → (at : Node) (j : ℕ) → Fact node at j k
      → mark_of (ruled k t at) j ≡ true
  has_number t keeps at zero d = has_productive node k t keeps d
  has_number t keeps at (suc zero) d = has_nullable node k t keeps d
  has_number t keeps at (suc (suc zero)) d = has_first node k t keeps d
  has_number t keeps at (suc (suc (suc j))) d = has_snf node k t keeps d

  sound_at : (t : ℕ → Bool) → ((i : ℕ) → t i ≡ true → FactAt node i k) → (n : ℕ) → SoundMarks node k (node n) (marks_at t n)
  sound_at t sound n =
      record {
        productive = λ e. (fact_at node k n 0 (omega arith)).0 (sound _ e);
        nullable = λ e. (fact_at node k n 1 (omega arith)).0 (sound _ e);
        first = λ e. (fact_at node k n 2 (omega arith)).0 (sound _ e);
        snf = λ e. (fact_at node k n 3 (omega arith)).0 (sound _ e);
      }

  keeps_at : (t : ℕ → Bool) → ((i : ℕ) → given node k t i ≡ true → t i ≡ true) → (n : ℕ) → Keeps (ruled k (marks_at t) (node n)) (marks_at t n)
  keeps_at t closed n =
      record {
        productive = λ e. closed _ (given_at node k n 0 (omega arith) t e);
        nullable = λ e. closed _ (given_at node k n 1 (omega arith) t e);
        first = λ e. closed _ (given_at node k n 2 (omega arith) t e);
        snf = λ e. closed _ (given_at node k n 3 (omega arith) t e);
      }

module _ (book : Book) (wf : WellFormed book) (k : ℕ) where
  pub facts_ruled : Ruled (λ i. FactAt book.node i k) (4 * book.count) (given book.node k)
  unfolding given
  facts_ruled =
      record {
        sound = λ t sound i e. record { fact = sound_number book.node k (ruled_sound (sound_at book.node k t sound) (book.node (i / 4))) (i % 4) e };
        within =
            λ t i e.
            let below = named_below book wf (λ x. mark_of (ruled k (marks_at t) x) (i % 4) ≡ true) (fail_number book.node k (marks_at t) (i % 4)) (i / 4) e in
            omega arith;
        complete =
            λ t closed i d. closed i (has_number book.node k (marks_at t) (keeps_at book.node k t closed) (book.node (i / 4)) (i % 4) d.fact);
      }

  -- the facts of all nodes
  unfoldable pub facts_decided : Decided (λ i. FactAt book.node i k)
  facts_decided = decided facts_ruled

  unfoldable pub fact_decided : (j : ℕ) → j < 4 → Decided (λ n. Fact book.node (book.node n) j k)
  fact_decided j small =
      record {
        test = λ n. facts_decided.test (4 * n + j);
        test_is =
            λ n. (
              (λ e. (fact_at book.node k n j small).0 ((facts_decided.test_is (4 * n + j)).0 e)),
              (λ d. (facts_decided.test_is (4 * n + j)).1 ((fact_at book.node k n j small).1 d)),
            );
      }

-- each of the four facts is decided
module _ (book : Book) (wf : WellFormed book) where
  unfoldable pub productive_decided : Decided (λ n. Productive book.node (book.node n))
  productive_decided = fact_decided book wf 0 0 (omega arith)

  unfoldable pub nullable_decided : Decided (λ n. Nullable book.node (book.node n))
  nullable_decided = fact_decided book wf 0 1 (omega arith)

  unfoldable pub first_decided : (k : ℕ) → Decided (λ n. First book.node (book.node n) k)
  first_decided k = fact_decided book wf k 2 (omega arith)

  unfoldable pub snf_decided : (k : ℕ) → Decided (λ n. Snf book.node (book.node n) k)
  snf_decided k = fact_decided book wf k 3 (omega arith)
