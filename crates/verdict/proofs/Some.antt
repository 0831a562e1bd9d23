-- Judging has an answer, for all bytes, and it computes.
use Prim.Native.Nat.{ℕ, zero, suc, ◌^◌, ◌<◌}
use native.Mathlib.Omega.{arith}
use native.Mathlib.Nat.{lt_of_lt_of_le}
use native.Mathlib.Decide.{ℕ_discrete}
use mathlib.Core.Path.{◌≡◌, refl}
use mathlib.Core.Bool.{Bool, true, false, ◌&&◌}
use mathlib.Core.List.{List}
use mathlib.Core.Logic.Iff
use mathlib.Core.Logic.{◌↔◌, ◌⊎◌, inl, inr, ⊎_elim}
use lib.Bits.{bit_or}
use lib.Pow.{pow_mono}
use Rattle.words.proofs.Tests.{never, both, joined}
use Rattle.kinds.specs.Kinds.{Has, set_of}
use Rattle.kinds.proofs.Laws.{set_small, has_set}
use Rattle.book.specs.declared.Node.{Node}
use Rattle.book.specs.declared.Node.TheVariants.{Fail, Empty, Token, Either, Then, Tagged, Ref}
use Rattle.book.specs.Book.{Book, WellFormed}
use Rattle.book.specs.Form.{DONE, form_of, book_of}
use Rattle.book.proofs.Decoded.{formed, well_formed}
use Rattle.grammar.specs.Rules.{First, Conflict, Reach}
use Rattle.grammar.specs.Passing.{AllReached, Fruitful}
use Rattle.rules.proofs.Bounds.{first_kind, conflict_below}
use Rattle.rules.proofs.Least.{Decided}
use Rattle.rules.proofs.Marks.{productive_decided, nullable_decided, first_decided, snf_decided}
use Rattle.rules.proofs.Reaching.{reach_decided}
use Rattle.verdict.specs.declared.Verdict.{Verdict}
use Rattle.verdict.specs.Judges.{Told, Judges, malformed, unused, barren, conflict, passes}
use Rattle.verdict.specs.Conflicts.{flag}
use Rattle.verdict.proofs.Clashes.{flag_of, flag_set, told_nothing, told_either, told_then, told_conflict, told_clear}

unfoldable pub decide : {Of : ℕ → Type 0} → Decided Of → (i : ℕ) → Dec (Of i)
decide {Of} d i = at (d.test i) (d.test_is i)
  where
    at : (b : Bool) → (b ≡ true) ↔ Of i → Dec (Of i)
    at true is = yes (is.0 refl)
    at false is = no (λ h. never (is.1 h))

-- something does not hold, or does
unfoldable pub other_way : {A : Type 0} → Dec A → (A → ⊥) ⊎ A
other_way (yes a) = inr a
other_way (no f) = inl f

-- the lowest number below a count at which something is found, where all below it are passed, or that there is none
unfoldable pub search : {Of Not : ℕ → Type 0} → ((n : ℕ) → Of n ⊎ Not n) → (count : ℕ)
    → ((n : ℕ) × (n < count) × Of n × ((m : ℕ) → m < n → Not m)) ⊎ ((m : ℕ) → m < count → Not m)
search {Of} {Not} d zero = inr (λ m below. absurd (omega arith))
search {Of} {Not} d (suc count) =
    ⊎_elim (λ found. inl (found.0, omega (arith, found.1), found.2, found.3)) (λ none. at none (d count)) (search d count)
  where
    at : ((m : ℕ) → m < count → Not m) → Of count ⊎ Not count
        → ((n : ℕ) × (n < suc count) × Of n × ((m : ℕ) → m < n → Not m)) ⊎ ((m : ℕ) → m < suc count → Not m)
    at none (inl here) = inl (count, omega arith, here, none)
    at none (inr not) = inr (λ m below. last m below (ℕ_discrete m count))
      where
        last : (m : ℕ) → m < suc count → Dec (m ≡ count) → Not m
        last m below (yes e) = rw e not
        last m below (no other) = none m (omega arith)

-- two facts that are tested are tested together
both_tested : {a b : Bool} {P Q : Type 0} → (a ≡ true) ↔ P → (b ≡ true) ↔ Q → (a && b ≡ true) ↔ (P × Q)
both_tested {a} {b} p q = ((λ e. let t = both a b e in (p.0 t.0, q.0 t.1)), (λ h. joined a b (p.1 h.0) (q.1 h.1)))

module _ (book : Book) (wf : WellFormed book) where
  -- the set of the kinds that are in a set that is tested and in FIRST of a node
  unfoldable pub shared : (ℕ → Bool) → ℕ → ℕ
  shared test n = set_of (λ k. test k && (first_decided book wf k).test n) book.kinds

  shared_small : (test : ℕ → Bool) (n : ℕ) → shared test n < 2 ^ 64
  unfolding shared
  shared_small test n = lt_of_lt_of_le (set_small _ book.kinds) (pow_mono wf.few_kinds)

  shared_has : {P : ℕ → Type 0} (test : ℕ → Bool) → ((k : ℕ) → (test k ≡ true) ↔ P k) → (n k : ℕ)
      → Has (shared test n) k ↔ (P k × First book.node (book.node n) k)
  unfolding shared
  shared_has {P} test is n k = (
    (λ h. tested.0 ((has_set _ book.kinds k).0 h).1),
    (λ h. (has_set _ book.kinds k).1 (first_kind book wf n h.1, tested.1 h)),
  )
    where
      tested : (test k && (first_decided book wf k).test n ≡ true) ↔ (P k × First book.node (book.node n) k)
      tested = both_tested (is k) ((first_decided book wf k).test_is n)

  -- what is told of a node: the flag and the set
  unfoldable pub tells : Node → ℕ × ℕ
  tells Fail = (0, 0)
  tells Empty = (0, 0)
  tells (Token k) = (0, 0)
  tells (Either l r) =
      (flag ((nullable_decided book wf).test l && (nullable_decided book wf).test r), shared (λ k. (first_decided book wf k).test l) r)
  tells (Then l r) = (0, shared (λ k. (snf_decided book wf k).test l) r)
  tells (Tagged l t) = (0, 0)
  tells (Ref l) = (0, 0)

  pub tells_right : (x : Node) → Told book.node x (tells x).0 (tells x).1
  unfolding tells
  tells_right Fail = told_nothing (elim [ ])
  tells_right Empty = told_nothing (elim [ ])
  tells_right (Token k) = told_nothing (elim [ ])
  tells_right (Either l r) =
      told_either (shared_small _ r) (shared_has _ (λ k. (first_decided book wf k).test_is l) r) (flag_of _)
      (Iff.trans (flag_set _) (both_tested ((nullable_decided book wf).test_is l) ((nullable_decided book wf).test_is r)))
  tells_right (Then l r) = told_then (shared_small _ r) (shared_has _ (λ k. (snf_decided book wf k).test_is l) r)
  tells_right (Tagged l t) = told_nothing (elim [ ])
  tells_right (Ref l) = told_nothing (elim [ ])

  -- a node has a conflict, or none
  unfoldable pub conflict? : (n : ℕ) → Conflict book.node (book.node n) ⊎ (Conflict book.node (book.node n) → ⊥)
  conflict? n = at (ℕ_discrete (bit_or (tells (book.node n)).0 (tells (book.node n)).1) 0)
    where
      at : Dec (bit_or (tells (book.node n)).0 (tells (book.node n)).1 ≡ 0)
          → Conflict book.node (book.node n) ⊎ (Conflict book.node (book.node n) → ⊥)
      at (yes e) = inr (told_clear (tells_right (book.node n)) e)
      at (no f) = inl (told_conflict (tells_right (book.node n)) f)

  -- a node is not reachable from the start, or is
  unfoldable pub unreached? : (n : ℕ) → (Reach book.node book.start n → ⊥) ⊎ Reach book.node book.start n
  unreached? n = other_way (decide (reach_decided book wf) n)

module _ (bytes : List ℕ) where
  -- a verdict that judging may come to
  abbrev pub Judgement : Type 0
  Judgement = (v : Verdict) × Judges bytes v

  module _ (good : (form_of bytes).number ≡ DONE) where
    pub wf : WellFormed (book_of bytes)
    wf = well_formed (formed bytes good)

    module _ (reached : AllReached (book_of bytes)) where
      unfoldable pub judged_fruitful : Fruitful (book_of bytes) → Judgement
      judged_fruitful fruitful =
          ⊎_elim (λ found. (_, conflict good reached fruitful found.3 found.2 (tells_right (book_of bytes) wf ((book_of bytes).node found.0))))
          (λ none. (_, passes good reached fruitful (λ m c. none m (conflict_below (book_of bytes) wf m c) c)))
          (search (conflict? (book_of bytes) wf) (book_of bytes).count)

      unfoldable pub judged_start : Dec (Fruitful (book_of bytes)) → Judgement
      judged_start (no bare) = (_, barren good reached bare)
      judged_start (yes fruitful) = judged_fruitful fruitful

    unfoldable pub judged_good : Judgement
    judged_good =
        ⊎_elim (λ found. (_, unused good found.1 found.3 found.2))
        (λ reached. judged_start reached (decide (productive_decided (book_of bytes) wf) (book_of bytes).start))
        (search (unreached? (book_of bytes) wf) (book_of bytes).count)

  unfoldable pub judged_form : Dec ((form_of bytes).number ≡ DONE) → Judgement
  judged_form (no bad) = (_, malformed bad)
  judged_form (yes good) = judged_good good

  -- judging has an answer
  unfoldable pub judges_some : (v : Verdict) × Judges bytes v
  judges_some = judged_form (ℕ_discrete (form_of bytes).number DONE)
