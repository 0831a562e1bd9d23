-- What clashes at a node is told by the facts of the node's left and right, and tells whether the node has a conflict.
use Prim.Native.Nat.{ℕ, ◌^◌, ◌≤◌, ◌<◌}
use mathlib.Core.Path.{◌≡◌, refl, sym, subst, subst₂}
use mathlib.Core.Bool.{Bool, true, false, not, ◌||◌, true≢false}
use mathlib.Core.List.{List}
use mathlib.Core.Logic.Iff
use mathlib.Core.Logic.{◌↔◌, ◌≢◌, inl, inr, ⊎_elim}
use native.Mathlib.Decide.{ℕ_discrete}
use native.Mathlib.Omega.{arith}
use borrow.Author.Tests.{eqb-true, eqb-false, not-true, not-false}
use lib.Dec.{eqb}
use lib.Bits.{and_le_l, or_lt}
use lib.ListN.{length}
use Rattle.kinds.specs.Kinds.{Has, has?, in_both, joined}
use Rattle.kinds.proofs.Laws.{none, has?_is, has_join, has_shared, lowest_is}
use Rattle.book.specs.Book.{WellFormed, Proper}
use Rattle.book.specs.Form.{book_of}
use Rattle.book.specs.declared.Node.{Node}
use Rattle.book.specs.declared.Node.TheVariants.{Fail, Empty, Token, Either, Then, Tagged, Ref}
use Rattle.grammar.specs.Rules.{Nullable, First, Snf, Conflict, c_nullable, c_first, c_follow}
use Rattle.rules.specs.declared.NodeFacts.{NodeFacts}
use Rattle.rules.specs.Facts.{flat, facts_at}
use Rattle.rules.proofs.Flat.{flat_length}
use Rattle.rules.specs.Step.{left_from, right_from}
use Rattle.rules.proofs.Reading.{left-inside, right_inside}
use Rattle.rules.proofs.Laws.{first_iff, snf_iff}
use Rattle.verdict.specs.declared.Clash.{Clash}
use Rattle.verdict.specs.Judges.{Clashing, in_both_first, in_snf_and_first, BothNullable, both_nullable, Told}
use Rattle.verdict.specs.Conflicts.{Known, clash_of, flag}
use Rattle.verdict.proofs.Books.{book_well_formed}

-- ---- what is told, and conflicts

-- a set of at most one kind that has a kind is the flag
flagged : {both k : ℕ} → both ≤ 1 → Has both k → both ≡ 1
flagged {both} {k} small has = go (ℕ_discrete both 0)
  where
    go : Dec (both ≡ 0) → both ≡ 1
    go (yes e) = absurd (none (subst (λ (m : ℕ). Has m k) e has))
    go (no f) = omega arith

module _ {node : ℕ → Node} where
  clashing_conflict : {at : Node} {k : ℕ} → Clashing node at k → Conflict node at
  clashing_conflict (in_both_first a b) = c_first a b
  clashing_conflict (in_snf_and_first a b) = c_follow a b

  nullable_conflict : {at : Node} → BothNullable node at → Conflict node at
  nullable_conflict (both_nullable a b) = c_nullable a b

  -- where something is told, there is a conflict
  pub told_conflict : {at : Node} {both clash : ℕ} → Told node at both clash → joined both clash ≢ 0 → Conflict node at
  told_conflict {at} {both} {clash} told some =
      ⊎_elim (λ h. nullable_conflict (told.flag_is.0 (flagged told.flag h))) (λ h. clashing_conflict ((told.clash_is _).0 h))
      ((has_join both clash _).0 ((lowest_is (or_lt 64 both clash (omega (arith, told.flag)) told.clash_fits)).found some))

  -- where nothing is, there is none
  pub told_clear : {at : Node} {both clash : ℕ} → Told node at both clash → joined both clash ≡ 0 → Conflict node at → ⊥
  told_clear {both = both} {clash = clash} told e (c_nullable a b) =
      let flag : both ≡ 1 = told.flag_is.1 (both_nullable a b) in
      none (rw e at ((has_join both clash 0).1 (inl (record { bit = omega (arith, flag) }))))
  told_clear {both = both} {clash = clash} told e (c_first {k = k} a b) =
      none (rw e at ((has_join both clash k).1 (inr ((told.clash_is k).1 (in_both_first a b)))))
  told_clear {both = both} {clash = clash} told e (c_follow {k = k} a b) =
      none (rw e at ((has_join both clash k).1 (inr ((told.clash_is k).1 (in_snf_and_first a b)))))

-- what clashes at a node, by what is told of it: something, where both sides are nullable or a kind clashes
module _ {node : ℕ → Node} {at : Node} where
  pub clashes_some : (both : Bool) {kinds : ℕ} → Told node at (flag both) kinds → (both || not (eqb kinds 0)) ≡ true → Conflict node at
  clashes_some true told some = nullable_conflict (told.flag_is.0 refl)
  clashes_some false {kinds} told some = clashing_conflict ((told.clash_is _).0 ((lowest_is told.clash_fits).found (eqb-false kinds 0 (not-true _ some))))

  pub clashes_none : (both : Bool) {kinds : ℕ} → Told node at (flag both) kinds → (both || not (eqb kinds 0)) ≡ false → Conflict node at → ⊥
  clashes_none true told nothing = absurd (true≢false nothing)
  clashes_none false {kinds} told nothing = told_clear told (rw (eqb-true kinds 0 (not-false _ nothing)) refl)

-- ---- what the facts tell

-- the facts are those of a node of the book
record FactsOf (node : ℕ → Node) (n : ℕ) (facts : NodeFacts) : Type 0 where
  first_fits : facts.first < 2 ^ 64
  snf_fits : facts.snf < 2 ^ 64
  nullable_is : Has facts.nullable 0 ↔ Nullable node (node n)
  first_is : (k : ℕ) → Has facts.first k ↔ First node (node n) k
  snf_is : (k : ℕ) → Has facts.snf k ↔ Snf node (node n) k

-- two sets share what both have
shared_is : {P Q : Type 0} (a b k : ℕ) → Has a k ↔ P → Has b k ↔ Q → Has (in_both a b) k ↔ (P × Q)
shared_is a b k p q = (
  (λ h. let each = (has_shared a b k).0 h in (p.0 each.0, q.0 each.1)),
  (λ h. (has_shared a b k).1 (p.1 h.0, q.1 h.1)),
)

-- the flag of a test, which is set where the test holds
pub flag_of : (test : Bool) → flag test ≤ 1
flag_of true = omega arith
flag_of false = omega arith

pub flag_set : (test : Bool) → (flag test ≡ 1) ↔ (test ≡ true)
flag_set true = ((λ _. refl), (λ _. refl))
flag_set false = ((λ e. absurd (omega (arith, e))), (λ e. absurd (true≢false (sym e))))

module _ {node : ℕ → Node} where
  -- nothing is told of a node that can have no conflict
  pub told_nothing : {at : Node} → (Conflict node at → ⊥) → Told node at 0 0
  told_nothing clear = record {
    clash_fits = omega arith;
    clash_is = λ k. ((λ h. absurd (none h)), (λ c. absurd (clear (clashing_conflict c))));
    flag = omega arith;
    flag_is = ((λ e. absurd (omega (arith, e))), (λ b. absurd (clear (nullable_conflict b))));
  }

  -- what is told of an either, and of a then, by what its sides share
  pub told_either : {l r both clash : ℕ} → clash < 2 ^ 64 → ((k : ℕ) → Has clash k ↔ (First node (node l) k × First node (node r) k))
      → both ≤ 1 → (both ≡ 1) ↔ (Nullable node (node l) × Nullable node (node r)) → Told node (Either l r) both clash
  told_either {l} {r} fits is small flag = record {
    clash_fits = fits;
    clash_is = λ k. Iff.trans (is k) ((λ h. in_both_first h.0 h.1), shared);
    flag = small;
    flag_is = Iff.trans flag ((λ h. both_nullable h.0 h.1), nullable);
  }
    where
      shared : {k : ℕ} → Clashing node (Either l r) k → First node (node l) k × First node (node r) k
      shared (in_both_first a b) = (a, b)

      nullable : BothNullable node (Either l r) → Nullable node (node l) × Nullable node (node r)
      nullable (both_nullable a b) = (a, b)

  pub told_then : {l r clash : ℕ} → clash < 2 ^ 64 → ((k : ℕ) → Has clash k ↔ (Snf node (node l) k × First node (node r) k))
      → Told node (Then l r) 0 clash
  told_then {l} {r} fits is = record {
    clash_fits = fits;
    clash_is = λ k. Iff.trans (is k) ((λ h. in_snf_and_first h.0 h.1), shared);
    flag = omega arith;
    flag_is = ((λ e. absurd (omega (arith, e))), elim [ ]);
  }
    where
      shared : {k : ℕ} → Clashing node (Then l r) k → Snf node (node l) k × First node (node r) k
      shared (in_snf_and_first a b) = (a, b)

module _ {node : ℕ → Node} {left right : NodeFacts} where
  -- what the facts of the left and the right tell is what is to be told of the node
  told_right : (own : ℕ) (at : Node) → FactsOf node (left_from own at) left → FactsOf node (right_from own at) right
      → Told node at (flag (clash_of at left right).both) (clash_of at left right).kinds
  unfolding clash_of
  told_right own Fail p q = told_nothing (elim [ ])
  told_right own Empty p q = told_nothing (elim [ ])
  told_right own (Token k) p q = told_nothing (elim [ ])
  told_right own (Either l r) p q =
      told_either (omega (arith, and_le_l left.first right.first, p.first_fits))
      (λ k. shared_is left.first right.first k (p.first_is k) (q.first_is k))
      (flag_of (has? (in_both left.nullable right.nullable) 0))
      (Iff.trans (flag_set (has? (in_both left.nullable right.nullable) 0))
      (Iff.trans (has?_is (in_both left.nullable right.nullable) 0) (shared_is left.nullable right.nullable 0 p.nullable_is q.nullable_is)))
  told_right own (Then l r) p q =
      told_then (omega (arith, and_le_l left.snf right.first, p.snf_fits))
      (λ k. shared_is left.snf right.first k (p.snf_is k) (q.first_is k))
  told_right own (Tagged l t) p q = told_nothing (elim [ ])
  told_right own (Ref l) p q = told_nothing (elim [ ])

module _ {bytes table : List ℕ} {count : ℕ} (known : Known bytes count table) where
  wf : WellFormed (book_of bytes)
  wf = book_well_formed known.good

  proper : (m : ℕ) → m < count → Proper (book_of bytes).kinds count m ((book_of bytes).node m)
  proper = rw known.good.count_is wf.proper

  -- a table that has a book's facts has those of each node
  facts_of : {n : ℕ} → n < count → FactsOf (book_of bytes).node n (facts_at table n)
  facts_of {n} below = record {
    first_fits = known.narrow _;
    snf_fits = known.narrow _;
    nullable_is = known.facts.nullable_is n 0 below (omega arith);
    first_is = first_iff known.facts known.narrow wf.few_kinds proper below;
    snf_is = snf_iff known.facts known.narrow wf.few_kinds proper below;
  }

  -- a node that was read
  module _ {n : ℕ} (below : n < count) {at : Node} (read : at ≡ (book_of bytes).node n) where
    pub left_in : left_from n at < count
    left_in = rw known.good.count_is (left-inside bytes known.good.form (rw known.good.count_is at below) read)

    pub right_in : right_from n at < count
    right_in = rw known.good.count_is (right_inside bytes known.good.form (rw known.good.count_is at below) read)

    -- what is told of it
    pub told_read : {l r : ℕ} {left right : NodeFacts} {clash : Clash} → l ≡ left_from n at
        → left ≡ facts_at table l → r ≡ right_from n at → right ≡ facts_at table r → clash ≡ clash_of at left right
        → Told (book_of bytes).node ((book_of bytes).node n) (flag clash.both) clash.kinds
    told_read l-is left_is r-is right_is clash_is =
        subst₂ (λ (x : Node) (c : Clash). Told (book_of bytes).node x (flag c.both) c.kinds) read (sym clash_is)
        (told_right n at (rw (left_is, l-is) (facts_of left_in)) (rw (right_is, r-is) (facts_of right_in)))

-- a table that has a book's facts has room for each node
pub node_room : (table : List NodeFacts) {bytes : List ℕ} {count n : ℕ} → Known bytes count (flat table) → n < count → n < length table
node_room table known below = omega (arith, below, known.long, flat_length table)
