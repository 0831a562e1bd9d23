-- A table of facts tells what each node can do.
use Prim.Native.Nat.{ℕ, ◌+◌, ◌*◌, ◌<◌, ◌^◌}
use native.Mathlib.Omega.{arith}
use mathlib.Core.Path.{◌≡◌, refl, subst}
use mathlib.Core.Bool.{true, false, not}
use mathlib.Core.List.{List}
use lib.Dec.{ltb, eqb}
use lib.ListN.{get_or}
use borrow.Author.Tests.{ltb-true, lt-ltb, eqb-false, ne_eqb, not-true}
use Rattle.words.proofs.Tests.{both, joined}
use Rattle.kinds.specs.Kinds.{Has, has?, lowest_kind}
use Rattle.kinds.proofs.Laws.{has?_is, has_below, lowest_is, none}
use Rattle.book.specs.Book.{Book, WellFormed}
use Rattle.grammar.specs.Rules.{First, Nullable}
use Rattle.rules.specs.Facts.{Facts, facts_at}
use Rattle.rules.proofs.Bounds.{named_below, first_kind}
use Rattle.trees.specs.Machine.{PowersOf}
use Rattle.due.specs.Due.{powers_in}

module _ (b : Book) (wf : WellFormed b) (table : List ℕ) (facts : Facts b.node b.count table)
    (fits : (i : ℕ) → get_or table i 0 < 2 ^ 64) where
  -- a node whose FIRST is not empty takes an event
  takes_first : (n : ℕ) → (powers_in b.count table).takes n ≡ true → (k : ℕ) × First b.node (b.node n) k
  takes_first n e =
      let t = both (ltb n b.count) (not (eqb (facts_at table n).first 0)) e in
      let has = (lowest_is (fits (4 * n + 2))).found (eqb-false _ _ (not-true _ t.1)) in
      let k = lowest_kind (facts_at table n).first in
      (k, (facts.first_is n k (ltb-true _ _ t.0) (has_below 64 (fits (4 * n + 2)) has)).0 has)

  first_takes : (n : ℕ) → ((k : ℕ) × First b.node (b.node n) k) → (powers_in b.count table).takes n ≡ true
  first_takes n f =
      let below = named_below b wf (λ x. First b.node x f.0) (elim [ ]) n f.1 in
      let small : f.0 < 64 = omega (arith, first_kind b wf n f.1, wf.few_kinds) in
      let has = (facts.first_is n f.0 below small).1 f.1 in
      let some : eqb (facts_at table n).first 0 ≡ false = ne_eqb _ _ (λ e. none (subst (λ m. Has m f.0) e has)) in
      joined (ltb n b.count) (not (eqb (facts_at table n).first 0)) (lt-ltb _ _ below) (rw some refl)

  -- a nullable node takes none
  null_nullable : (n : ℕ) → (powers_in b.count table).null n ≡ true → Nullable b.node (b.node n)
  null_nullable n e =
      let t = both (ltb n b.count) (has? (facts_at table n).nullable 0) e in
      (facts.nullable_is n 0 (ltb-true _ _ t.0) (omega arith)).0 ((has?_is _ _).0 t.1)

  nullable_null : (n : ℕ) → Nullable b.node (b.node n) → (powers_in b.count table).null n ≡ true
  nullable_null n a =
      let below = named_below b wf (Nullable b.node) (elim [ ]) n a in
      joined (ltb n b.count) (has? (facts_at table n).nullable 0) (lt-ltb _ _ below)
      ((has?_is _ _).1 ((facts.nullable_is n 0 below (omega arith)).1 a))

  pub powers_are : PowersOf b.node (powers_in b.count table)
  powers_are = record { takes_is = λ n. (takes_first n, first_takes n); null_is = λ n. (null_nullable n, nullable_null n) }
