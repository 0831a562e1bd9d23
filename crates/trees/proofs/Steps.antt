-- A record may stand where something is due exactly if what is due has records that begin with it, and what is due then are the others.
use Prim.Native.Nat.{ℕ, ◌<◌}
use native.Mathlib.Omega.{arith}
use mathlib.Core.Path.{◌≡◌, refl, sym, ◌∙◌}
use mathlib.Core.Bool.{Bool, true, false, ◌&&◌}
use mathlib.Core.Logic.{◌⊎◌, inl, inr}
use mathlib.Core.List.{List, [], ◌∷◌, ◌++◌, head-eq_of_cons-eq, tail-eq_of_cons-eq}
use lib.Dec.{ltb, eqb}
use borrow.Author.Tests.{le-leb, lt-leb, ltb-true, ltb-false, eqb-true, eq-eqb}
use Rattle.words.proofs.Tests.{both, joined, or_cases, or_left, or_right, never}
use Rattle.book.specs.Book.{Book, WellFormed}
use Rattle.book.specs.declared.Node.{Node}
use Rattle.book.specs.declared.Node.TheVariants.{Fail}
use Rattle.grammar.specs.Rules.{First, Nullable}
use Rattle.running.specs.Running.{emptied}
use Rattle.meaning.proofs.Parts.{held_none, held_some}
use Rattle.meaning.proofs.Walk.{Taken, part_first}
use Rattle.trees.specs.declared.Due.{Due}
use Rattle.trees.specs.declared.Due.TheVariants.{Nothing, Part, Taking, OneOf, Both}
use Rattle.trees.specs.Trees.{own_events, events_at}
use Rattle.trees.specs.Machine.{Powers, PowersOf, opened, kept, lapsed, stands, blank, allows, behind}
use Rattle.trees.proofs.Owed.{Owed, owed_nothing, owed_part, owed_taking, owed_left, owed_right, owed_hold, owed_skip, Owes}
use Rattle.trees.proofs.Owed.{next_owes, next_held, opened-follows, taken_follow}

no_first_fail : {node : ℕ → Node} {k : ℕ} → First node Fail k → ⊥
no_first_fail = elim [ ]

module _ (node : ℕ → Node) where
  -- an empty record takes no event, and lets what is due lapse
  pub emptied_events : (n : ℕ) → events_at node (emptied n) ≡ []
  unfolding events_at
  emptied_events n = rw (le-leb 32768 (emptied n) (omega arith))

  pub emptied-behind : (due : Due) (held : List ℕ) (n : ℕ) → behind node due held (emptied n) ≡ lapsed due held
  unfolding behind
  emptied-behind due held n = rw (le-leb 32768 (emptied n) (omega arith))

  -- the record of a node of a small number opens it
  pub small_events : {n : ℕ} → n < 32768 → events_at node n ≡ own_events (node n)
  unfolding events_at
  small_events {n} small = rw (lt-leb 32768 n small)

  pub small_behind : (due : Due) (held : List ℕ) {n : ℕ} → n < 32768 → behind node due held n ≡ opened (node n) (kept due held)
  unfolding behind
  small_behind due held {n} small = rw (lt-leb 32768 n small)

module _ {b : Book} (formed : WellFormed b) where
  below : (n : ℕ) → (b.node n ≡ Fail → ⊥) → n < 32768
  below n some = go (ltb n b.count) refl
    where
      go : (t : Bool) → ltb n b.count ≡ t → n < 32768
      go true e = omega (arith, ltb-true n b.count e, formed.few_nodes)
      go false e = absurd (some (formed.beyond n (ltb-false n b.count e)))

  pub first_small : {n k : ℕ} → First b.node (b.node n) k → n < 32768
  first_small {n} {k} d = below n (λ e. no_first_fail {node = b.node} {k = k} (rw e at d))

module _ {b : Book} (formed : WellFormed b) {powers : Powers} (known : PowersOf b.node powers) where
  -- ---- a record that may stand there

  module _ (due : Due) (held zs ps : List ℕ) where
    -- the record of a node that takes an event
    record Opens (n : ℕ) : Type 0 where
      pub kind : ℕ
      pub more : List ℕ
      pub taken : Taken b.node n (b.node n) kind (kept due held) more (n ∷ ps)
      pub run_is : events_at b.node n ++ zs ≡ kind ∷ more

    opens : (n : ℕ) → powers.takes n ≡ true → Owes b.node (behind b.node due held n) zs ps → Opens n
    opens n takes o =
        let f = (known.takes_is n).0 takes in
        let small = first_small formed f.1 in
        let s = opened-follows n (b.node n) f.1 (rw (small_behind b.node due held small) at o) in
        record { kind = s.kind; more = s.more; taken = s.taken; run_is = rw (small_events b.node small) s.run_is }

    lapses : (n : ℕ) → Owes b.node (behind b.node due held (emptied n)) zs ps → Owes b.node (lapsed due held) zs ps
    lapses n o = rw (emptied-behind b.node due held n) at o

  -- what the tests say
  standing : (n given : ℕ) → stands powers n given ≡ true → (given ≡ n) × (powers.takes n ≡ true)
  standing n given e =
      let t = both (eqb given n) (powers.takes n) e in (eqb-true given n t.0, t.1)

  blanking : (n given : ℕ) → blank powers n given ≡ true → (given ≡ emptied n) × Nullable b.node (b.node n)
  blanking n given e =
      let t = both (eqb given (emptied n)) (powers.null n) e in (eqb-true given (emptied n) t.0, (known.null_is n).0 t.1)

  -- the records of what is due then, behind it, are records of what is due
  pub step_sound : (due : Due) (held : List ℕ) (given : ℕ) {zs ps : List ℕ} → allows powers due given ≡ true
      → Owes b.node (behind b.node due held given) zs ps → Owed b.node due held (events_at b.node given ++ zs) (given ∷ ps)
  unfolding allows kept lapsed
  step_sound Nothing held given e o = never e
  step_sound (Part n) held given {zs} {ps} e o = go (or_cases (stands powers n given) (blank powers n given) e)
    where
      go : (stands powers n given ≡ true) ⊎ (blank powers n given ≡ true)
          → Owed b.node (Part n) held (events_at b.node given ++ zs) (given ∷ ps)
      go (inl t) =
          let q = standing n given t in
          let s = opens (Part n) held zs ps n q.1 (rw q.0 at o) in
          rw (q.0, s.run_is) (owed_part (held_some s.taken.part s.taken.behind))
      go (inr t) =
          let q = blanking n given t in
          let h = next_held held (lapses (Part n) held zs ps n (rw q.0 at o)) in
          rw (q.0, emptied_events b.node n) (owed_part (held_none q.1 h))
  step_sound (Taking n) held given {zs} {ps} e o =
      let q = standing n given e in
      let s = opens (Taking n) held zs ps n q.1 (rw q.0 at o) in
      rw (q.0, s.run_is) (owed_taking s.taken)
  step_sound (OneOf l r) held given {zs} {ps} e o = go (or_cases (stands powers l given) (stands powers r given) e)
    where
      go : (stands powers l given ≡ true) ⊎ (stands powers r given ≡ true)
          → Owed b.node (OneOf l r) held (events_at b.node given ++ zs) (given ∷ ps)
      go (inl t) =
          let q = standing l given t in
          let s = opens (OneOf l r) held zs ps l q.1 (rw q.0 at o) in
          rw (q.0, s.run_is) (owed_left s.taken)
      go (inr t) =
          let q = standing r given t in
          let s = opens (OneOf l r) held zs ps r q.1 (rw q.0 at o) in
          rw (q.0, s.run_is) (owed_right s.taken)
  step_sound (Both l r) held given {zs} {ps} e o = go (or_cases (stands powers l given) (blank powers l given && powers.takes r) e)
    where
      skip : {ys qs : List ℕ} → Nullable b.node (b.node l) → Owed b.node (Taking r) held ys qs
          → Owed b.node (Both l r) held ys (emptied l ∷ qs)
      skip a (owed_taking t) = owed_skip a t

      go : (stands powers l given ≡ true) ⊎ ((blank powers l given && powers.takes r) ≡ true)
          → Owed b.node (Both l r) held (events_at b.node given ++ zs) (given ∷ ps)
      go (inl t) =
          let q = standing l given t in
          let s = opens (Both l r) held zs ps l q.1 (rw q.0 at o) in
          rw (q.0, s.run_is) (owed_hold s.taken)
      go (inr t) =
          let q = blanking l given (both (blank powers l given) (powers.takes r) t).0 in
          rw (q.0, emptied_events b.node l) (skip q.1 (lapses (Both l r) held zs ps l (rw q.0 at o)))

  -- ---- a record that stands there

  -- it may, and behind it stands what is due then
  pub record Stepped (due : Due) (held zs : List ℕ) (given : ℕ) (ps : List ℕ) : Type 0 where
    pub allowed : allows powers due given ≡ true
    pub run : List ℕ
    pub run_is : zs ≡ events_at b.node given ++ run
    pub owes : Owes b.node (behind b.node due held given) run ps

  stepped-opened : (due : Due) (held : List ℕ) {n k given : ℕ} {zs ps rs : List ℕ}
      → Taken b.node n (b.node n) k (kept due held) zs rs → rs ≡ given ∷ ps
      → (stands powers n given ≡ true → allows powers due given ≡ true) → Stepped due held (k ∷ zs) given ps
  stepped-opened due held {n} {k} {given} {zs} {ps} {rs} t is may =
      let f = taken_follow t in
      let first : First b.node (b.node n) k = part_first t.part in
      let small = first_small formed first in
      let same : given ≡ n = head-eq_of_cons-eq (sym is ∙ f.records_are) in
      let others : ps ≡ f.records = tail-eq_of_cons-eq (sym is ∙ f.records_are) in
      let takes = (known.takes_is n).1 (k, first) in
      record {
        allowed = may (joined (eqb given n) (powers.takes n) (eq-eqb given n same) takes);
        run = f.run;
        run_is = rw (same, small_events b.node small) f.run_is;
        owes = rw (same, others, small_behind b.node due held small) f.owes;
      }

  stepped-emptied : (due : Due) (held : List ℕ) {n given : ℕ} {zs ps rs : List ℕ} → (emptied n ∷ rs) ≡ given ∷ ps
      → Nullable b.node (b.node n) → (blank powers n given ≡ true → allows powers due given ≡ true)
      → Owes b.node (lapsed due held) zs rs → Stepped due held zs given ps
  stepped-emptied due held {n} {given} {zs} {ps} {rs} is null may o =
      let same : given ≡ emptied n = head-eq_of_cons-eq (sym is) in
      let others : ps ≡ rs = tail-eq_of_cons-eq (sym is) in
      record {
        allowed = may (joined (eqb given (emptied n)) (powers.null n) (eq-eqb given (emptied n) same) ((known.null_is n).1 null));
        run = zs;
        run_is = rw (same, emptied_events b.node n);
        owes = rw (same, others, emptied-behind b.node due held n) o;
      }

  no_record : {given : ℕ} {ps : List ℕ} → ◌≡◌ {A = List ℕ} [] (given ∷ ps) → ⊥
  no_record is = let clash : ◌≡◌ {A = ℕ} 0 1 = cc in omega arith

  pub step_complete : {due : Due} {held zs rs : List ℕ} {given : ℕ} {ps : List ℕ} → Owed b.node due held zs rs → rs ≡ given ∷ ps
      → Stepped due held zs given ps
  unfolding allows kept lapsed
  step_complete owed_nothing is = absurd (no_record is)
  step_complete {given = g} (owed_part {n} {held} (held_none a h)) is =
      stepped-emptied (Part n) held is a (λ e. or_right (stands powers n g) (blank powers n g) e) (next_owes h)
  step_complete {given = g} (owed_part {n} {held} (held_some p h)) is =
      stepped-opened (Part n) held (record { rest = _; others = _; part = p; behind = h }) is
      (λ e. or_left (stands powers n g) (blank powers n g) e)
  step_complete (owed_taking {n} {held = held} t) is = stepped-opened (Taking n) held t is (λ e. e)
  step_complete {given = g} (owed_left {l} {r} {held = held} t) is =
      stepped-opened (OneOf l r) held t is (λ e. or_left (stands powers l g) (stands powers r g) e)
  step_complete {given = g} (owed_right {l} {r} {held = held} t) is =
      stepped-opened (OneOf l r) held t is (λ e. or_right (stands powers l g) (stands powers r g) e)
  step_complete {given = g} (owed_hold {l} {r} {held = held} t) is =
      stepped-opened (Both l r) held t is (λ e. or_left (stands powers l g) (blank powers l g && powers.takes r) e)
  step_complete {given = g} (owed_skip {l} {r} {k} {held} a t) is =
      let takes = (known.takes_is r).1 (k, part_first t.part) in
      stepped-emptied (Both l r) held is a
      (λ e. or_right (stands powers l g) (blank powers l g && powers.takes r) (joined (blank powers l g) (powers.takes r) e takes))
      (owed_taking t)
