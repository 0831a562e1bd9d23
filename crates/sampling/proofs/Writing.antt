-- The best run of a node is written by its parts, where no node has a conflict. The walk to its first event is that along the derivation
-- of its first kind in FIRST: at an either the other side cannot have that kind, at a then a left that is empty cannot.
use Prim.Native.Nat.{ℕ, zero, suc, ◌+◌, ◌*◌, ◌/◌, ◌%◌, ◌≤◌, ◌<◌}
use native.Mathlib.Omega.{arith}
use native.Mathlib.Decide.{dec_lt}
use borrow.Author.Tests.{lt-ltb, le-ltb}
use mathlib.Core.Path.{◌≡◌, refl, sym, ap, ◌∙◌, subst}
use mathlib.Core.Logic.{⊎_elim}
use mathlib.Core.List.{List, [], ◌∷◌, ◌++◌, append-nil}
use Rattle.book.specs.Book.{Book, WellFormed}
use Rattle.book.specs.declared.Node.{Node}
use Rattle.book.specs.declared.Node.TheVariants.{Fail, Either, Then, Tagged, Ref}
use Rattle.grammar.specs.Rules.{First, f_token, f_left, f_right, f_hold, f_skip, f_tagged, f_ref, Conflict, c_first, c_follow}
use Rattle.grammar.specs.Passing.{Passes}
use Rattle.grammar.proofs.Facts.{nullable_first_snf, nullable_derives_empty}
use Rattle.rules.specs.Step.{kind_of}
use Rattle.rules.proofs.Reading.{kind_below}
use Rattle.meaning.proofs.Walk.{size}
use Rattle.meaning.proofs.Size.{size_below, first_below}
use Rattle.lengths.specs.Falling.{smaller}
use Rattle.lengths.proofs.Cutting.{smaller-left, smaller_one}
use Rattle.weights.specs.Weight.{CAP, weight_at, Weights}
use Rattle.weights.specs.Falling.{joined, weight_by}
use Rattle.lengths.proofs.Kinded.{wf_kinded}
use Rattle.weights.proofs.Weighing.{Kinded, joined_light, joined_heavy}
use Rattle.weights.proofs.Lowering.{weight_none_lighter, weight_by_sides}
use Rattle.sampling.specs.Sample.{Best, Sample}
use Rattle.sampling.specs.Parts.{events_of, due_before, parts_on, leaves_none, leaves_one, leaves_two, Row, row_none}
use Rattle.sampling.proofs.Rows.{row_append, row_one}
use Rattle.sampling.proofs.Best.{best_token, best_then, best_tagged, best_ref, best_left, best_right, best_empty}
use Rattle.sampling.proofs.Best.{empty_nullable, weight_first}

-- how deep a run of at most 65,535 events is written: at each of them at most 512 nodes are visited
abbrev pub DEPTH : ℕ
DEPTH = 33619968

-- a node's best run, written by parts
pub record Written (node : ℕ → Node) (by : ℕ → ℕ) (count depth n : ℕ) : Type 0 where
  pub run : List ℕ
  pub row : Row node by count depth (n ∷ []) run
  pub best : Best node (node n) run

-- ---- tests

smaller_less : (a b : ℕ) → a < b → smaller a b ≡ a
smaller_less a b less = rw (lt-ltb a b less) refl

smaller_more : (a b : ℕ) → b ≤ a → smaller a b ≡ b
smaller_more a b more = rw (le-ltb a b more) refl

-- what is cut below the cap is as it was
cut_below : (a w : ℕ) → w ≡ smaller a CAP → w < CAP → w ≡ a
cut_below a w is below = ⊎_elim (λ e. omega (arith, e, is)) (λ e. absurd (omega (arith, e, is, below))) (smaller_one a CAP)

module _ (by : ℕ → ℕ) (l r : ℕ) where
  left_lighter : by l < by r → parts_on (Either l r) by [] ≡ l ∷ []
  unfolding parts_on
  left_lighter less = rw (lt-ltb (by l) (by r) less) refl

  right_lighter : by r ≤ by l → parts_on (Either l r) by [] ≡ r ∷ []
  unfolding parts_on
  right_lighter more = rw (le-ltb (by l) (by r) more) refl

  both_due : 64 ≤ by l → 64 ≤ by r → parts_on (Then l r) by [] ≡ l ∷ r ∷ []
  unfolding parts_on
  both_due one other = rw (le-ltb (by l) 64 one, le-ltb (by r) 64 other) refl

  left_due : 64 ≤ by l → by r < 64 → parts_on (Then l r) by [] ≡ l ∷ []
  unfolding parts_on
  left_due one other = rw (le-ltb (by l) 64 one, lt-ltb (by r) 64 other) refl

  right_due_lem : by l < 64 → 64 ≤ by r → parts_on (Then l r) by [] ≡ r ∷ []
  unfolding parts_on
  right_due_lem one other = rw (lt-ltb (by l) 64 one, le-ltb (by r) 64 other) refl

-- ---- the parts of a node write its best run

module _ (node : ℕ → Node) (count : ℕ) (beyond : (n : ℕ) → count ≤ n → node n ≡ Fail) (kinded : Kinded node)
    (none : (n : ℕ) → Conflict node (node n) → ⊥) (sized : (n k : ℕ) (d : First node (node n) k) → size d ≤ 512)
    (within : (n k : ℕ) → First node (node n) k → n < count) (weights : List ℕ) (are : Weights node weights) where
  abbrev by : ℕ → ℕ
  by = weight_at weights

  abbrev Wrote : ℕ → ℕ → Type 0
  Wrote depth n = Written node by count depth n

  -- a node that goes on with one part only
  through : {depth n l : ℕ} {at : Node} → node n ≡ at → n < count → events_of at ≡ [] → parts_on at by [] ≡ l ∷ [] → by l ≤ by n
      → (w : Wrote depth l) → Best node at w.run → Wrote (suc depth) n
  through {depth} {n} {l} {at} is inside silent parts light w best = record {
    run = w.run;
    row = subst (λ xs. Row node by count (suc depth) (n ∷ []) (xs ++ w.run)) silent
        (row_one is inside (rw parts (leaves_one light)) (rw parts w.row));
    best = rw is best;
  }

  -- a then of which both sides write
  both : {depth n l r : ℕ} → node n ≡ Then l r → n < count → l < count → 64 ≤ by l → 64 ≤ by r → by l < by n → by r < by n
      → Wrote depth l → Wrote depth r → Wrote (suc depth) n
  unfolding events_of
  both {l = l} {r = r} is inside within-left heavy solid left right one two = record {
    run = one.run ++ two.run;
    row = row_one is inside (rw (both_due by l r heavy solid) (leaves_two {l = l} {r = r} within-left left right))
        (rw (both_due by l r heavy solid) (row_append one.row two.row));
    best = rw is (best_then one.best two.best);
  }

  -- a weight below the cap, by that of the sides
  by_either : {n l r : ℕ} → node n ≡ Either l r → by n < CAP → by n ≡ smaller (by l) (by r)
  unfolding weight_by
  by_either {n} is below = weight_by_sides are kinded beyond n below ∙ ap (λ x. weight_by x by) is

  by_then : {n l r : ℕ} → node n ≡ Then l r → by n < CAP → by n ≡ joined (by l) (by r)
  unfolding weight_by
  by_then {n} {l} {r} is below =
      cut_below (joined (by l) (by r)) (by n) (weight_by_sides are kinded beyond n below ∙ ap (λ x. weight_by x by) is) below

  by_tagged : {n l t : ℕ} → node n ≡ Tagged l t → by n < CAP → by n ≡ by l
  unfolding weight_by
  by_tagged {n} is below = weight_by_sides are kinded beyond n below ∙ ap (λ x. weight_by x by) is

  by_ref : {n l : ℕ} → node n ≡ Ref l → by n < CAP → by n ≡ by l
  unfolding weight_by
  by_ref {n} is below = weight_by_sides are kinded beyond n below ∙ ap (λ x. weight_by x by) is

  clear : {n : ℕ} {at : Node} → node n ≡ at → Conflict node at → ⊥
  clear {n} is c = none n (rw is c)

  first_in : {n : ℕ} {at : Node} {k : ℕ} → node n ≡ at → First node at k → n < count
  first_in {n} {at} {k} is d = within n k (rw is d)

  -- nodes whose best run has m events and begins with k are written, down to a depth for each event
  abbrev Writes : ℕ → Type 0
  Writes depth = (n m k : ℕ) (at : Node) (d : First node at k) → node n ≡ at → by n ≡ 64 * m + k → k < 64 → 0 < m → m < 65536
      → 513 * m + size d ≤ depth → Wrote depth n

  module _ (depth : ℕ) (writes : Writes depth) (n m k : ℕ) (is-weight : by n ≡ 64 * m + k) (small : k < 64) (some : 0 < m)
      (few : m < 65536) where
    below : by n < CAP
    below = omega (arith, is-weight)

    module _ {l r : ℕ} (is : node n ≡ Either l r) where
      write_left : (d : First node (node l) k) → 513 * m + size d ≤ depth → Dec (by l < by r) → Wrote (suc depth) n
      unfolding events_of
      write_left d deep (yes less) =
          let weight : by l ≡ by n = sym (by_either is below ∙ smaller_less (by l) (by r) less) in
          let w = writes l m k (node l) d refl (weight ∙ is-weight) small some few deep in
          through is (first_in is (f_left d)) refl (left_lighter by l r less) (omega (arith, weight)) w
          (best_left are kinded (omega (arith, weight, below)) less w.best)
      write_left d deep (no more) =
          let weight : by r ≡ by n = sym (by_either is below ∙ smaller_more (by l) (by r) (omega arith)) in
          absurd (clear is (c_first d (weight_first are kinded r m k (weight ∙ is-weight) small some few)))

      write_right : (d : First node (node r) k) → 513 * m + size d ≤ depth → Dec (by r < by l) → Wrote (suc depth) n
      unfolding events_of
      write_right d deep (yes less) =
          let weight : by r ≡ by n = sym (by_either is below ∙ smaller_more (by l) (by r) (omega arith)) in
          let w = writes r m k (node r) d refl (weight ∙ is-weight) small some few deep in
          through is (first_in is (f_right d)) refl (right_lighter by l r (omega arith)) (omega (arith, weight)) w
          (best_right are kinded (omega (arith, weight, below)) less w.best)
      write_right d deep (no more) =
          let weight : by l ≡ by n =
          ⊎_elim (λ e. sym (by_either is below ∙ e)) (λ e. omega (arith, by_either is below, e, more, smaller-left (by l) (by r)))
          (smaller_one (by l) (by r)) in
          absurd (clear is (c_first (weight_first are kinded l m k (weight ∙ is-weight) small some few) d))

    module _ {l r : ℕ} (is : node n ≡ Then l r) where
      sum : by n ≡ joined (by l) (by r)
      sum = by_then is below

      write_hold : (d : First node (node l) k) → n < count → 513 * m + size d ≤ depth → Dec (by l < 64) → Dec (by r < 64)
          → Wrote (suc depth) n
      unfolding events_of
      write_hold d inside deep (yes empty) any =
          let weight : by r ≡ by n = sym (sum ∙ joined_light (by l) (by r) empty) in
          let first = weight_first are kinded r m k (weight ∙ is-weight) small some few in
          absurd (clear is (c_follow (nullable_first_snf (empty_nullable are kinded l empty) d) first))
      write_hold d inside deep (no heavy) (yes empty) =
          let weight : by l ≡ by n = omega (arith, sum, joined_heavy (by l) (by r) (omega arith)) in
          let w = writes l m k (node l) d refl (weight ∙ is-weight) small some few deep in
          through is inside refl (left_due by l r (omega arith) empty) (omega (arith, weight)) w
          (subst (Best node (Then l r)) (append-nil w.run) (best_then w.best (best_empty are kinded r empty)))
      write_hold d inside deep (no heavy) (no solid) =
          let whole = joined_heavy (by l) (by r) (omega arith) in
          let one = writes l (by l / 64) k (node l) d refl (omega (arith, sum, whole, is-weight, small)) small (omega arith)
          (omega (arith, sum, whole, is-weight)) (omega (arith, sum, whole, is-weight, deep)) in
          let first = weight_first are kinded r (by r / 64) (by r % 64) (omega arith) (omega arith) (omega arith)
          (omega (arith, sum, whole, is-weight)) in
          let two = writes r (by r / 64) (by r % 64) (node r) first refl (omega arith) (omega arith) (omega arith)
          (omega (arith, sum, whole, is-weight)) (omega (arith, sum, whole, is-weight, deep, sized r (by r % 64) first)) in
          both is inside (within l k d) (omega arith) (omega arith) (omega (arith, sum, whole)) (omega (arith, sum, whole)) one two

      write_skip : (d : First node (node r) k) → n < count → by l < 64 → 513 * m + size d ≤ depth → Wrote (suc depth) n
      unfolding events_of
      write_skip d inside empty deep =
          let weight : by r ≡ by n = sym (sum ∙ joined_light (by l) (by r) empty) in
          let w = writes r m k (node r) d refl (weight ∙ is-weight) small some few deep in
          through is inside refl (right_due_lem by l r empty (omega (arith, weight, is-weight))) (omega (arith, weight)) w
          (best_then (best_empty are kinded l empty) w.best)

    -- one node, by the derivation of its first kind in FIRST
    write_node : {at : Node} (d : First node at k) → node n ≡ at → 513 * m + size d ≤ suc depth → Wrote (suc depth) n
    unfolding size events_of parts_on
    write_node f_token is deep =
        record {
          run = k ∷ [];
          row = row_one is (first_in is f_token) leaves_none row_none;
          best = rw is best_token;
        }
    write_node (f_left {l} {r} d) is deep = write_left is d (omega (arith, deep)) (dec_lt (by l) (by r))
    write_node (f_right {l} {r} d) is deep = write_right is d (omega (arith, deep)) (dec_lt (by r) (by l))
    write_node (f_hold {l} {r} d p) is deep =
        write_hold is d (first_in is (f_hold d p)) (omega (arith, deep)) (dec_lt (by l) 64) (dec_lt (by r) 64)
    write_node (f_skip {l} a d) is deep =
        write_skip is d (first_in is (f_skip a d)) (omega (arith, weight_none_lighter are l [] (nullable_derives_empty a)))
        (omega (arith, deep))
    write_node (f_tagged {l} d) is deep =
        let weight : by l ≡ by n = sym (by_tagged is below) in
        let w = writes l m k (node l) d refl (weight ∙ is-weight) small some few (omega (arith, deep)) in
        through is (first_in is (f_tagged d)) refl refl (omega (arith, weight)) w (best_tagged w.best)
    write_node (f_ref {l} d) is deep =
        let weight : by l ≡ by n = sym (by_ref is below) in
        let w = writes l m k (node l) d refl (weight ∙ is-weight) small some few (omega (arith, deep)) in
        through is (first_in is (f_ref d)) refl refl (omega (arith, weight)) w (best_ref w.best)

  write : (depth : ℕ) → Writes depth
  write zero n m k at d is weight small some few deep = absurd (omega arith)
  write (suc depth) n m k at d is weight small some few deep = write_node depth (write depth) n m k weight small some few d is deep

  -- a node below the cap that is not empty
  pub written_node : (n : ℕ) → 64 ≤ by n → by n < CAP → Wrote DEPTH n
  written_node n some below =
      let first = weight_first are kinded n (by n / 64) (by n % 64) (omega arith) (omega arith) (omega arith) (omega arith) in
      write DEPTH n (by n / 64) (by n % 64) (node n) first refl (omega arith) (omega arith) (omega arith) (omega arith)
      (omega (arith, sized n (by n % 64) first))

-- ---- the sample of a book

-- the best run of a book's start is written by what is due at first: the start, if that run is not empty
pub record Due (b : Book) (by : ℕ → ℕ) : Type 0 where
  pub run : List ℕ
  pub row : Row b.node by b.count DEPTH (due_before (by b.start) b.start []) run
  pub sample : Sample b run

-- a well-formed book has kinds below 64
pub book_kinded : (b : Book) → WellFormed b → Kinded b.node
book_kinded b wf = wf_kinded b wf

module _ (b : Book) (passes : Passes b) (weights : List ℕ) (are : Weights b.node weights) where
  pub sample_due : weight_at weights b.start < CAP → Due b (weight_at weights)
  sample_due below = at (dec_lt (weight_at weights b.start) 64)
    where
      wf : WellFormed b
      wf = passes.well_formed

      at : Dec (weight_at weights b.start < 64) → Due b (weight_at weights)
      at (yes light) = record {
        run = [];
        row = rw (lt-ltb (weight_at weights b.start) 64 light) row_none;
        sample = best_empty are (book_kinded b wf) b.start light;
      }
      at (no heavy) =
          let w = written_node b.node b.count wf.beyond (book_kinded b wf) passes.no_conflict
          (λ n k d. omega (arith, size_below b wf passes.no_conflict d, wf.few_nodes)) (λ n k d. first_below b wf refl d) weights are
          b.start (omega arith) below in
          record {
            run = w.run;
            row = rw (le-ltb (weight_at weights b.start) 64 (omega arith)) w.row;
            sample = w.best;
          }
