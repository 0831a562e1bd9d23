-- Records of a book that passes are its tree, of one run, or wrong at one place; which of these is decided.
use Prim.Native.Nat.{ℕ, zero, suc, ◌≤◌, ◌<◌}
use native.Mathlib.Omega.{arith}
use mathlib.Core.Path.{◌≡◌, refl, sym, ap, ◌∙◌}
use mathlib.Core.Bool.{Bool, true, false}
use mathlib.Core.Logic.{◌↔◌, ◌⊎◌, inl, inr}
use mathlib.Core.List.{List}
use lib.ListN.{length, take, get_or}
use lib.Seq.{take-length}
use Rattle.words.specs.Beginnings.{Parts}
use Rattle.words.proofs.Beginnings.{parts_not_in, parts_not_lacks, parts_once}
use Rattle.words.proofs.Tests.{never}
use Rattle.book.specs.Book.{Book, WellFormed}
use Rattle.grammar.specs.Rules.{First}
use Rattle.grammar.specs.Passing.{Passes}
use Rattle.rules.proofs.Bounds.{first_kind}
use Rattle.rules.proofs.Marks.{nullable_decided, first_decided}
use Rattle.verdict.proofs.Some.{decide, search}
use Rattle.meaning.specs.Meaning.{Accepts}
use Rattle.trees.specs.declared.Due.{Due}
use Rattle.trees.specs.declared.Due.TheVariants.{Nothing, Part, Taking, OneOf, Both}
use Rattle.trees.specs.Trees.{Tree, Wrong, wrong_at, more_due, events}
use Rattle.trees.specs.Machine.{Powers, PowersOf, State, state, allows, goes, reads, read_tree}
use Rattle.due.specs.Due.{is_nothing}
use Rattle.trees.proofs.ReadTrees.{tree_is_read, read_on}
use Rattle.trees.proofs.Places.{wrong_parts, due_lacks, nothing_due_tree}

-- ---- whether nothing is due, and what the nodes can do, is decided

pub nothing_is : (due : Due) → is_nothing due ≡ true → due ≡ Nothing
nothing_is Nothing e = refl
nothing_is (Part n) e = never e
nothing_is (Taking n) e = never e
nothing_is (OneOf l r) e = never e
nothing_is (Both l r) e = never e

pub something : (due : Due) → due ≡ Nothing → is_nothing due ≡ false → ⊥
something due none e = never (sym e ∙ ap is_nothing none)

yes_or_no : {A : Type 0} → Dec A → A ⊎ (A → ⊥)
yes_or_no (yes a) = inl a
yes_or_no (no f) = inr f

is_found : {A B : Type 0} → A ⊎ B → Bool
is_found (inl a) = true
is_found (inr b) = false

found_is : {A : Type 0} (x : A ⊎ (A → ⊥)) → (is_found x ≡ true) ↔ A
unfolding is_found
found_is (inl a) = ((λ e. a), (λ b. refl))
found_is (inr f) = ((λ e. never e), (λ a. absurd (f a)))

module _ (b : Book) (wf : WellFormed b) where
  first? : (n : ℕ) → ((k : ℕ) × First b.node (b.node n) k) ⊎ (((k : ℕ) × First b.node (b.node n) k) → ⊥)
  first? n = go (search {Of = λ k. First b.node (b.node n) k} (λ k. yes_or_no (decide (first_decided b wf k) n)) b.kinds)
    where
      go : ((k : ℕ) × (k < b.kinds) × First b.node (b.node n) k
          × ((m : ℕ) → m < k → First b.node (b.node n) m → ⊥)) ⊎ ((m : ℕ) → m < b.kinds → First b.node (b.node n) m → ⊥)
          → ((k : ℕ) × First b.node (b.node n) k) ⊎ (((k : ℕ) × First b.node (b.node n) k) → ⊥)
      go (inl found) = inl (found.0, found.2)
      go (inr none) = inr (λ f. none f.0 (first_kind b wf n f.1) f.1)

  powers : Powers
  powers = record { takes = λ n. is_found (first? n); null = (nullable_decided b wf).test }

  powers_known : PowersOf b.node powers
  unfolding powers
  powers_known = record { takes_is = λ n. found_is (first? n); null_is = (nullable_decided b wf).test_is }

module _ {b : Book} where
  -- records that are wrong are no tree, and wrong at one place
  pub wrong_no_tree : {run records : List ℕ} {i : ℕ} → Wrong b records i → Accepts b run records → ⊥
  wrong_no_tree (wrong_at parts) a = parts_not_in parts (record { run = _; accepts = a })
  wrong_no_tree (more_due lacks) a = lacks.unfinished (record { run = _; accepts = a })

  pub wrong_once : {records : List ℕ} {i j : ℕ} → Wrong b records i → Wrong b records j → i ≡ j
  wrong_once (wrong_at p) (wrong_at q) = parts_once p q
  wrong_once (wrong_at p) (more_due l) = absurd (parts_not_lacks p l)
  wrong_once (more_due l) (wrong_at p) = absurd (parts_not_lacks p l)
  wrong_once (more_due l) (more_due m) = refl

  module _ (passes : Passes b) where
    wf : WellFormed b
    wf = passes.well_formed

    -- a tree is of one run: its own events
    pub run_is : {run records : List ℕ} → Accepts b run records → run ≡ events b.node records
    run_is a = (tree_is_read wf (powers_known b wf) a).1

    module _ (records : List ℕ) where
      -- so many records are read, or they are wrong before
      reading : (i : ℕ) → i ≤ length records
          → ((s : State) × (read_tree b (powers b wf) (take i records) ≡ goes s)) ⊎ ((j : ℕ) × Parts (Tree b) records j)
      unfolding read_tree reads
      reading zero within = inl (state (Part b.start) _, refl)
      reading (suc i) within = go (reading i (omega arith))
        where
          may : (s : State) → read_tree b (powers b wf) (take i records) ≡ goes s → (t : Bool) → allows (powers b wf) s.due (get_or records i 0) ≡ t
              → ((s : State) × (read_tree b (powers b wf) (take (suc i) records) ≡ goes s)) ⊎ ((j : ℕ) × Parts (Tree b) records j)
          may s is true e = inl (_, read_on b (powers b wf) records i within is e)
          may s is false e = inr (i, wrong_parts passes (powers_known b wf) records i within is e)

          go : ((s : State) × (read_tree b (powers b wf) (take i records) ≡ goes s)) ⊎ ((j : ℕ) × Parts (Tree b) records j)
              → ((s : State) × (read_tree b (powers b wf) (take (suc i) records) ≡ goes s)) ⊎ ((j : ℕ) × Parts (Tree b) records j)
          go (inl r) = may r.0 r.1 (allows (powers b wf) r.0.due (get_or records i 0)) refl
          go (inr p) = inr p

      -- records are a tree, or wrong somewhere
      pub told : ((run : List ℕ) × Accepts b run records) ⊎ ((i : ℕ) × Wrong b records i)
      told = go (reading (length records) (omega arith))
        where
          whole? : (s : State) → read_tree b (powers b wf) records ≡ goes s → (t : Bool) → is_nothing s.due ≡ t
              → ((run : List ℕ) × Accepts b run records) ⊎ ((i : ℕ) × Wrong b records i)
          whole? s is true e = inl (_, nothing_due_tree passes (powers_known b wf) records is (nothing_is s.due e))
          whole? s is false e =
              inr (_, more_due (due_lacks passes (powers_known b wf) records is (λ none. something s.due none e)))

          go : ((s : State) × (read_tree b (powers b wf) (take (length records) records) ≡ goes s)) ⊎ ((j : ℕ) × Parts (Tree b) records j)
              → ((run : List ℕ) × Accepts b run records) ⊎ ((i : ℕ) × Wrong b records i)
          go (inl r) = whole? r.0 (rw (take-length records) at r.1) (is_nothing r.0.due) refl
          go (inr p) = inr (p.0, wrong_at p.1)
