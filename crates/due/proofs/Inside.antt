-- While a tree is read, what is due and held are nodes of the book, and so are the records read, but for the empty ones.
use Prim.Native.Nat.{ℕ, zero, suc, ◌≤◌, ◌<◌}
use native.Mathlib.Omega.{arith}
use native.Mathlib.Decide.{dec_lt}
use mathlib.Core.Path.{◌≡◌, refl, sym, ◌∙◌}
use mathlib.Core.Bool.{Bool, true, false, ◌&&◌, false≢true}
use mathlib.Core.Logic.{◌⊎◌, inl, inr}
use mathlib.Core.List.{List, []}
use lib.Dec.{eqb}
use lib.ListN.{length, take, get_or}
use borrow.Author.Tests.{eqb-true, le-leb}
use Rattle.words.specs.Words.{Below, below_none, below_more}
use Rattle.words.proofs.Tests.{both, or_cases, never}
use Rattle.book.specs.Book.{Book, WellFormed}
use Rattle.book.specs.declared.Node.{Node}
use Rattle.book.specs.declared.Node.TheVariants.{Fail, Empty, Token, Either, Then, Tagged, Ref}
use Rattle.grammar.specs.Rules.{First, Child, either_left, either_right, then_left, then_right, tagged_left, ref_left}
use Rattle.rules.proofs.Bounds.{named_below, child_below}
use Rattle.running.specs.Running.{emptied}
use Rattle.trees.specs.declared.Due.{Due}
use Rattle.trees.specs.declared.Due.TheVariants.{Nothing, Part, Taking, OneOf, Both}
use Rattle.trees.specs.Trees.{is_emptied}
use Rattle.trees.specs.Machine.{Powers, PowersOf, State, state, next, opened, kept, lapsed, stands, blank, allows, behind, goes, reads, read_tree}
use Rattle.trees.proofs.ReadTrees.{Before, read_before}
use Rattle.due.specs.Due.{due_nodes, DueBelow}
use Rattle.due.proofs.Below.{second_below}

-- what is due and what is held are nodes below a count
pub record Inside (count : ℕ) (s : State) : Type 0 where
  pub due_below : DueBelow count s.due
  pub held_below : Below count s.held

module _ {count : ℕ} where
  -- what may be due
  nothing_below : DueBelow count Nothing
  unfolding due_nodes
  nothing_below = record { below = below_none }

  part_below : {n : ℕ} → n < count → DueBelow count (Part n)
  unfolding due_nodes
  part_below h = record { below = below_more h below_none }

  taking_below : {n : ℕ} → n < count → DueBelow count (Taking n)
  unfolding due_nodes
  taking_below h = record { below = below_more h below_none }

  one_of_below : {l r : ℕ} → l < count → r < count → DueBelow count (OneOf l r)
  unfolding due_nodes
  one_of_below h i = record { below = below_more h (below_more i below_none) }

  both_below : {l r : ℕ} → l < count → r < count → DueBelow count (Both l r)
  unfolding due_nodes
  both_below h i = record { below = below_more h (below_more i below_none) }

  right_below : {l r : ℕ} → DueBelow count (Both l r) → r < count
  unfolding due_nodes
  right_below d = second_below d.below

  inside-next : {held : List ℕ} → Below count held → Inside count (next held)
  unfolding next
  inside-next below_none = record { due_below = nothing_below; held_below = below_none }
  inside-next (below_more h more) = record { due_below = part_below h; held_below = more }

  inside-lapsed : (due : Due) {held : List ℕ} → DueBelow count due → Below count held → Inside count (lapsed due held)
  unfolding lapsed
  inside-lapsed Nothing d h = inside-next h
  inside-lapsed (Part n) d h = inside-next h
  inside-lapsed (Taking n) d h = inside-next h
  inside-lapsed (OneOf l r) d h = inside-next h
  inside-lapsed (Both l r) d h = record { due_below = taking_below (right_below d); held_below = h }

  below_kept : (due : Due) {held : List ℕ} → DueBelow count due → Below count held → Below count (kept due held)
  unfolding kept
  below_kept Nothing d h = h
  below_kept (Part n) d h = h
  below_kept (Taking n) d h = h
  below_kept (OneOf l r) d h = h
  below_kept (Both l r) d h = below_more (right_below d) h

  inside-opened : (top : Node) {held : List ℕ} → ((m : ℕ) → Child top m → m < count) → Below count held → Inside count (opened top held)
  unfolding opened
  inside-opened Fail child h = inside-next h
  inside-opened Empty child h = inside-next h
  inside-opened (Token k) child h = inside-next h
  inside-opened (Either l r) child h = record { due_below = one_of_below (child l either_left) (child r either_right); held_below = h }
  inside-opened (Then l r) child h = record { due_below = both_below (child l then_left) (child r then_right); held_below = h }
  inside-opened (Tagged l t) child h = record { due_below = taking_below (child l tagged_left); held_below = h }
  inside-opened (Ref l) child h = record { due_below = taking_below (child l ref_left); held_below = h }

module _ {b : Book} (wf : WellFormed b) where
  inside-behind : (due : Due) (held : List ℕ) (given : ℕ) → DueBelow b.count due → Below b.count held
      → Inside b.count (behind b.node due held given)
  unfolding behind
  inside-behind due held given d h = go (is_emptied given) refl
    where
      go : (t : Bool) → is_emptied given ≡ t → Inside b.count (behind b.node due held given)
      go true e = rw e (inside-lapsed due d h)
      go false e = rw e (inside-opened (b.node given) (λ m c. child_below b wf given c) (below_kept due d h))

  pub read_inside : (powers : Powers) (records : List ℕ) (i : ℕ) {s : State} → i ≤ length records → read_tree b powers (take i records) ≡ goes s
      → Inside b.count s
  unfolding read_tree reads
  read_inside powers records zero {s} within is =
      let same : state (Part b.start) [] ≡ s = cc in
      rw (sym same) (record { due_below = part_below wf.start_below; held_below = below_none })
  read_inside powers records (suc i) {s} within is =
      let f = read_before b powers records i (omega arith) is in
      let ih = read_inside powers records i (omega arith) f.reads_to in
      rw f.stepped (inside-behind _ _ (get_or records i 0) ih.due_below ih.held_below)

module _ {b : Book} (wf : WellFormed b) {powers : Powers} (known : PowersOf b.node powers) where
  standing_below : (n given : ℕ) → stands powers n given ≡ true → given < b.count
  standing_below n given e =
      let t = both (eqb given n) (powers.takes n) e in
      let f = (known.takes_is n).0 t.1 in
      rw (eqb-true given n t.0) (named_below b wf (λ x. First b.node x f.0) (elim [ ]) n f.1)

  no_blank : (n given : ℕ) → blank powers n given ≡ true → is_emptied given ≡ false → ⊥
  no_blank n given e is =
      let t = both (eqb given (emptied n)) (powers.null n) e in
      let large = le-leb 32768 given (omega (arith, eqb-true given (emptied n) t.0)) in
      false≢true (sym is ∙ large)

  -- a record that may stand somewhere and is no empty one is a node
  pub allowed_below : (due : Due) (given : ℕ) → allows powers due given ≡ true → is_emptied given ≡ false → given < b.count
  unfolding allows
  allowed_below Nothing given e is = never e
  allowed_below (Part n) given e is = go (or_cases (stands powers n given) (blank powers n given) e)
    where
      go : (stands powers n given ≡ true) ⊎ (blank powers n given ≡ true) → given < b.count
      go (inl t) = standing_below n given t
      go (inr t) = absurd (no_blank n given t is)
  allowed_below (Taking n) given e is = standing_below n given e
  allowed_below (OneOf l r) given e is = go (or_cases (stands powers l given) (stands powers r given) e)
    where
      go : (stands powers l given ≡ true) ⊎ (stands powers r given ≡ true) → given < b.count
      go (inl t) = standing_below l given t
      go (inr t) = standing_below r given t
  allowed_below (Both l r) given e is = go (or_cases (stands powers l given) (blank powers l given && powers.takes r) e)
    where
      go : (stands powers l given ≡ true) ⊎ ((blank powers l given && powers.takes r) ≡ true) → given < b.count
      go (inl t) = standing_below l given t
      go (inr t) = absurd (no_blank l given (both (blank powers l given) (powers.takes r) t).0 is)

  pub records_below : (records : List ℕ) (i : ℕ) {s : State} → i ≤ length records → read_tree b powers (take i records) ≡ goes s
      → (j : ℕ) → j < i → is_emptied (get_or records j 0) ≡ false → get_or records j 0 < b.count
  records_below records zero within is j below given = absurd (omega arith)
  records_below records (suc i) within is j below given =
      let f = read_before b powers records i (omega arith) is in
      go f (dec_lt j i) (λ before. records_below records i (omega arith) f.reads_to j before given)
    where
      go : {s : State} → Before b powers records i s → Dec (j < i) → (j < i → get_or records j 0 < b.count) → get_or records j 0 < b.count
      go f (yes before) ih = ih before
      go f (no here) ih =
          let same : j ≡ i = omega arith in
          rw same (allowed_below f.stood.due (get_or records i 0) f.allowed (rw same at given))
