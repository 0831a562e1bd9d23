-- What is due can always be completed: the parts held are productive and what takes an event has a first one, and a record keeps it so.
use Prim.Native.Nat.{ℕ}
use native.Mathlib.Omega.{arith}
use mathlib.Core.Path.{◌≡◌, refl}
use mathlib.Core.Bool.{true, ◌&&◌}
use mathlib.Core.Logic.{◌⊎◌, inl, inr}
use mathlib.Core.List.{List, [], ◌∷◌, ◌++◌}
use lib.Dec.{eqb}
use borrow.Author.Tests.{eqb-true}
use Rattle.words.proofs.Tests.{both, or_cases, never}
use Rattle.book.specs.Book.{Book, WellFormed}
use Rattle.book.specs.declared.Node.{Node}
use Rattle.book.specs.declared.Node.TheVariants.{Either, Then}
use Rattle.grammar.specs.Rules.{Productive, First, f_token, f_left, f_right, f_hold, f_skip, f_tagged, f_ref}
use Rattle.grammar.proofs.Facts.{first_productive, productive_derives}
use Rattle.running.specs.Running.{emptied}
use Rattle.meaning.specs.Meaning.{tree}
use Rattle.meaning.proofs.Parts.{Held, held_end, derives_before}
use Rattle.meaning.proofs.Walk.{after, recorded, Taken, walk_sound}
use Rattle.trees.specs.declared.Due.{Due}
use Rattle.trees.specs.declared.Due.TheVariants.{Nothing, Part, Taking, OneOf, Both}
use Rattle.trees.specs.Machine.{Powers, PowersOf, State, next, opened, kept, lapsed, stands, blank, allows, behind}
use Rattle.trees.proofs.Owed.{Owed, owed_nothing, owed_part, owed_taking, owed_left, owed_right, owed_hold, owed_skip}
use Rattle.trees.proofs.Steps.{first_small, small_behind, emptied-behind}

-- parts held, each productive
pub data Productives (node : ℕ → Node) : List ℕ → Type 0 where
  none_held : Productives node []
  one_held : {n : ℕ} {held : List ℕ} → Productive node (node n) → Productives node held → Productives node (n ∷ held)

-- what is due, and the parts held behind it, can be completed
pub data Ready (node : ℕ → Node) : Due → List ℕ → Type 0 where
  ready_nothing : Ready node Nothing []
  ready_part : {n : ℕ} {held : List ℕ} → Productive node (node n) → Productives node held → Ready node (Part n) held
  ready_taking : {n k : ℕ} {held : List ℕ} → First node (node n) k → Productives node held → Ready node (Taking n) held
  ready_either : {l r k : ℕ} {held : List ℕ} → First node (Either l r) k → Productives node held → Ready node (OneOf l r) held
  ready_then : {l r k : ℕ} {held : List ℕ} → First node (Then l r) k → Productives node held → Ready node (Both l r) held

abbrev pub IsReady : (ℕ → Node) → State → Type 0
IsReady node s = Ready node s.due s.held

module _ {node : ℕ → Node} where
  -- ---- it has records

  productives_held : {held : List ℕ} → Productives node held → (zs ps : List ℕ) × Held node held zs ps
  productives_held none_held = ([], [], held_end)
  productives_held (one_held {n} p more) =
      let s = productive_derives p in
      let t = productives_held more in
      (s.0 ++ t.0, tree n s.1 ++ t.1, derives_before n s.0 s.1 t.2)

  productives_after : {top : Node} {k : ℕ} (d : First node top k) {held : List ℕ} → Productives node held → Productives node (after d held)
  unfolding after
  productives_after f_token h = h
  productives_after (f_left d) h = productives_after d h
  productives_after (f_right d) h = productives_after d h
  productives_after (f_hold d p) h = productives_after d (one_held p h)
  productives_after (f_skip a d) h = productives_after d h
  productives_after (f_tagged d) h = productives_after d h
  productives_after (f_ref d) h = productives_after d h

  first_taken : (n : ℕ) {top : Node} {k : ℕ} {held : List ℕ} → First node top k → Productives node held
      → (zs ps : List ℕ) × Taken node n top k held zs ps
  first_taken n {held = held} d h =
      let t = productives_held (productives_after d h) in (t.0, recorded n d ++ t.1, walk_sound n d held t.2)

  pub ready_owed : {due : Due} {held : List ℕ} → Ready node due held → (zs ps : List ℕ) × Owed node due held zs ps
  ready_owed ready_nothing = ([], [], owed_nothing)
  ready_owed (ready_part p h) = let t = productives_held (one_held p h) in (t.0, t.1, owed_part t.2)
  ready_owed (ready_taking {n} {k} d h) = let t = first_taken n d h in (k ∷ t.0, t.1, owed_taking t.2)
  ready_owed (ready_either {l} {r} {k} (f_left d) h) = let t = first_taken l d h in (k ∷ t.0, t.1, owed_left t.2)
  ready_owed (ready_either {l} {r} {k} (f_right d) h) = let t = first_taken r d h in (k ∷ t.0, t.1, owed_right t.2)
  ready_owed (ready_then {l} {r} {k} (f_hold d p) h) = let t = first_taken l d (one_held p h) in (k ∷ t.0, t.1, owed_hold t.2)
  ready_owed (ready_then {l} {r} {k} (f_skip a d) h) =
      let t = first_taken r d h in (k ∷ t.0, emptied l ∷ t.1, owed_skip a t.2)

  -- ---- and a record keeps it so

  ready_next : {held : List ℕ} → Productives node held → IsReady node (next held)
  unfolding next
  ready_next none_held = ready_nothing
  ready_next (one_held p h) = ready_part p h

  ready_opened : {top : Node} {k : ℕ} {held : List ℕ} → First node top k → Productives node held → IsReady node (opened top held)
  unfolding opened
  ready_opened f_token h = ready_next h
  ready_opened (f_left d) h = ready_either (f_left d) h
  ready_opened (f_right d) h = ready_either (f_right d) h
  ready_opened (f_hold d p) h = ready_then (f_hold d p) h
  ready_opened (f_skip a d) h = ready_then (f_skip a d) h
  ready_opened (f_tagged d) h = ready_taking d h
  ready_opened (f_ref d) h = ready_taking d h

  then_right_productive : {l r k : ℕ} → First node (Then l r) k → Productive node (node r)
  then_right_productive (f_hold d p) = p
  then_right_productive (f_skip a d) = first_productive d

  -- where nothing is due nothing is held
  pub nothing_held : {due : Due} {held : List ℕ} → Ready node due held → due ≡ Nothing → held ≡ []
  nothing_held ready_nothing is = refl
  nothing_held (ready_part p h) is = absurd (let never : ◌≡◌ {A = ℕ} 0 1 = cc in omega arith)
  nothing_held (ready_taking d h) is = absurd (let never : ◌≡◌ {A = ℕ} 0 1 = cc in omega arith)
  nothing_held (ready_either d h) is = absurd (let never : ◌≡◌ {A = ℕ} 0 1 = cc in omega arith)
  nothing_held (ready_then d h) is = absurd (let never : ◌≡◌ {A = ℕ} 0 1 = cc in omega arith)

module _ {b : Book} (formed : WellFormed b) {powers : Powers} (known : PowersOf b.node powers) where
  -- behind the record of a node that takes an event
  ready_behind : (due : Due) (held : List ℕ) (n given : ℕ) → stands powers n given ≡ true → Productives b.node (kept due held)
      → IsReady b.node (behind b.node due held given)
  ready_behind due held n given e h =
      let t = both (eqb given n) (powers.takes n) e in
      let d = (known.takes_is n).0 t.1 in
      rw (eqb-true given n t.0, small_behind b.node due held (first_small formed d.1)) (ready_opened d.1 h)

  -- behind an empty record
  ready_lapsed : (due : Due) (held : List ℕ) (n given : ℕ) → blank powers n given ≡ true → IsReady b.node (lapsed due held)
      → IsReady b.node (behind b.node due held given)
  ready_lapsed due held n given e h =
      let t = both (eqb given (emptied n)) (powers.null n) e in
      rw (eqb-true given (emptied n) t.0, emptied-behind b.node due held n) h

  pub ready_then_on : {due : Due} {held : List ℕ} (given : ℕ) → Ready b.node due held → allows powers due given ≡ true
      → IsReady b.node (behind b.node due held given)
  unfolding allows kept lapsed
  ready_then_on given ready_nothing e = never e
  ready_then_on given (ready_part {n} {held} p h) e = go (or_cases (stands powers n given) (blank powers n given) e)
    where
      go : (stands powers n given ≡ true) ⊎ (blank powers n given ≡ true) → IsReady b.node (behind b.node (Part n) held given)
      go (inl t) = ready_behind (Part n) held n given t h
      go (inr t) = ready_lapsed (Part n) held n given t (ready_next h)
  ready_then_on given (ready_taking {n} {held = held} d h) e = ready_behind (Taking n) held n given e h
  ready_then_on given (ready_either {l} {r} {held = held} d h) e = go (or_cases (stands powers l given) (stands powers r given) e)
    where
      go : (stands powers l given ≡ true) ⊎ (stands powers r given ≡ true) → IsReady b.node (behind b.node (OneOf l r) held given)
      go (inl t) = ready_behind (OneOf l r) held l given t h
      go (inr t) = ready_behind (OneOf l r) held r given t h
  ready_then_on given (ready_then {l} {r} {held = held} d h) e =
      go (or_cases (stands powers l given) (blank powers l given && powers.takes r) e)
    where
      go : (stands powers l given ≡ true) ⊎ ((blank powers l given && powers.takes r) ≡ true)
          → IsReady b.node (behind b.node (Both l r) held given)
      go (inl t) = ready_behind (Both l r) held l given t (one_held (then_right_productive d) h)
      go (inr t) =
          let q = both (blank powers l given) (powers.takes r) t in
          ready_lapsed (Both l r) held l given q.0 (ready_taking ((known.takes_is r).0 q.1).1 h)
