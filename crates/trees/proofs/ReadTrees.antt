-- Records are read to the end, with nothing due there, exactly if they are a tree, and its run are their events.
use Prim.Native.Nat.{ℕ, suc, ◌<◌}
use native.Mathlib.Omega.{arith}
use mathlib.Core.Path.{◌≡◌, refl, sym, ap, ◌∙◌}
use mathlib.Core.Bool.{Bool, true, false}
use mathlib.Core.List.{List, [], ◌∷◌, ◌++◌}
use lib.ListN.{length, take, get_or}
use lib.Seq.{take-suc}
use Rattle.book.specs.Book.{Book, WellFormed}
use Rattle.book.specs.declared.Node.{Node}
use Rattle.meaning.specs.Meaning.{Accepts}
use Rattle.meaning.proofs.Parts.{Held, held_none, held_some, derives_held, held_derives}
use Rattle.meaning.proofs.Walk.{Taken}
use Rattle.trees.specs.declared.Due.{Due}
use Rattle.trees.specs.declared.Due.TheVariants.{Nothing, Part}
use Rattle.trees.specs.Trees.{events, events_at}
use Rattle.trees.specs.Machine.{Powers, PowersOf, State, state, allows, behind, Next, goes, stops, step, onward, reads, read_tree}
use Rattle.trees.proofs.Owed.{Owed, owed_nothing, owed_part, owed_taking, owed_left, owed_right, owed_hold, owed_skip, Owes, taken_follow}
use Rattle.trees.proofs.Steps.{step_sound, step_complete}

-- nothing is due
abbrev pub whole : State
whole = state Nothing []

pub clash : {s : State} → stops ≡ goes s → ⊥
clash is = let never : ◌≡◌ {A = ℕ} 0 1 = cc in omega arith

goes_once : {s t : State} → goes s ≡ goes t → s ≡ t
goes_once is = cc

-- ---- records after records

pub reads_append : (node : ℕ → Node) (powers : Powers) (s : State) (xs ys : List ℕ)
    → reads node powers s (xs ++ ys) ≡ onward node powers (reads node powers s xs) (λ t. reads node powers t ys)
unfolding reads onward
reads_append node powers s [] ys = refl
reads_append node powers s (x ∷ xs) ys = go (step node powers s x) refl (λ t. reads_append node powers t xs ys)
  where
    go : (next : Next) → step node powers s x ≡ next
        → ((t : State) → reads node powers t (xs ++ ys) ≡ onward node powers (reads node powers t xs) (λ u. reads node powers u ys))
        → reads node powers s (x ∷ xs ++ ys) ≡ onward node powers (reads node powers s (x ∷ xs)) (λ u. reads node powers u ys)
    go (goes t) e ih = rw e (ih t)
    go stops e ih = rw e

-- one record more
module _ (b : Book) (powers : Powers) where
  alone : (next : Next) → onward b.node powers next (λ t. goes t) ≡ next
  unfolding onward
  alone (goes t) = refl
  alone stops = refl

  more : (records : List ℕ) (i : ℕ) → i < length records
      → read_tree b powers (take (suc i) records)
      ≡ onward b.node powers (read_tree b powers (take i records)) (λ s. step b.node powers s (get_or records i 0))
  unfolding read_tree reads
  more records i below =
      rw (take-suc records i 0 below)
      (reads_append b.node powers (state (Part b.start) []) (take i records) (get_or records i 0 ∷ [])
      ∙ ap (onward b.node powers (reads b.node powers (state (Part b.start) []) (take i records)))
      (λ j s. alone (step b.node powers s (get_or records i 0)) j))

  pub read_more : (records : List ℕ) (i : ℕ) {s : State} → i < length records → read_tree b powers (take i records) ≡ goes s
      → read_tree b powers (take (suc i) records) ≡ step b.node powers s (get_or records i 0)
  unfolding onward
  read_more records i below is = more records i below ∙ rw is

  pub read_on : (records : List ℕ) (i : ℕ) {s : State} → i < length records → read_tree b powers (take i records) ≡ goes s
      → allows powers s.due (get_or records i 0) ≡ true
      → read_tree b powers (take (suc i) records) ≡ goes (behind b.node s.due s.held (get_or records i 0))
  unfolding step
  read_on records i below is may = read_more records i below is ∙ rw may

  -- and one record less
  pub record Before (records : List ℕ) (i : ℕ) (s : State) : Type 0 where
    pub stood : State
    pub reads_to : read_tree b powers (take i records) ≡ goes stood
    pub allowed : allows powers stood.due (get_or records i 0) ≡ true
    pub stepped : s ≡ behind b.node stood.due stood.held (get_or records i 0)

  pub read_before : (records : List ℕ) (i : ℕ) {s : State} → i < length records → read_tree b powers (take (suc i) records) ≡ goes s
      → Before records i s
  unfolding onward step
  read_before records i {s} below is = go (read_tree b powers (take i records)) refl
    where
      by : (t : State) (test : Bool) → allows powers t.due (get_or records i 0) ≡ test → read_tree b powers (take i records) ≡ goes t
          → Before records i s
      by t true e r =
          let q : goes s ≡ goes (behind b.node t.due t.held (get_or records i 0)) = sym is ∙ read_more records i below r ∙ rw e in
          record { stood = t; reads_to = r; allowed = e; stepped = goes_once q }
      by t false e r = absurd (clash (sym (sym is ∙ read_more records i below r ∙ rw e)))

      go : (next : Next) → read_tree b powers (take i records) ≡ next → Before records i s
      go (goes t) r = by t (allows powers t.due (get_or records i 0)) refl r
      go stops r = absurd (clash (sym (sym is ∙ more records i below ∙ rw r)))

-- ---- what is due where no record is left

no_records : {node : ℕ → Node} {n k : ℕ} {top : Node} {held zs ps : List ℕ} → Taken node n top k held zs ps → ps ≡ [] → ⊥
no_records t is = let f = taken_follow t in let e = sym is ∙ f.records_are in let never : ◌≡◌ {A = ℕ} 0 1 = cc in omega arith

no_empty_record : {given : ℕ} {ps : List ℕ} → (given ∷ ps) ≡ [] → ⊥
no_empty_record is = let never : ◌≡◌ {A = ℕ} 0 1 = cc in omega arith

owed_no_records : {node : ℕ → Node} {due : Due} {held zs ps : List ℕ} → Owed node due held zs ps → ps ≡ []
    → (state due held ≡ whole) × (zs ≡ [])
owed_no_records owed_nothing is = (refl, refl)
owed_no_records (owed_part (held_none a h)) is = absurd (no_empty_record is)
owed_no_records (owed_part (held_some p h)) is = absurd (no_records (record { rest = _; others = _; part = p; behind = h }) is)
owed_no_records (owed_taking t) is = absurd (no_records t is)
owed_no_records (owed_left t) is = absurd (no_records t is)
owed_no_records (owed_right t) is = absurd (no_records t is)
owed_no_records (owed_hold t) is = absurd (no_records t is)
owed_no_records (owed_skip a t) is = absurd (no_empty_record is)

module _ {b : Book} (formed : WellFormed b) {powers : Powers} (known : PowersOf b.node powers) where
  pub reads_owes : (records : List ℕ) (s : State) → reads b.node powers s records ≡ goes whole
      → Owes b.node s (events b.node records) records
  unfolding reads onward step events
  reads_owes [] s is = rw (goes_once is) owed_nothing
  reads_owes (given ∷ more) s is = go (allows powers s.due given) refl (λ t. reads_owes more t)
    where
      go : (t : Bool) → allows powers s.due given ≡ t
          → ((t : State) → reads b.node powers t more ≡ goes whole → Owes b.node t (events b.node more) more)
          → Owes b.node s (events_at b.node given ++ events b.node more) (given ∷ more)
      go true e ih =
          step_sound formed known s.due s.held given e (ih (behind b.node s.due s.held given) (rw e at is))
      go false e ih = absurd (clash (rw e at is))

  pub owes_reads : (records : List ℕ) (s : State) {zs : List ℕ} → Owes b.node s zs records
      → (reads b.node powers s records ≡ goes whole) × (zs ≡ events b.node records)
  unfolding reads onward step events
  owes_reads [] s o = let e = owed_no_records o refl in (ap goes e.0, e.1)
  owes_reads (given ∷ more) s o =
      let t = step_complete formed known o refl in
      let ih = owes_reads more (behind b.node s.due s.held given) t.owes in
      (rw t.allowed ih.0, t.run_is ∙ ap (λ (x : List ℕ). events_at b.node given ++ x) ih.1)

  -- ---- trees

  accepts_held : {xs records : List ℕ} → Accepts b xs records → Held b.node (b.start ∷ []) xs records
  accepts_held a = rw a.records_are (derives_held a.derivation)

  -- a tree is read, and its run are its events
  pub tree_is_read : {xs records : List ℕ} → Accepts b xs records
      → (read_tree b powers records ≡ goes whole) × (xs ≡ events b.node records)
  unfolding read_tree
  tree_is_read {xs} {records} a = owes_reads records (state (Part b.start) []) (owed_part (accepts_held a))

  -- what is read is a tree
  pub read_is_a_tree : (records : List ℕ) → read_tree b powers records ≡ goes whole → Accepts b (events b.node records) records
  unfolding read_tree
  read_is_a_tree records is = go (reads_owes records (state (Part b.start) []) is)
    where
      go : Owed b.node (Part b.start) [] (events b.node records) records → Accepts b (events b.node records) records
      go (owed_part h) = let d = held_derives h in record { derivation = d.0; records_are = d.1 }
