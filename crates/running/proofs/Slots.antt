-- Slots enough: with as many as the node count less two for each event, and two, a reading is never DEEP. Of any plan, forged or not.
use Prim.Native.Nat.{ℕ, zero, suc, ◌+◌, ◌*◌, ◌-◌, ◌≤◌, ◌<◌}
use native.Mathlib.Omega.{arith}
use mathlib.Core.Path.{◌≡◌, refl, sym, ap, ◌∙◌}
use mathlib.Core.Bool.{Bool, true, false, cond}
use mathlib.Core.List.{List, [], ◌∷◌}
use mathlib.Core.Logic.{◌⊎◌, inl, inr, ⊎_elim, ◌≢◌}
use lib.Dec.{ltb, eqb}
use lib.ListN.{length}
use borrow.Author.Tests.{lt-ltb, ltb-true}
use Rattle.running.specs.Running.{Plan, Move, refuse, take_event, go_left, hold_right, skip_left, go_right, move_of, with_slots, unlimited}
use Rattle.running.specs.Running.{DEEP, UNEXPECTED, RUNAWAY, Step, taken, refused, emptied, noted, visit, take_off, walk, event}
use Rattle.running.specs.Running.{Answer, accepted, stopped, logged, onward, finish, reads, reading}
use Rattle.running.specs.Stages.{Part, staged_reading, nodes_of, bare_answer}
use Rattle.running.proofs.Limits.{free_answers}
use Rattle.running.proofs.Stages.{reading_bare}

-- a step that is not DEEP, and holds fewer parts than a bound if the event is taken
data Shallow (bound : ℕ) : Step → Type 0 where
  shallow_taken : {held records : List ℕ} → length held < bound → Shallow bound (taken held records)
  shallow_refused : {number : ℕ} → number ≢ DEEP → Shallow bound (refused number)

-- an answer that is not DEEP
data Undeep : Answer → Type 0 where
  undeep_accepted : {records : List ℕ} → Undeep (accepted records)
  undeep_stopped : {number place : ℕ} {held : List ℕ} → number ≢ DEEP → Undeep (stopped number place held)

shallow_more : {bound more : ℕ} {s : Step} → bound ≤ more → Shallow bound s → Shallow more s
shallow_more h (shallow_taken {held} g) = shallow_taken {held = held} (omega arith)
shallow_more h (shallow_refused other) = shallow_refused other

noted_shallow : (r : ℕ) {bound : ℕ} {s : Step} → Shallow bound s → Shallow bound (noted r s)
unfolding noted
noted_shallow r (shallow_taken g) = shallow_taken g
noted_shallow r (shallow_refused other) = shallow_refused other

take_off_shallow : (cell : ℕ) (null : Bool) {bound : ℕ} {walked passed : Step} → Shallow bound walked → Shallow bound passed
    → Shallow bound (take_off cell null walked passed)
unfolding take_off
take_off_shallow cell null {bound} {walked} {passed} h g = go (eqb cell 0) null
  where
    go : (none null : Bool) → Shallow bound (cond none (cond null passed (refused UNEXPECTED)) walked)
    go true true = g
    go true false = shallow_refused {number = UNEXPECTED} (omega arith)
    go false null = h

logged_undeep : (rs : List ℕ) {a : Answer} → Undeep a → Undeep (logged rs a)
unfolding logged
logged_undeep rs undeep_accepted = undeep_accepted
logged_undeep rs (undeep_stopped other) = undeep_stopped other

cond_undeep : (t : Bool) {a c : Answer} → Undeep a → Undeep c → Undeep (cond t a c)
cond_undeep true h g = h
cond_undeep false h g = g

onward_undeep : (at : ℕ) (before : List ℕ) (rest : List ℕ → Answer) {bound : ℕ} {s : Step} → Shallow bound s
    → ((h : List ℕ) → length h < bound → Undeep (rest h)) → Undeep (onward s rest at before)
unfolding onward
onward_undeep at before rest (shallow_taken {held} {records} g) f = logged_undeep records (f held g)
onward_undeep at before rest (shallow_refused other) f = undeep_stopped other

module _ (p : Plan) (slots : ℕ) where
  visit_shallow : (m : Move) (left l r : ℕ) (go : ℕ → List ℕ → Step) (held : List ℕ) → length held + suc left ≤ slots
      → ((m : ℕ) (h : List ℕ) → length h + left ≤ slots → Shallow (length h + left) (go m h))
      → Shallow (length held + suc left) (visit m go (with_slots slots) l r held)
  unfolding visit
  visit_shallow refuse left l r go held h f = shallow_refused {number = UNEXPECTED} (omega arith)
  visit_shallow take_event left l r go held h f = shallow_taken {held = held} (omega arith)
  visit_shallow go_left left l r go held h f = shallow_more {bound = length held + left} (omega arith) (f l held (omega arith))
  visit_shallow hold_right left l r go held h f =
      rw (lt-ltb (length held) slots (omega arith)) (shallow_more {bound = suc (length held) + left} (omega arith) (f l (r ∷ held) (omega arith)))
  visit_shallow skip_left left l r go held h f =
      noted_shallow (emptied l) (shallow_more {bound = length held + left} (omega arith) (f r held (omega arith)))
  visit_shallow go_right left l r go held h f = shallow_more {bound = length held + left} (omega arith) (f r held (omega arith))

  walk_shallow : (k left n : ℕ) (held : List ℕ) → length held + left ≤ slots → Shallow (length held + left) (walk p (with_slots slots) k left n held)
  unfolding walk
  walk_shallow k zero n held h = shallow_refused {number = RUNAWAY} (omega arith)
  walk_shallow k (suc left) n held h =
      noted_shallow n
      (visit_shallow (move_of (p.cell n k)) left (p.left n) (p.right n) (λ m g. walk p (with_slots slots) k left m g) held h (λ m g q. walk_shallow k left m g q))

  -- the node count less two
  abbrev held_gain : ℕ
  held_gain = p.count - 2

  event_shallow : (k : ℕ) (held : List ℕ) → length held + p.count ≤ suc slots
      → Shallow (suc (length held + held_gain)) (event p (with_slots slots) k held)
  unfolding event
  event_shallow k [] h = shallow_refused {number = UNEXPECTED} (omega arith)
  event_shallow k (n ∷ held) h =
      take_off_shallow (p.cell n k) (p.null n)
      (shallow_more {bound = length held + p.count} (omega arith) (walk_shallow k p.count n held (omega arith)))
      (noted_shallow (emptied n) (shallow_more {bound = suc (length held + held_gain)} (omega arith) (event_shallow k held (omega arith))))

  finish_undeep : (at : ℕ) (before held : List ℕ) → Undeep (finish p at before held)
  unfolding finish
  finish_undeep at before [] = undeep_accepted
  finish_undeep at before (n ∷ held) = cond_undeep (p.null n) (logged_undeep (emptied n ∷ []) (finish_undeep at before held)) (undeep_stopped (omega arith))

  reads_undeep : (xs : List ℕ) (at : ℕ) (held : List ℕ) → length held + held_gain * length xs + 1 ≤ slots
      → Undeep (reads p (with_slots slots) at held xs)
  unfolding reads
  reads_undeep [] at held h = finish_undeep at held held
  reads_undeep (k ∷ xs) at held h =
      cond_undeep (ltb k p.kinds)
      (onward_undeep at held (λ g. reads p (with_slots slots) (suc at) g xs) (event_shallow k held (omega arith))
      (λ g q. reads_undeep xs (suc at) g (omega arith)))
      (undeep_stopped (omega arith))

  -- slots enough: never DEEP
  pub slots_enough_lem : (xs : List ℕ) (i : ℕ) (held : List ℕ) → (p.count - 2) * length xs + 2 ≤ slots
      → reading p (with_slots slots) xs ≡ stopped DEEP i held → ⊥
  unfolding reading
  slots_enough_lem xs i held h e = go (rw e at (reads_undeep xs 0 (p.start ∷ []) (omega arith)))
    where
      go : Undeep (stopped DEEP i held) → ⊥
      go (undeep_stopped other) = other refl

module _ (p : Plan) (xs : List ℕ) where
  -- with some slots the answer is DEEP or the free machine's
  pub slots_answer : (slots : ℕ)
      → ((i : ℕ) × (held : List ℕ) × (reading p (with_slots slots) xs ≡ stopped DEEP i held)) ⊎ (reading p (with_slots slots) xs ≡ reading p unlimited xs)
  unfolding bare_answer
  slots_answer slots =
      let bare = reading_bare p (with_slots slots) xs in
      ⊎_elim (λ d. inl (d.0, nodes_of d.1, sym bare ∙ ap bare_answer d.2))
      (λ e. inr (sym bare ∙ ap bare_answer e ∙ reading_bare p unlimited xs))
      (free_answers p (with_slots slots) unlimited (λ n h. refl) xs)

  -- with enough it is the free machine's
  pub slots_free : (slots : ℕ) → (p.count - 2) * length xs + 2 ≤ slots → reading p (with_slots slots) xs ≡ reading p unlimited xs
  slots_free slots h = ⊎_elim (λ d. absurd (slots_enough_lem p slots xs d.0 d.1 h d.2)) (λ e. e) (slots_answer slots)

  -- an answer other than DEEP is the same with more, the labels of the parts held too
  pub more_slots : (slots more : ℕ) → slots ≤ more
      → ((i : ℕ) (held : List Part) → staged_reading p (with_slots slots) xs ≡ stopped DEEP i held → ⊥)
      → staged_reading p (with_slots slots) xs ≡ staged_reading p (with_slots more) xs
  more_slots slots more h f =
      ⊎_elim (λ d. absurd (f d.0 d.1 d.2)) (λ e. e)
      (free_answers p (with_slots slots) (with_slots more) (λ n t. let g = ltb-true n slots t in lt-ltb n more (omega arith)) xs)
