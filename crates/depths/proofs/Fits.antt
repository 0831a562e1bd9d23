-- Slots that no way from the start outweighs are enough: an event on parts held behind a beginning comes to what it comes to without a
-- limit, and so does a reading.
use Prim.Native.Nat.{ℕ, zero, suc, ◌≤◌, ◌<◌}
use native.Mathlib.Omega.{arith}
use mathlib.Core.Path.{◌≡◌, refl, ap, ◌∙◌}
use mathlib.Core.Bool.{Bool, true, false, cond}
use mathlib.Core.List.{List, [], ◌∷◌}
use lib.Dec.{ltb}
use lib.ListN.{length}
use borrow.Author.Tests.{ltb-false}
use Rattle.book.specs.Book.{Book}
use Rattle.book.specs.declared.Node.{Node}
use Rattle.grammar.specs.Passing.{Passes}
use Rattle.running.specs.Running.{Plan, Move, refuse, take_event, go_left, hold_right, skip_left, go_right, move_of}
use Rattle.running.specs.Running.{with_slots, unlimited, DEEP}
use Rattle.running.specs.Running.{Step, taken, refused, emptied, noted, visit, take_off, walk, event}
use Rattle.running.specs.Running.{Answer, stopped, UNKNOWN, logged, onward, reads, reading}
use Rattle.running.specs.Cells.{Marks, Marked, plan_for}
use Rattle.meaning.proofs.Walk.{after, recorded}
use Rattle.meaning.proofs.Machine.{cell_first, cell_other}
use Rattle.meaning.proofs.Event.{walk_whole}
use Rattle.depths.specs.Ways.{Weighs}
use Rattle.depths.proofs.Upper.{OnWays, ways_end, ways_part, Lands, lands_taken, lands_refused, walk_weighs, event_lands, start_ways}

-- a step with slots beside the same without a limit, which goes on from so many parts: where that takes the event, they are the same
-- unless it leaves more parts than there are slots
data Fits (slots parts : ℕ) : Step → Step → Type 0 where
  fits_same : {then records : List ℕ} → parts ≤ length then → Fits slots parts (taken then records) (taken then records)
  fits_over : {s : Step} {then records : List ℕ} → parts ≤ length then → slots < length then → Fits slots parts s (taken then records)
  fits_refused : {s : Step} {number : ℕ} → Fits slots parts s (refused number)

module _ {slots : ℕ} where
  fits_noted : {parts : ℕ} (r : ℕ) {s t : Step} → Fits slots parts s t → Fits slots parts (noted r s) (noted r t)
  unfolding noted
  fits_noted r (fits_same {then} most) = fits_same {then = then} most
  fits_noted r (fits_over {then = then} most over) = fits_over {then = then} most over
  fits_noted r fits_refused = fits_refused

  fits_less : {less parts : ℕ} {s t : Step} → less ≤ parts → Fits slots parts s t → Fits slots less s t
  fits_less h (fits_same {then} most) = fits_same {then = then} (omega arith)
  fits_less h (fits_over {then = then} most over) = fits_over {then = then} (omega arith) over
  fits_less h fits_refused = fits_refused

  -- where no slot is free the event would leave more parts
  fits_deep : {parts : ℕ} {s t u : Step} → slots ≤ parts → Fits slots (suc parts) s t → Fits slots parts u t
  fits_deep h (fits_same {then} most) = fits_over {then = then} (omega arith) (omega arith)
  fits_deep h (fits_over {then = then} most over) = fits_over {then = then} (omega arith) over
  fits_deep h fits_refused = fits_refused

  visit_fits : (m : Move) (l r : ℕ) (go go' : ℕ → List ℕ → Step) (held : List ℕ)
      → ((m : ℕ) (h : List ℕ) → Fits slots (length h) (go m h) (go' m h))
      → Fits slots (length held) (visit m go (with_slots slots) l r held) (visit m go' unlimited l r held)
  unfolding visit
  visit_fits refuse l r go go' held f = fits_refused
  visit_fits take_event l r go go' held f = fits_same {then = held} (omega arith)
  visit_fits go_left l r go go' held f = f l held
  visit_fits hold_right l r go go' held f = at (ltb (length held) slots) refl
    where
      at : (t : Bool) → ltb (length held) slots ≡ t → Fits slots (length held) (cond t (go l (r ∷ held)) (refused DEEP)) (go' l (r ∷ held))
      at true e = fits_less {parts = suc (length held)} (omega arith) (f l (r ∷ held))
      at false e = fits_deep (ltb-false (length held) slots e) (f l (r ∷ held))
  visit_fits skip_left l r go go' held f = fits_noted (emptied l) (f r held)
  visit_fits go_right l r go go' held f = f r held

  walk_fits : (p : Plan) (k left n : ℕ) (held : List ℕ)
      → Fits slots (length held) (walk p (with_slots slots) k left n held) (walk p unlimited k left n held)
  unfolding walk
  walk_fits p k zero n held = fits_refused
  walk_fits p k (suc left) n held =
      fits_noted n
      (visit_fits (move_of (p.cell n k)) (p.left n) (p.right n) (λ m h. walk p (with_slots slots) k left m h)
      (λ m h. walk p unlimited k left m h)
      held
      (λ m h. walk_fits p k left m h))

  fits_within : {parts : ℕ} {s : Step} {then records : List ℕ} → Fits slots parts s (taken then records) → length then ≤ slots
      → s ≡ taken then records
  fits_within (fits_same most) h = refl
  fits_within (fits_over most over) h = absurd (omega arith)

-- an answer behind an event that leaves parts on ways
onward-same : {node : ℕ → Node} {root : Node} {s : Step} → Lands node root s → (rest rest' : List ℕ → Answer)
    → ((h : List ℕ) → OnWays node root h → rest h ≡ rest' h) → (at : ℕ) (before : List ℕ)
    → onward s rest at before ≡ onward s rest' at before
unfolding onward
onward-same (lands_taken {then} {records} on way) rest rest' same at before = ap (logged records) (same then on)
onward-same lands_refused rest rest' same at before = refl

module _ {b : Book} (passes : Passes b) (marks : Marks) (marked : Marked b.node marks) {root : Node} (slots : ℕ)
    (enough : (w : ℕ) → Weighs b.node root w → w ≤ slots) where
  -- an event on parts on ways
  pub event_same : (k : ℕ) {held : List ℕ} → OnWays b.node root held
      → event (plan_for b marks) (with_slots slots) k held ≡ event (plan_for b marks) unlimited k held
  unfolding event take_off
  event_same k ways_end = refl
  event_same k (ways_part {n} {held} leads on) = go (marks.first n k) refl (marks.null n) refl (event_same k on)
    where
      go : (t : Bool) → marks.first n k ≡ t → (u : Bool) → marks.null n ≡ u
          → event (plan_for b marks) (with_slots slots) k held ≡ event (plan_for b marks) unlimited k held
          → event (plan_for b marks) (with_slots slots) k (n ∷ held) ≡ event (plan_for b marks) unlimited k (n ∷ held)
      go true e u f under =
          let d = (marked.first_is n k).0 e in
          let c = cell_first b marks marked k refl d in
          let w = walk_whole passes marks marked k d held in
          let v : walk (plan_for b marks) (with_slots slots) k b.count n held ≡ taken (after d held) (recorded n d) =
          fits_within (rw w at (walk_fits {slots = slots} (plan_for b marks) k b.count n held)) (enough _ (walk_weighs d held leads)) in
          rw (c, w, v) refl
      go false e true f under =
          let c = cell_other b marks marked k n (b.node n) e in
          rw (c, f) (ap (noted (emptied n)) under)
      go false e false f under =
          let c = cell_other b marks marked k n (b.node n) e in
          rw (c, f) refl

  reads_same : (xs : List ℕ) (at : ℕ) (held : List ℕ) → OnWays b.node root held
      → reads (plan_for b marks) (with_slots slots) at held xs ≡ reads (plan_for b marks) unlimited at held xs
  unfolding reads
  reads_same [] at held on = refl
  reads_same (k ∷ xs) at held on =
      ap (λ (a : Answer). cond (ltb k b.kinds) a (stopped UNKNOWN at held))
      (ap (λ (s : Step). onward s (λ h. reads (plan_for b marks) (with_slots slots) (suc at) h xs) at held) (event_same k on)
      ∙ onward-same (event_lands passes marks marked k on) _ _ (λ h there. reads_same xs (suc at) h there) at held)

-- a reading with slots that no way from the start outweighs is one without a limit
pub reading_same : {b : Book} → Passes b → (marks : Marks) → Marked b.node marks → (slots : ℕ)
    → ((w : ℕ) → Weighs b.node (b.node b.start) w → w ≤ slots) → (xs : List ℕ)
    → reading (plan_for b marks) (with_slots slots) xs ≡ reading (plan_for b marks) unlimited xs
unfolding reading
reading_same {b} passes marks marked slots enough xs = reads_same passes marks marked slots enough xs 0 (b.start ∷ []) (start_ways b)
