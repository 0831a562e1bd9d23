-- The numbers of the refusals that a run can meet, of any plan: 11 to 15.
use mathlib.Core.Bool.{Bool, true, false, cond}
use mathlib.Core.List.{List, [], ◌∷◌}
use Prim.Native.Nat.{ℕ, zero, suc, ◌≤◌}
use native.Mathlib.Omega.{arith}
use lib.Dec.{ltb, eqb}
use lib.ListN.{length}
use Rattle.running.specs.Running.{Plan, Move, refuse, take_event, go_left, hold_right, skip_left, go_right, move_of, emptied}
use Rattle.running.specs.Running.{StepOf, taken, refused, noted, take_off, AnswerOf, accepted, stopped, logged, onward}
use Rattle.running.specs.Running.{DEEP, UNKNOWN, UNEXPECTED, END, RUNAWAY}
use Rattle.running.specs.Stages.{Part, part, inside, staged_visit, staged_walk, staged_event, staged_finish, staged_reads, staged_reading}

-- an event is taken, or refused with one of these numbers
pub data Numbered : StepOf Part → Type 0 where
  numbered_taken : {held : List Part} {records : List ℕ} → Numbered (taken held records)
  numbered_refused : (number : ℕ) → DEEP ≤ number → number ≤ RUNAWAY → Numbered (refused number)

-- a run is accepted, or stopped with one of these numbers
pub data AnswerNumbered : AnswerOf Part → Type 0 where
  numbered_accepted : {records : List ℕ} → AnswerNumbered (accepted records)
  numbered_stopped : (number : ℕ) {place : ℕ} {held : List Part} → DEEP ≤ number → number ≤ RUNAWAY
      → AnswerNumbered (stopped number place held)

noted_numbered : {s : StepOf Part} (r : ℕ) → Numbered s → Numbered (noted r s)
unfolding noted
noted_numbered r numbered_taken = numbered_taken
noted_numbered r (numbered_refused number low high) = numbered_refused number low high

logged_numbered : {a : AnswerOf Part} (records : List ℕ) → AnswerNumbered a → AnswerNumbered (logged records a)
unfolding logged
logged_numbered records numbered_accepted = numbered_accepted
logged_numbered records (numbered_stopped number low high) = numbered_stopped number low high

unexpected : Numbered (refused UNEXPECTED)
unexpected = numbered_refused UNEXPECTED (omega arith) (omega arith)

module _ (p : Plan) (free : ℕ → Bool) where
  module _ (k : ℕ) where
    module _ (go : ℕ → List Part → StepOf Part) (goes : (n : ℕ) (held : List Part) → Numbered (go n held)) where
      visit_numbered : (m : Move) (label l r : ℕ) (held : List Part) → Numbered (staged_visit m go free label l r held)
      unfolding staged_visit
      visit_numbered refuse label l r held = unexpected
      visit_numbered take_event label l r held = numbered_taken
      visit_numbered go_left label l r held = goes l held
      visit_numbered hold_right label l r held = by_slot (free (length held))
        where
          by_slot : (slot : Bool) → Numbered (cond slot (go l (part r label ∷ held)) (refused DEEP))
          by_slot true = goes l (part r label ∷ held)
          by_slot false = numbered_refused DEEP (omega arith) (omega arith)
      visit_numbered skip_left label l r held = noted_numbered (emptied l) (goes r held)
      visit_numbered go_right label l r held = goes r held

    walk_numbered : (left n outer : ℕ) (held : List Part) → Numbered (staged_walk p free k left n outer held)
    unfolding staged_walk
    walk_numbered zero n outer held = numbered_refused RUNAWAY (omega arith) (omega arith)
    walk_numbered (suc left) n outer held =
        let label = inside (p.tag n) outer in
        noted_numbered n
        (visit_numbered (λ m h. staged_walk p free k left m label h) (λ m h. walk_numbered left m label h)
        (move_of (p.cell n k)) label (p.left n) (p.right n) held)

    off_numbered : (none null : Bool) {walked passed : StepOf Part} → Numbered walked → Numbered passed
        → Numbered (cond none (cond null passed (refused UNEXPECTED)) walked)
    off_numbered true true walks passes = passes
    off_numbered true false walks passes = unexpected
    off_numbered false null walks passes = walks

    pub event_numbered : (held : List Part) → Numbered (staged_event p free k held)
    unfolding staged_event take_off
    event_numbered [] = unexpected
    event_numbered (q ∷ held) =
        off_numbered (eqb (p.cell q.node k) 0) (p.null q.node) (walk_numbered p.count q.node q.label held)
        (noted_numbered (emptied q.node) (event_numbered held))

  finish_numbered : (at : ℕ) (before held : List Part) → AnswerNumbered (staged_finish p at before held)
  unfolding staged_finish
  finish_numbered at before [] = numbered_accepted
  finish_numbered at before (q ∷ held) = by_null (p.null q.node) (finish_numbered at before held)
    where
      by_null : (null : Bool) {a : AnswerOf Part} → AnswerNumbered a
          → AnswerNumbered (cond null (logged (emptied q.node ∷ []) a) (stopped END at before))
      by_null true rest = logged_numbered (emptied q.node ∷ []) rest
      by_null false rest = numbered_stopped END (omega arith) (omega arith)

  onward_numbered : {s : StepOf Part} (rest : List Part → AnswerOf Part) → ((held : List Part) → AnswerNumbered (rest held)) → (at : ℕ) (before : List Part)
      → Numbered s → AnswerNumbered (onward s rest at before)
  unfolding onward
  onward_numbered rest goes at before (numbered_taken {held} {records}) = logged_numbered records (goes held)
  onward_numbered rest goes at before (numbered_refused number low high) = numbered_stopped number low high

  reads_numbered : (run : List ℕ) (at : ℕ) (held : List Part) → AnswerNumbered (staged_reads p free at held run)
  unfolding staged_reads
  reads_numbered [] at held = finish_numbered at held held
  reads_numbered (k ∷ run) at held =
      by_kind (ltb k p.kinds)
      (onward_numbered (λ h. staged_reads p free (suc at) h run) (λ h. reads_numbered run (suc at) h) at held (event_numbered k held))
    where
      by_kind : (known : Bool) {a : AnswerOf Part} → AnswerNumbered a → AnswerNumbered (cond known a (stopped UNKNOWN at held))
      by_kind true rest = rest
      by_kind false rest = numbered_stopped UNKNOWN (omega arith) (omega arith)

  pub reading_numbered : (run : List ℕ) → AnswerNumbered (staged_reading p free run)
  unfolding staged_reading
  reading_numbered run = reads_numbered run 0 (part p.start 0 ∷ [])
