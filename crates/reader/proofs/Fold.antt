-- Reading is the fold of the step: the events one after the other, then the end. A refusal is met after the events before it.
use mathlib.Core.Path.{◌≡◌, refl, sym, ap, ◌∙◌}
use mathlib.Core.Bool.{Bool, true, false, cond}
use mathlib.Core.List.{List, [], ◌∷◌, ◌++◌, append_assoc}
use Prim.Native.Nat.{ℕ, suc, ◌+◌, ◌≤◌}
use native.Mathlib.Omega.{arith}
use lib.Dec.{ltb}
use lib.ListN.{length, take}
use Rattle.running.specs.Running.{Plan, StepOf, taken, refused, AnswerOf, accepted, stopped, logged, onward, UNKNOWN}
use Rattle.running.specs.Stages.{Part, part, staged_event, staged_reads, staged_reading}
use Rattle.reader.specs.Steps.{Progress, going, over, advanced, step, steps, closed, begun}

-- records written in two turns
pub logged-logged : (records more : List ℕ) (answer : AnswerOf Part) → logged records (logged more answer) ≡ logged (records ++ more) answer
unfolding logged
logged-logged records more (accepted rest) = ap accepted (sym (append_assoc records more rest))
logged-logged records more (stopped number place held) = refl

-- no records written
logged_none : (answer : AnswerOf Part) → logged [] answer ≡ answer
unfolding logged
logged_none (accepted rest) = refl
logged_none (stopped number place held) = refl

module _ (p : Plan) (free : ℕ → Bool) where
  -- a reading that is over stays so
  pub over_stays : (answer : AnswerOf Part) (run : List ℕ) → steps p free (over answer) run ≡ over answer
  unfolding steps step
  over_stays answer [] = refl
  over_stays answer (k ∷ run) = over_stays answer run

  -- where it has stopped, the events left change nothing
  ends : (written run : List ℕ) (number at : ℕ) (held : List Part)
      → logged written (stopped number at held) ≡ closed p (steps p free (over (stopped number at held)) run)
  unfolding closed logged
  ends written run number at held = sym (ap (closed p) (over_stays (stopped number at held) run))

  module _ (run : List ℕ) (at : ℕ) (held : List Part) (written : List ℕ)
      (rest : (h : List Part) (w : List ℕ) → logged w (staged_reads p free (suc at) h run) ≡ closed p (steps p free (going (suc at) h w) run)) where
    onward-steps : (s : StepOf Part)
        → logged written (onward s (λ h. staged_reads p free (suc at) h run) at held) ≡ closed p (steps p free (advanced s at held written) run)
    unfolding onward advanced
    onward-steps (taken h records) = logged-logged written records (staged_reads p free (suc at) h run) ∙ rest h (written ++ records)
    onward-steps (refused number) = ends written run number at held

    known_steps : (known : Bool) (s : StepOf Part)
        → logged written (cond known (onward s (λ h. staged_reads p free (suc at) h run) at held) (stopped UNKNOWN at held))
        ≡ closed p (steps p free (cond known (advanced s at held written) (over (stopped UNKNOWN at held))) run)
    known_steps true s = onward-steps s
    known_steps false s = ends written run UNKNOWN at held

  -- a run from a place on, after records
  pub reads_steps : (run : List ℕ) (at : ℕ) (held : List Part) (written : List ℕ)
      → logged written (staged_reads p free at held run) ≡ closed p (steps p free (going at held written) run)
  unfolding staged_reads steps step closed
  reads_steps [] at held written = refl
  reads_steps (k ∷ run) at held written =
      known_steps run at held written (λ h w. reads_steps run (suc at) h w) (ltb k p.kinds) (staged_event p free k held)

  -- a whole reading
  pub reading_steps : (run : List ℕ) → staged_reading p free run ≡ closed p (steps p free (begun p) run)
  unfolding staged_reading
  reading_steps run = sym (logged_none (staged_reads p free 0 (part p.start 0 ∷ []) run)) ∙ reads_steps run 0 (part p.start 0 ∷ []) []

-- the events before a refusal: a reading that is over has taken the events before the place of the refusal
module _ (p : Plan) (free : ℕ → Bool) where
  pub data Halted (at : ℕ) (held : List Part) (written run : List ℕ) : Progress → Type 0 where
    halted_not : {place : ℕ} {after : List Part} {records : List ℕ} → place ≡ at + length run → Halted at held written run (going place after records)
    halted_at : {number place : ℕ} {before : List Part} (i : ℕ) (records : List ℕ) → place ≡ at + i → i ≤ length run
        → steps p free (going at held written) (take i run) ≡ going place before records
        → Halted at held written run (over (stopped number place before))

  module _ (k at : ℕ) (held : List Part) (written run : List ℕ)
      (rest : (h : List Part) (w : List ℕ) → Halted (suc at) h w run (steps p free (going (suc at) h w) run)) where
    -- refused here
    halted_here : (number : ℕ) → Halted at held written (k ∷ run) (steps p free (over (stopped number at held)) run)
    unfolding steps
    halted_here number =
        rw (over_stays p free (stopped number at held) run) (halted_at {place = at} 0 written (omega arith) (omega arith) refl)

    -- or later
    halted_later : {q : Progress} {h : List Part} {w : List ℕ} → step p free (going at held written) k ≡ going (suc at) h w → Halted (suc at) h w run q
        → Halted at held written (k ∷ run) q
    unfolding steps
    halted_later taken-so (halted_not {place} is) = halted_not {place = place} (omega arith)
    halted_later taken-so (halted_at {place = place} {before} i records is within front) =
        halted_at {place = place} {before = before} (suc i) records (omega arith) (omega arith)
        (ap (λ (q : Progress). steps p free q (take i run)) taken-so ∙ front)

    halted_event : (s : StepOf Part) → step p free (going at held written) k ≡ advanced s at held written
        → Halted at held written (k ∷ run) (steps p free (advanced s at held written) run)
    unfolding advanced
    halted_event (taken h records) is = halted_later is (rest h (written ++ records))
    halted_event (refused number) is = halted_here number

    halted_kind : (known : Bool) → ltb k p.kinds ≡ known
        → Halted at held written (k ∷ run)
        (steps p free (cond known (advanced (staged_event p free k held) at held written) (over (stopped UNKNOWN at held))) run)
    unfolding step
    halted_kind true is = halted_event (staged_event p free k held) (rw is)
    halted_kind false is = halted_here UNKNOWN

  pub steps_halted : (run : List ℕ) (at : ℕ) (held : List Part) (written : List ℕ)
      → Halted at held written run (steps p free (going at held written) run)
  unfolding steps step
  steps_halted [] at held written = halted_not {place = at} (omega arith)
  steps_halted (k ∷ run) at held written =
      halted_kind k at held written run (λ h w. steps_halted run (suc at) h w) (ltb k p.kinds) refl
