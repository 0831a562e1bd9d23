-- With the labels mapped away, running a plan with labels is running it without: step by step, so trees, places and counts stay.
use Prim.Native.Nat.{ℕ, zero, suc}
use native.Mathlib.Omega.{arith}
use mathlib.Core.Path.{◌≡◌, refl, ap, ◌∙◌}
use mathlib.Core.Bool.{Bool, true, false, cond}
use mathlib.Core.List.{List, [], ◌∷◌}
use lib.Dec.{ltb, eqb}
use lib.ListN.{length, length-map}
use Rattle.running.specs.Running.{Plan, Move, refuse, take_event, go_left, hold_right, skip_left, go_right, move_of, emptied}
use Rattle.running.specs.Running.{StepOf, taken, refused, AnswerOf, accepted, stopped, Step, Answer, DEEP, UNKNOWN, UNEXPECTED, END}
use Rattle.running.specs.Running.{noted, visit, take_off, walk, event, logged, onward, finish, reads, reading}
use Rattle.running.specs.Stages.{Part, part, inside, staged_visit, staged_walk, staged_event, staged_finish, staged_reads, staged_reading}
use Rattle.running.specs.Stages.{nodes_of, bare_step, bare_answer}

-- a record more, a test
noted-bare : (r : ℕ) (s : StepOf Part) → bare_step (noted r s) ≡ noted r (bare_step s)
unfolding noted bare_step
noted-bare r (taken held records) = refl
noted-bare r (refused number) = refl

logged-bare : (records : List ℕ) (a : AnswerOf Part) → bare_answer (logged records a) ≡ logged records (bare_answer a)
unfolding logged bare_answer
logged-bare records (accepted more) = refl
logged-bare records (stopped number place held) = refl

test_bare : (b : Bool) (s t : StepOf Part) → bare_step (cond b s t) ≡ cond b (bare_step s) (bare_step t)
test_bare true s t = refl
test_bare false s t = refl

test_answer : (b : Bool) (a c : AnswerOf Part) → bare_answer (cond b a c) ≡ cond b (bare_answer a) (bare_answer c)
test_answer true a c = refl
test_answer false a c = refl

pub nodes_length : (held : List Part) → length (nodes_of held) ≡ length held
nodes_length held = length-map held (λ (q : Part). q.node)

-- a visit, by how the walk goes on
module _ (go : ℕ → List ℕ → Step) (staged : ℕ → List Part → StepOf Part)
    (same : (n : ℕ) (held : List Part) → bare_step (staged n held) ≡ go n (nodes_of held)) where
  visit-bare : (m : Move) (free : ℕ → Bool) (label l r : ℕ) (held : List Part)
      → bare_step (staged_visit m staged free label l r held) ≡ visit m go free l r (nodes_of held)
  unfolding visit staged_visit bare_step
  visit-bare refuse free label l r held = refl
  visit-bare take_event free label l r held = refl
  visit-bare go_left free label l r held = same l held
  visit-bare hold_right free label l r held =
      rw (nodes_length held)
      (test_bare (free (length held)) _ _ ∙ ap (λ (s : Step). cond (free (length held)) s (refused DEEP)) (same l (part r label ∷ held)))
  visit-bare skip_left free label l r held = noted-bare (emptied l) (staged r held) ∙ ap (noted (emptied l)) (same r held)
  visit-bare go_right free label l r held = same r held

-- a part taken off
off_bare : (cell : ℕ) (null : Bool) (walked passed : StepOf Part)
    → bare_step (take_off cell null walked passed) ≡ take_off cell null (bare_step walked) (bare_step passed)
unfolding take_off bare_step
off_bare cell null walked passed = by_cell (eqb cell 0) null
  where
    by_cell : (none null : Bool)
        → bare_step (cond none (cond null passed (refused UNEXPECTED)) walked)
        ≡ cond none (cond null (bare_step passed) (refused UNEXPECTED)) (bare_step walked)
    by_cell true true = refl
    by_cell true false = refl
    by_cell false null = refl

module _ (p : Plan) where
  finish_bare : (at : ℕ) (before held : List Part) → bare_answer (staged_finish p at before held) ≡ finish p at (nodes_of before) (nodes_of held)
  unfolding finish staged_finish bare_answer
  finish_bare at before [] = refl
  finish_bare at before (q ∷ held) =
      test_answer (p.null q.node) _ _
      ∙ ap (λ (a : Answer). cond (p.null q.node) a (stopped END at (nodes_of before)))
      (logged-bare (emptied q.node ∷ []) (staged_finish p at before held) ∙ ap (logged (emptied q.node ∷ [])) (finish_bare at before held))

  module _ (free : ℕ → Bool) where
    module _ (k : ℕ) where
      walk_bare : (left n outer : ℕ) (held : List Part)
          → bare_step (staged_walk p free k left n outer held) ≡ walk p free k left n (nodes_of held)
      unfolding walk staged_walk bare_step
      walk_bare zero n outer held = refl
      walk_bare (suc left) n outer held =
          noted-bare n _
          ∙ ap (noted n)
          (visit-bare (λ m h. walk p free k left m h) (λ m h. staged_walk p free k left m (inside (p.tag n) outer) h)
          (λ m h. walk_bare left m (inside (p.tag n) outer) h)
          (move_of (p.cell n k)) free (inside (p.tag n) outer) (p.left n) (p.right n) held)

      -- an event
      pub event_bare : (held : List Part) → bare_step (staged_event p free k held) ≡ event p free k (nodes_of held)
      unfolding event staged_event bare_step
      event_bare [] = refl
      event_bare (q ∷ held) =
          off_bare (p.cell q.node k) (p.null q.node) _ _
          ∙ λ i.
          take_off (p.cell q.node k) (p.null q.node) (walk_bare p.count q.node q.label held i)
          ((noted-bare (emptied q.node) (staged_event p free k held) ∙ ap (noted (emptied q.node)) (event_bare held)) i)

    onward-bare : (s : StepOf Part) (rest : List ℕ → Answer) (staged : List Part → AnswerOf Part)
        → ((held : List Part) → bare_answer (staged held) ≡ rest (nodes_of held)) → (at : ℕ) (before : List Part)
        → bare_answer (onward s staged at before) ≡ onward (bare_step s) rest at (nodes_of before)
    unfolding onward bare_step bare_answer
    onward-bare (taken held records) rest staged same at before = logged-bare records (staged held) ∙ ap (logged records) (same held)
    onward-bare (refused number) rest staged same at before = refl

    reads_bare : (run : List ℕ) (at : ℕ) (held : List Part)
        → bare_answer (staged_reads p free at held run) ≡ reads p free at (nodes_of held) run
    unfolding reads staged_reads bare_answer
    reads_bare [] at held = finish_bare at held held
    reads_bare (k ∷ run) at held =
        test_answer (ltb k p.kinds) _ _
        ∙ ap (λ (a : Answer). cond (ltb k p.kinds) a (stopped UNKNOWN at (nodes_of held)))
        (onward-bare (staged_event p free k held) (λ h. reads p free (suc at) h run) (λ h. staged_reads p free (suc at) h run)
        (λ h. reads_bare run (suc at) h) at held
        ∙ ap (λ (s : Step). onward s (λ h. reads p free (suc at) h run) at (nodes_of held)) (event_bare k held))

    -- a whole run
    pub reading_bare : (run : List ℕ) → bare_answer (staged_reading p free run) ≡ reading p free run
    unfolding reading staged_reading
    reading_bare run = reads_bare run 0 (part p.start 0 ∷ [])

-- an answer that is accepted without labels is accepted with them
pub accepted_with : (a : AnswerOf Part) {records : List ℕ} → bare_answer a ≡ accepted records → a ≡ accepted records
unfolding bare_answer
accepted_with (accepted more) {records} is = let same : more ≡ records = cc in ap accepted same
accepted_with (stopped number place held) is = let never : ◌≡◌ {A = ℕ} 0 1 = cc in absurd (omega arith)
