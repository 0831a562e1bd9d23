-- Stages: running a plan with a label beside each held part, that of the innermost tagged node around it.
use Rattle.std.specs.Prelude.{ℕ, zero, suc, Bool, cond, List, [], ◌∷◌, map, ltb, eqb, length}
use Rattle.running.specs.Running.{Plan, Move, refuse, take_event, go_left, hold_right, skip_left, go_right}
use Rattle.running.specs.Running.{move_of, emptied, StepOf, taken, refused, noted, take_off, AnswerOf, accepted, stopped}
use Rattle.running.specs.Running.{Step, Answer, logged, onward, DEEP, UNKNOWN, UNEXPECTED, END, RUNAWAY}

-- a held part: its node, and the label of the innermost tagged node visited on the way to where it was held, the label
-- of the part that was taken off counting as the outer one; 0 for none
pub record Part : Type 0 where
  pub node : ℕ
  pub label : ℕ

abbrev pub part : ℕ → ℕ → Part
part node label = record { node = node; label = label }

-- the label inside a node, by its tag and the label around it
abbrev pub inside : ℕ → ℕ → ℕ
inside tag outer = cond (eqb tag 0) outer tag

-- what a move does at a node with a label inside it: as without labels, and a part is held with that label
unfoldable pub staged_visit : Move → (ℕ → List Part → StepOf Part) → (ℕ → Bool) → ℕ → ℕ → ℕ → List Part → StepOf Part
staged_visit refuse go free label l r held = refused UNEXPECTED
staged_visit take_event go free label l r held = taken held []
staged_visit go_left go free label l r held = go l held
staged_visit hold_right go free label l r held = cond (free (length held)) (go l (part r label ∷ held)) (refused DEEP)
staged_visit skip_left go free label l r held = noted (emptied l) (go r held)
staged_visit go_right go free label l r held = go r held

module _ (p : Plan) where
  -- the end
  unfoldable pub staged_finish : ℕ → List Part → List Part → AnswerOf Part
  staged_finish at before [] = accepted []
  staged_finish at before (q ∷ held) =
      cond (p.null q.node) (logged (emptied q.node ∷ []) (staged_finish at before held)) (stopped END at before)

  module _ (free : ℕ → Bool) where
    module _ (k : ℕ) where
      -- the walk from a node, with so many visits left and a label around the node
      unfoldable pub staged_walk : ℕ → ℕ → ℕ → List Part → StepOf Part
      staged_walk zero n outer held = refused RUNAWAY
      staged_walk (suc left) n outer held =
          let label = inside (p.tag n) outer in
          noted n
          (staged_visit (move_of (p.cell n k)) (λ m h. staged_walk left m label h) free label (p.left n) (p.right n)
          held)

      -- an event: the part held last is taken off, and its label is around its walk
      unfoldable pub staged_event : List Part → StepOf Part
      staged_event [] = refused UNEXPECTED
      staged_event (q ∷ held) =
          take_off (p.cell q.node k) (p.null q.node) (staged_walk p.count q.node q.label held)
          (noted (emptied q.node) (staged_event held))

    -- a run from a place on, with these parts held
    unfoldable pub staged_reads : ℕ → List Part → List ℕ → AnswerOf Part
    staged_reads at held [] = staged_finish at held held
    staged_reads at held (k ∷ run) =
        cond (ltb k p.kinds) (onward (staged_event k held) (λ h. staged_reads (suc at) h run) at held)
        (stopped UNKNOWN at held)

    -- a whole run: the start is held, outside all stages
    unfoldable pub staged_reading : List ℕ → AnswerOf Part
    staged_reading run = staged_reads 0 (part p.start 0 ∷ []) run

-- the stage of held parts: the label of the part held last; 0 where none is held
unfoldable pub stage_of : List Part → ℕ
stage_of [] = 0
stage_of (q ∷ held) = q.label

-- with the labels mapped away: the nodes of parts, of what an event comes to, and of an answer
abbrev pub nodes_of : List Part → List ℕ
nodes_of held = map (λ (q : Part). q.node) held

unfoldable pub bare_step : StepOf Part → Step
bare_step (taken held records) = taken (nodes_of held) records
bare_step (refused number) = refused number

unfoldable pub bare_answer : AnswerOf Part → Answer
bare_answer (accepted records) = accepted records
bare_answer (stopped number place held) = stopped number place (nodes_of held)

-- a node stands in a stage: on a way from the start down to it, the innermost tagged node above it has this label; 0
-- where none above it is tagged
pub data InStage (p : Plan) : ℕ → ℕ → Type 0 where
  at_start : InStage p p.start 0
  to_left : {n label : ℕ} → InStage p n label → InStage p (p.left n) (inside (p.tag n) label)
  to_right : {n label : ℕ} → InStage p n label → InStage p (p.right n) (inside (p.tag n) label)

-- so does each of these parts, in the stage of its label
pub data AllInStage (p : Plan) : List Part → Type 0 where
  none_held : AllInStage p []
  and_held : {q : Part} {held : List Part} → InStage p q.node q.label → AllInStage p held
      → AllInStage p (q ∷ held)
