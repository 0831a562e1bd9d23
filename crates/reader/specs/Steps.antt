-- A reading event by event: what a board that is given one event at a time keeps.
use Rattle.std.specs.Prelude.{ℕ, suc, Bool, cond, List, [], ◌∷◌, ◌++◌, ltb}
use Rattle.running.specs.Running.{Plan, StepOf, taken, refused, AnswerOf, stopped, logged, UNKNOWN}
use Rattle.running.specs.Stages.{Part, part, staged_event, staged_finish}

-- a reading under way: so many events taken, these parts held, these records written; or it is over, with a refusal
pub data Progress : Type 0 where
  going : ℕ → List Part → List ℕ → Progress
  over : AnswerOf Part → Progress

-- after an event at a place, with these parts held and these records written before it
unfoldable pub advanced : StepOf Part → ℕ → List Part → List ℕ → Progress
advanced (taken held records) at before written = going (suc at) held (written ++ records)
advanced (refused number) at before written = over (stopped number at before)

module _ (p : Plan) where
  module _ (free : ℕ → Bool) where
    -- one event more
    unfoldable pub step : Progress → ℕ → Progress
    step (going at held written) k =
        cond (ltb k p.kinds) (advanced (staged_event p free k held) at held written) (over (stopped UNKNOWN at held))
    step (over answer) k = over answer

    -- events, one after the other
    unfoldable pub steps : Progress → List ℕ → Progress
    steps progress [] = progress
    steps progress (k ∷ run) = steps (step progress k) run

  -- the end
  unfoldable pub closed : Progress → AnswerOf Part
  closed (going at held written) = logged written (staged_finish p at held held)
  closed (over answer) = answer

  -- before any event
  abbrev pub begun : Progress
  begun = going 0 (part p.start 0 ∷ []) []
