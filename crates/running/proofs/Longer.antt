-- More events: a reading that was stopped at an event is stopped there whatever follows. Of any plan, forged or not, with the labels of the parts held.
use Prim.Native.Nat.{ℕ, suc}
use mathlib.Core.Path.{◌≡◌}
use mathlib.Core.Bool.{Bool, true, false, cond}
use mathlib.Core.Logic.{◌≢◌}
use mathlib.Core.List.{List, [], ◌∷◌, ◌++◌}
use lib.Dec.{ltb}
use Rattle.running.specs.Running.{Plan, UNKNOWN, END, emptied, StepOf, taken, refused, AnswerOf, accepted, stopped, logged, onward}
use Rattle.running.specs.Stages.{Part, part, staged_event, staged_finish, staged_reads, staged_reading}

-- an answer that comes at the end of a run only: accepted, or END
pub data AtEnd : AnswerOf Part → Type 0 where
  end_accepted : {records : List ℕ} → AtEnd (accepted records)
  end_stopped : {i : ℕ} {held : List Part} → AtEnd (stopped END i held)

-- an answer that is another's, but for one at the end of the run
data Stays : AnswerOf Part → AnswerOf Part → Type 0 where
  stays_end : {a c : AnswerOf Part} → AtEnd a → Stays a c
  stays_same : {number i : ℕ} {held : List Part} → Stays (stopped number i held) (stopped number i held)

-- the number of one that is stopped is END
end_number : {a : AnswerOf Part} {number i : ℕ} {held : List Part} → AtEnd a → a ≡ stopped number i held → number ≡ END
end_number end_accepted is = cc
end_number end_stopped is = cc

logged_end : (records : List ℕ) {a : AnswerOf Part} → AtEnd a → AtEnd (logged records a)
unfolding logged
logged_end records end_accepted = end_accepted
logged_end records end_stopped = end_stopped

logged_stays : (records : List ℕ) {a c : AnswerOf Part} → Stays a c → Stays (logged records a) (logged records c)
unfolding logged
logged_stays records (stays_end e) = stays_end (logged_end records e)
logged_stays records stays_same = stays_same

onward_stays : (s : StepOf Part) (rest rest' : List Part → AnswerOf Part) (at : ℕ) (before : List Part) → ((h : List Part) → Stays (rest h) (rest' h))
    → Stays (onward s rest at before) (onward s rest' at before)
unfolding onward
onward_stays (taken held records) rest rest' at before stays = logged_stays records (stays held)
onward_stays (refused number) rest rest' at before stays = stays_same

module _ (p : Plan) where
  finish_end : (at : ℕ) (before held : List Part) → AtEnd (staged_finish p at before held)
  unfolding staged_finish
  finish_end at before [] = end_accepted
  finish_end at before (q ∷ held) = by_null (p.null q.node) (finish_end at before held)
    where
      by_null : (null : Bool) {rest : AnswerOf Part} → AtEnd rest → AtEnd (cond null (logged (emptied q.node ∷ []) rest) (stopped END at before))
      by_null true e = logged_end _ e
      by_null false e = end_stopped

  module _ (free : ℕ → Bool) where
    reads_stay : (run more : List ℕ) (at : ℕ) (held : List Part) → Stays (staged_reads p free at held run) (staged_reads p free at held (run ++ more))
    unfolding staged_reads
    reads_stay [] more at held = stays_end (finish_end at held held)
    reads_stay (k ∷ run) more at held = known (ltb k p.kinds) (λ h. reads_stay run more (suc at) h)
      where
        known : (t : Bool) → ((h : List Part) → Stays (staged_reads p free (suc at) h run) (staged_reads p free (suc at) h (run ++ more)))
            → Stays (cond t (onward (staged_event p free k held) (λ h. staged_reads p free (suc at) h run) at held) (stopped UNKNOWN at held))
            (cond t (onward (staged_event p free k held) (λ h. staged_reads p free (suc at) h (run ++ more)) at held) (stopped UNKNOWN at held))
        known true stays = onward_stays (staged_event p free k held) _ _ at held stays
        known false stays = stays_same

    -- a run stopped at an event is stopped there whatever events follow
    pub stopped_stays : (run more : List ℕ) {number i : ℕ} {held : List Part} → number ≢ END → staged_reading p free run ≡ stopped number i held
        → staged_reading p free (run ++ more) ≡ stopped number i held
    unfolding staged_reading
    stopped_stays run more {number} {i} {held} other is = go (reads_stay run more 0 (part p.start 0 ∷ [])) is
      where
        go : {a c : AnswerOf Part} → Stays a c → a ≡ stopped number i held → c ≡ stopped number i held
        go (stays_end e) is = absurd (other (end_number e is))
        go stays_same is = is
