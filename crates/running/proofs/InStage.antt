-- Each part held stands in the stage of its label: a way leads down to it from the start, and the label is that of the innermost tagged
-- node above it on that way. Of any plan, forged or not.
use Prim.Native.Nat.{ℕ, zero, suc}
use native.Mathlib.Omega.{arith}
use mathlib.Core.Path.{◌≡◌}
use mathlib.Core.Bool.{Bool, true, false, cond}
use mathlib.Core.List.{List, [], ◌∷◌}
use lib.Dec.{ltb, eqb}
use lib.ListN.{length}
use Rattle.running.specs.Running.{Plan, Move, refuse, take_event, go_left, hold_right, skip_left, go_right, move_of, emptied}
use Rattle.running.specs.Running.{StepOf, taken, refused, AnswerOf, accepted, stopped}
use Rattle.running.specs.Running.{noted, take_off, logged, onward}
use Rattle.running.specs.Stages.{Part, part, inside, staged_visit, staged_walk, staged_event, staged_finish, staged_reads, staged_reading}
use Rattle.running.specs.Stages.{InStage, at_start, to_left, to_right, AllInStage, none_held, and_held}

module _ (p : Plan) where
  -- the parts that an event leaves held, and those held where a run stops
  data StepIn : StepOf Part → Type 0 where
    taken_in : {held : List Part} {records : List ℕ} → AllInStage p held → StepIn (taken held records)
    refused_in : {number : ℕ} → StepIn (refused number)

  data AnswerIn : AnswerOf Part → Type 0 where
    accepted_in : {records : List ℕ} → AnswerIn (accepted records)
    stopped_in : {number i : ℕ} {held : List Part} → AllInStage p held → AnswerIn (stopped number i held)

  noted_in : (r : ℕ) {s : StepOf Part} → StepIn s → StepIn (noted r s)
  unfolding noted
  noted_in r (taken_in all) = taken_in all
  noted_in r refused_in = refused_in

  logged_in : (records : List ℕ) {a : AnswerOf Part} → AnswerIn a → AnswerIn (logged records a)
  unfolding logged
  logged_in records accepted_in = accepted_in
  logged_in records (stopped_in all) = stopped_in all

  test_in : (t : Bool) {s s' : StepOf Part} → StepIn s → StepIn s' → StepIn (cond t s s')
  test_in true i i' = i
  test_in false i i' = i'

  test_answer : (t : Bool) {a c : AnswerOf Part} → AnswerIn a → AnswerIn c → AnswerIn (cond t a c)
  test_answer true i i' = i
  test_answer false i i' = i'

  finish_in : (at : ℕ) (before held : List Part) → AllInStage p before → AnswerIn (staged_finish p at before held)
  unfolding staged_finish
  finish_in at before [] all = accepted_in
  finish_in at before (q ∷ held) all = test_answer (p.null q.node) (logged_in _ (finish_in at before held all)) (stopped_in all)

  module _ (free : ℕ → Bool) where
    -- a visit, by how the walk goes on from left and right
    visit_in : (m : Move) (go : ℕ → List Part → StepOf Part) (label l r : ℕ) (held : List Part) → InStage p r label → AllInStage p held
        → ((h : List Part) → AllInStage p h → StepIn (go l h)) → ((h : List Part) → AllInStage p h → StepIn (go r h))
        → StepIn (staged_visit m go free label l r held)
    unfolding staged_visit
    visit_in refuse go label l r held right all on-left on-right = refused_in
    visit_in take_event go label l r held right all on-left on-right = taken_in all
    visit_in go_left go label l r held right all on-left on-right = on-left held all
    visit_in hold_right go label l r held right all on-left on-right =
        test_in (free (length held)) (on-left (part r label ∷ held) (and_held right all)) refused_in
    visit_in skip_left go label l r held right all on-left on-right = noted_in (emptied l) (on-right held all)
    visit_in go_right go label l r held right all on-left on-right = on-right held all

    walk_in : (k left n outer : ℕ) (held : List Part) → InStage p n outer → AllInStage p held → StepIn (staged_walk p free k left n outer held)
    unfolding staged_walk
    walk_in k zero n outer held here all = refused_in
    walk_in k (suc left) n outer held here all =
        noted_in n
        (visit_in (move_of (p.cell n k)) (λ m h. staged_walk p free k left m (inside (p.tag n) outer) h) (inside (p.tag n) outer) (p.left n)
        (p.right n) held (to_right here) all
        (λ h every. walk_in k left (p.left n) (inside (p.tag n) outer) h (to_left here) every)
        (λ h every. walk_in k left (p.right n) (inside (p.tag n) outer) h (to_right here) every))

    event_in : (k : ℕ) (held : List Part) → AllInStage p held → StepIn (staged_event p free k held)
    unfolding staged_event take_off
    event_in k [] none_held = refused_in
    event_in k (q ∷ held) (and_held here all) =
        test_in (eqb (p.cell q.node k) 0)
        (test_in (p.null q.node) (noted_in (emptied q.node) (event_in k held all)) refused_in)
        (walk_in k p.count q.node q.label held here all)

    onward_in : {s : StepOf Part} → StepIn s → (rest : List Part → AnswerOf Part) (at : ℕ) (before : List Part) → AllInStage p before
        → ((h : List Part) → AllInStage p h → AnswerIn (rest h)) → AnswerIn (onward s rest at before)
    unfolding onward
    onward_in (taken_in all) rest at before all-before on = logged_in _ (on _ all)
    onward_in refused_in rest at before all-before on = stopped_in all-before

    reads_in : (run : List ℕ) (at : ℕ) (held : List Part) → AllInStage p held → AnswerIn (staged_reads p free at held run)
    unfolding staged_reads
    reads_in [] at held all = finish_in at held held all
    reads_in (k ∷ run) at held all =
        test_answer (ltb k p.kinds)
        (onward_in (event_in k held all) (λ h. staged_reads p free (suc at) h run) at held all (λ h every. reads_in run (suc at) h every))
        (stopped_in all)

    -- where a run stops
    pub stopped_in_stage : (run : List ℕ) {number i : ℕ} {held : List Part} → staged_reading p free run ≡ stopped number i held → AllInStage p held
    unfolding staged_reading
    stopped_in_stage run {number} {i} {held} is = told (reads_in run 0 (part p.start 0 ∷ []) (and_held at_start none_held)) is
      where
        told : {a : AnswerOf Part} → AnswerIn a → a ≡ stopped number i held → AllInStage p held
        told accepted_in same = let never : ◌≡◌ {A = ℕ} 0 1 = cc in absurd (omega arith)
        told (stopped_in {held = before} all) same = let parts : before ≡ held = cc in rw parts at all
