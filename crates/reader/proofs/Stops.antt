-- A whole run, by where its events stop: the answer at the end, or at a refused event by the parts held before it, settled, is the
-- outcome of reading the run.
use mathlib.Core.Path.{◌≡◌, refl, sym, ap, ◌∙◌}
use mathlib.Core.Bool.{Bool, true, false}
use mathlib.Core.List.{List, [], ◌∷◌}
use Prim.Native.Nat.{ℕ, ◌≤◌, ◌<◌}
use native.Mathlib.Omega.{arith}
use lib.ListN.{length, set, take}
use Rattle.book.specs.Form.{DONE}
use Rattle.running.specs.Running.{Plan, with_slots, stopped, expected, tells, DEEP}
use Rattle.running.specs.Stages.{Part, part, staged_reading, stage_of, nodes_of}
use Rattle.reader.specs.declared.Reading.{Reading}
use Rattle.reader.specs.Numbers.{answered, told, refusal}
use Rattle.reader.specs.Machine.{Passed, SlotsHold, slot_of, stack, close_of, pass_of}
use Rattle.reader.specs.Reads.{Outcome, outcome, outcome_of}
use Rattle.reader.specs.Settled.{settled_of}
use Rattle.reader.specs.Steps.{Progress, going, over, steps, closed}
use Rattle.reader.proofs.Slots.{stack_held, held_more}
use Rattle.reader.proofs.Fold.{reading_steps, Halted, halted_not, halted_at, steps_halted}
use Rattle.reader.proofs.Runs.{SameGoing, SameOver, Went, went_on, went_over, pass_went, as_stopped, close_same}
use Rattle.reader.proofs.Settles.{settled_same}
use Rattle.reader.proofs.Simulation.{Bounded}

-- a run begins with the start node held, in the first slot
pub started : {nodes first : ℕ} (held : List ℕ) → nodes ≤ 512 → first < nodes → 0 < length held
    → SlotsHold nodes (length held) (set held 0 (slot_of first 0)) 1
started {nodes} {first} held few below some = held_more none first 0 below (omega arith) (omega arith) some
  where
    none : SlotsHold nodes (length held) held 0
    none = record { long = refl; few = omega arith; below = λ i under. absurd (omega arith); labels = λ i under. absurd (omega arith) }

-- the events of a run, from its beginning, stop so
pub record Passing (p : Plan) (run held tree : List ℕ) (e : Passed) : Type 0 where
  pub go_nodes : Bounded p
  pub start_below : p.start < p.count
  pub some_slot : 0 < length held
  pub stops : e ≡ pass_of p 0 run 1 0 (set held 0 (slot_of p.start 0)) tree

module _ {p : Plan} {run held tree : List ℕ} {e : Passed} (w : Passing p run held tree e) where
  abbrev free : ℕ → Bool
  free = with_slots (length held)

  abbrev first : Progress
  first = going 0 (part p.start 0 ∷ []) []

  -- what the run comes to, as an outcome; and that events come to it
  abbrev Goal : Outcome → Type 0
  Goal o = o ≡ outcome_of p (length run) (length tree) (staged_reading p free run)

  abbrev Comes : Progress → Type 0
  Comes q = Goal (outcome_of p (length run) (length tree) (closed p q))

  -- events come to what reading them comes to, whatever the slots and the tree held before
  begins : (front held' tree' : List ℕ) → length held' ≡ length held
      → Went p (length held) tree' (steps p free first front) (pass_of p 0 front 1 0 (set held' 0 (slot_of p.start 0)) tree')
  unfolding stack
  begins front held' tree' long =
      let inside : 0 < length held' = omega (arith, w.some_slot) in
      let small : p.start < 65536 = omega (arith, w.start_below, w.go_nodes.few) in
      rw (stack_held held' 0 p.start 0 inside small) at
      (pass_went p (length held) w.go_nodes tree' front 0 1 (set held' 0 (slot_of p.start 0)) [] tree'
      (rw long at (started held' w.go_nodes.few w.start_below inside)) refl)

  -- a refusal of an event
  refused-same : (number place : ℕ) (before : List Part) (left : List ℕ) {r : Reading} → DEEP ≤ number
      → r ≡ refusal number place (stage_of before) (expected p (nodes_of before)) → length left ≡ length tree
      → settled_of r left ≡ outcome_of p (length run) (length tree) (stopped number place before)
  refused-same number place before left {r} low is long =
      settled_same p {tree = tree} {answer = stopped number place before} {e = outcome r left} long
      (as_stopped {number = number} (omega arith) is)

  -- where the events come to
  record Here (q : Progress) : Type 0 where
    went : Went p (length held) tree q e
    halted : Halted p free 0 (part p.start 0 ∷ []) [] run q
    comes : Comes q

  here : Here (steps p free first run)
  here =
      record {
        went = rw w.stops (begins run held tree refl);
        halted = steps_halted p free run 0 (part p.start 0 ∷ []) [];
        comes = ap (outcome_of p (length run) (length tree)) (sym (reading_steps p free run));
      }

  -- all events were taken, or one was refused
  data Stopping : Type 0 where
    at_end_lem : {at : ℕ} {parts : List Part} {records : List ℕ} → SameGoing p (length held) tree at parts records e → at ≡ length run
        → Comes (going at parts records) → Stopping
    at_event : {number place : ℕ} {before : List Part} (records : List ℕ) → SameOver p (length held) number place before e
        → place ≤ length run → steps p free first (take place run) ≡ going place before records
        → Comes (over (stopped number place before)) → Stopping

  by_progress : {q : Progress} → Went p (length held) tree q e → Halted p free 0 (part p.start 0 ∷ []) [] run q → Comes q → Stopping
  by_progress (went_on {at} g) (halted_not is) comes = at_end_lem {at = at} g (omega arith) comes
  by_progress (went_over {place = place} g) (halted_at {before = before} i records is within front) comes =
      let same : place ≡ i = omega arith in
      at_event {place = place} {before = before} records g (omega arith) (rw same (rw same at front)) comes

  stopping : Stopping
  stopping = by_progress here.went here.halted here.comes

  -- the events stop within the run, and with slots that are intact where all were taken
  pub stop_within : e.stop.at ≤ length run
  stop_within = by_stop stopping
    where
      by_stop : Stopping → e.stop.at ≤ length run
      by_stop (at_end_lem g whole comes) = omega (arith, g.place_is)
      by_stop (at_event records g within front comes) = omega (arith, g.place_is)

  pub done_intact : e.stop.number ≡ DONE → e.stop.intact ≡ true
  done_intact done = by_stop stopping
    where
      by_stop : Stopping → e.stop.intact ≡ true
      by_stop (at_end_lem g whole comes) = g.intact
      by_stop (at_event records g within front comes) = absurd (omega (arith, g.number_is, g.low))

  -- the end
  pub run-closed : e.stop.number ≡ DONE → SlotsHold p.count (length held) e.held e.stop.count
      → (o : Outcome) → o ≡ close_of p e.stop.at e.stop.count e.stop.written e.held e.tree
      → length o.tree ≡ length tree → Goal (settled_of o.reading o.tree)
  unfolding closed
  run-closed done safe o closes long = by_stop stopping
    where
      by_stop : Stopping → Goal (settled_of o.reading o.tree)
      by_stop (at_end_lem {at} {parts} {records} g whole comes) =
          let place : e.stop.at ≡ length run = g.place_is ∙ whole in
          let same = close_same p (length held) (length run) e.stop.count e.held tree records e.tree safe g.stored in
          settled_same p {tree = tree} {e = o} long (rw (closes, place, g.counted) same) ∙ (rw (whole, g.parts) at comes)
      by_stop (at_event records g within front comes) = absurd (omega (arith, g.number_is, g.low))

  module _ (not_done : e.stop.number ≡ DONE → ⊥) (left : List ℕ) (long : length left ≡ length tree) {r : Reading} where
    -- a refusal that tells nothing
    pub run_silent : tells e.stop.number ≡ false → r ≡ answered e.stop.number e.stop.at 0 0 → Goal (settled_of r left)
    unfolding closed
    run_silent silent is = by_stop stopping
      where
        by_stop : Stopping → Goal (settled_of r left)
        by_stop (at_end_lem g whole comes) = absurd (not_done g.number_is)
        by_stop (at_event {number} {place} {before} records g within front comes) =
            let quiet : tells number ≡ false = rw g.number_is at silent in
            refused-same number place before left g.low (is ∙ rw (g.number_is, g.place_is, quiet) refl) long ∙ comes

    -- a refusal by the parts held before it
    module _ (loud : tells e.stop.number ≡ true) where
      told_by : (number place : ℕ) (before parts : List Part) → SameOver p (length held) number place before e → before ≡ parts
          → r ≡ told e.stop.number e.stop.at (stage_of parts) (expected p (nodes_of parts))
          → settled_of r left ≡ outcome_of p (length run) (length tree) (stopped number place before)
      told_by number place before parts g same is =
          let aloud : tells number ≡ true = rw g.number_is at loud in
          refused-same number place before left g.low (is ∙ rw (g.number_is, g.place_is, aloud, same) refl) long

      pub run-refused : e.stop.intact ≡ true
          → r ≡ told e.stop.number e.stop.at (stage_of (stack e.held e.stop.count))
          (expected p (nodes_of (stack e.held e.stop.count))) → Goal (settled_of r left)
      unfolding closed
      run-refused whole is = by_stop stopping
        where
          by_stop : Stopping → Goal (settled_of r left)
          by_stop (at_end_lem g whole comes) = absurd (not_done g.number_is)
          by_stop (at_event {number} {place} {before} records g within front comes) =
              told_by number place before _ g (g.parts whole) is ∙ comes

  -- or by reading the events before it again
  module _ (not_done : e.stop.number ≡ DONE → ⊥) (held' tree' : List ℕ) (slots : length held' ≡ length held) (again : Passed)
      (reads : again ≡ pass_of p 0 (take e.stop.at run) 1 0 (set held' 0 (slot_of p.start 0)) tree') where
    all-taken : {q : Progress} {place : ℕ} {before : List Part} {records : List ℕ} {e' : Passed} → Went p (length held) tree' q e'
        → q ≡ going place before records → (again ≡ e')
        → (again.stop.intact ≡ true) × (before ≡ stack again.held again.stop.count) × (again.stop.number ≡ DONE)
    all-taken {before = before} (went_on {held = parts} g) is same =
        let parts_are : before ≡ parts = cc in
        rw same (g.intact, parts_are ∙ g.parts, g.number_is)
    all-taken (went_over g) is same = let never : ◌≡◌ {A = ℕ} 0 1 = cc in absurd (omega arith)

    taken_again : (place : ℕ) (before : List Part) (records : List ℕ) → e.stop.at ≡ place
        → steps p free first (take place run) ≡ going place before records
        → (again.stop.intact ≡ true) × (before ≡ stack again.held again.stop.count) × (again.stop.number ≡ DONE)
    taken_again place before records is front = all-taken (begins (take place run) held' tree' slots) front (rw is at reads)

    pub again_intact : (again.stop.intact ≡ true) × (again.stop.number ≡ DONE)
    again_intact = by_stop stopping
      where
        by_stop : Stopping → (again.stop.intact ≡ true) × (again.stop.number ≡ DONE)
        by_stop (at_end_lem g whole comes) = absurd (not_done g.number_is)
        by_stop (at_event {number} {place} {before} records g within front comes) =
            let all = taken_again place before records g.place_is front in
            (all.0, all.2)

    pub run_again : (left : List ℕ) → length left ≡ length tree → tells e.stop.number ≡ true → {r : Reading}
        → r ≡ told e.stop.number e.stop.at (stage_of (stack again.held again.stop.count))
        (expected p (nodes_of (stack again.held again.stop.count))) → Goal (settled_of r left)
    unfolding closed
    run_again left long loud {r} is = by_stop stopping
      where
        by_stop : Stopping → Goal (settled_of r left)
        by_stop (at_end_lem g whole comes) = absurd (not_done g.number_is)
        by_stop (at_event {number} {place} {before} records g within front comes) =
            told_by not_done left long loud number place before _ g (taken_again place before records g.place_is front).1 is ∙ comes
