-- What a reading answers and leaves, on any bytes for a plan: numbers 8 to 16.
use Rattle.std.specs.Prelude.{ℕ, ◌-◌, ◌≡◌, cond, List, ◌++◌, ltb, leb, eqb, length}
use Rattle.words.specs.Words.{zeros}
use Rattle.book.specs.Form.{DONE}
use Rattle.running.specs.Running.{Plan, with_slots, AnswerOf, accepted, stopped, expected, DEEP}
use Rattle.running.specs.Stages.{Part, staged_reading, stage_of, nodes_of}
use Rattle.plan.specs.Form.{plan_of, plan_judged}
use Rattle.reader.specs.declared.Reading.{Reading}
use Rattle.reader.specs.Numbers.{LONG, NO-ROOM, answered, refusal}

-- a reading's answer, and the tree buffer after it
pub record Outcome : Type 0 where
  pub reading : Reading
  pub tree : List ℕ

abbrev pub outcome : Reading → List ℕ → Outcome
outcome reading tree = record { reading = reading; tree = tree }

-- an answer that leaves a tree of so much room zero
abbrev pub bare : ℕ → Reading → Outcome
bare room reading = outcome reading (zeros room)

-- a run of a length is accepted: its records and zeros after them, or NO ROOM where they are more than the tree holds
unfoldable pub accepted_of : ℕ → ℕ → List ℕ → Outcome
accepted_of size room records =
    cond (leb (length records) room)
    (outcome (answered DONE size (length records) 0) (records ++ zeros (room - length records)))
    (bare room (answered NO-ROOM 0 (length records) 0))

-- what running a plan over a run of a length comes to, as an answer and a tree of so much room
unfoldable pub outcome_of : Plan → ℕ → ℕ → AnswerOf Part → Outcome
outcome_of p size room (accepted records) = accepted_of size room records
outcome_of p size room (stopped number place held) =
    bare room (refusal number place (stage_of held) (expected p (nodes_of held)))

-- the run by the plan that bytes are, with so many slots
unfoldable pub run_of : List ℕ → List ℕ → ℕ → ℕ → Outcome
run_of plan run slots room =
    outcome_of (plan_of plan) (length run) room (staged_reading (plan_of plan) (with_slots slots) run)

-- a reading: 8 or 9 by the plan's form, 10 for more than 65,535 events, 11 for no slot, then the run
unfoldable pub read_of : List ℕ → List ℕ → ℕ → ℕ → Outcome
read_of plan run slots room =
    cond (eqb (plan_judged plan).number DONE)
    (cond (leb (length run) 65535)
    (cond (ltb 0 slots) (run_of plan run slots room) (bare room (answered DEEP 0 0 0)))
    (bare room (answered LONG 0 0 0)))
    (bare room (answered (plan_judged plan).number (plan_judged plan).place 0 0))

-- what a call of the reader answers and leaves: the reading's answer and tree, and slots that are all zero
pub record Reads (plan run held tree : List ℕ) (answer : Reading) (held_after tree-after : List ℕ) : Type 0 where
  pub outcome_is : outcome answer tree-after ≡ read_of plan run (length held) (length tree)
  pub slots_zero : held_after ≡ zeros (length held)
