-- A drum: what it answers and how it then stands, at an opening, an event and a close.
use Rattle.std.specs.Prelude.{ℕ, suc, ◌+◌, ◌-◌, Bool, not, ◌&&◌, ◌||◌, cond, List, [], ◌∷◌, ◌++◌, ltb, eqb, length, get_or}
use Rattle.words.specs.Words.{zeros}
use Rattle.words.specs.Lists.{every}
use Rattle.book.specs.Form.{DONE, judged}
use Rattle.book.specs.declared.Judged.{Judged}
use Rattle.lengths.specs.Falling.{smaller}
use Rattle.running.specs.Running.{Plan, with_slots, StepOf, taken, refused, AnswerOf, accepted, stopped}
use Rattle.running.specs.Running.{expected, UNKNOWN}
use Rattle.running.specs.Stages.{Part, part, staged_event, staged_finish, stage_of, nodes_of}
use Rattle.plan.specs.Form.{plan_count, plan_of, plan_judged}
use Rattle.reader.specs.declared.Reading.{Reading}
use Rattle.reader.specs.Numbers.{LONG, answered, refusal}
use Rattle.reader.specs.Machine.{slot_of, node_in, stack}
use Rattle.drums.specs.declared.Drum.{Drum}
use Rattle.drums.specs.declared.Stepped.{Stepped}

-- the answers' numbers
abbrev pub NO-DRUM : ℕ
NO-DRUM = 17

abbrev pub IDLE : ℕ
IDLE = 18

abbrev pub STALE : ℕ
STALE = 33

-- the most drums of a board; a drum's slots, its most events, its most records, the most that is told to be due
abbrev pub board_drums : ℕ
board_drums = 32

abbrev pub drum_slots : ℕ
drum_slots = 64

abbrev pub most_events : ℕ
most_events = 65535

abbrev pub most_records : ℕ
most_records = 67042305

abbrev pub most_due : ℕ
most_due = 65535

-- a drum of all zeros is idle, any other is open
abbrev pub idle_drum : Drum
idle_drum = record { slots = zeros drum_slots; held = 0; events = 0; records = 0; due = 0 }

unfoldable pub idle : Drum → Bool
idle d =
    eqb d.held 0 && eqb d.events 0 && eqb d.records 0 && eqb d.due 0
    && every (λ i. eqb (get_or d.slots i 0) 0) drum_slots

-- whether each of so many slots has a node below a count of nodes
unfoldable pub nodes_held : ℕ → List ℕ → ℕ → Bool
nodes_held nodes slots held = every (λ i. ltb (node_in (get_or slots i 0)) nodes) held

-- a drum claims over 64 held parts, a held node not below N, over 65,535 events or over 67,042,305 records
unfoldable pub stale : ℕ → Drum → Bool
stale nodes d =
    ltb drum_slots d.held || ltb most_events d.events || ltb most_records d.records
    || not (nodes_held nodes d.slots d.held)

-- the parts that a drum holds, the one held last in front
abbrev pub parts_of : Drum → List Part
parts_of d = stack d.slots d.held

-- the slots of parts, the part held first in front
unfoldable pub slots_of : List Part → List ℕ
slots_of [] = []
slots_of (q ∷ held) = slots_of held ++ (slot_of q.node q.label ∷ [])

-- the events still due for parts: the sum of their numbers in the plan, cut
unfoldable pub due_of : Plan → List Part → ℕ
due_of p [] = 0
due_of p (q ∷ held) = smaller (p.due q.node + due_of p held) most_due

-- an open drum after so many events and records, with these parts held; its unused slots are zero
unfoldable pub standing : Plan → ℕ → ℕ → List Part → Drum
standing p events records held =
    record {
      slots = slots_of held ++ zeros (drum_slots - length held);
      held = length held;
      events = events;
      records = records;
      due = due_of p held;
    }

-- what a call answers, and how the drum then stands
abbrev pub stepped : Reading → Drum → Stepped
stepped reading drum = record { reading = reading; drum = drum }

-- an opening or a taken event: 0 with the events and records so far
abbrev pub goes_on : Plan → ℕ → ℕ → List Part → Stepped
goes_on p events records held = stepped (answered DONE events records 0) (standing p events records held)

-- what an event comes to, at a place, with these parts held and so many records written before it
unfoldable pub event_ends : Plan → ℕ → ℕ → List Part → StepOf Part → Stepped
event_ends p at records before (taken held more) = goes_on p (suc at) (records + length more) held
event_ends p at records before (refused number) =
    stepped (refusal number at (stage_of before) (expected p (nodes_of before))) idle_drum

-- what the end of a run comes to, after so many events and records
unfoldable pub end_answers : Plan → ℕ → ℕ → AnswerOf Part → Reading
end_answers p at records (accepted more) = answered DONE at (records + length more) 0
end_answers p at records (stopped number place held) = refusal number place (stage_of held) (expected p (nodes_of held))

module _ (p : Plan) where
  -- an opening starts afresh, with the start held
  unfoldable pub opened : Stepped
  opened = goes_on p 0 0 (part p.start 0 ∷ [])

  -- an event: the 65,536th is LONG; a refusal makes the drum idle
  unfoldable pub evented : Drum → ℕ → Stepped
  evented d k =
      cond (eqb d.events most_events) (stepped (answered LONG 0 0 0) idle_drum)
      (event_ends p d.events d.records (parts_of d)
      (cond (ltb k p.kinds) (staged_event p (with_slots drum_slots) k (parts_of d)) (refused UNKNOWN)))

  -- a close makes the drum idle
  unfoldable pub closed : Drum → Stepped
  closed d =
      stepped (end_answers p d.events d.records (staged_finish p d.events (parts_of d) (parts_of d))) idle_drum

-- what every call tests: the plan, then the drum's number: 8, 9, 17
unfoldable pub call_judged : List ℕ → ℕ → Judged
call_judged plan number =
    cond (eqb (plan_judged plan).number DONE) (cond (ltb number board_drums) (judged DONE 0) (judged NO-DRUM 0))
    (plan_judged plan)

-- what an event and a close then test of the drum: 18, 33
unfoldable pub drum_judged : ℕ → Drum → Judged
drum_judged nodes d = cond (idle d) (judged IDLE 0) (cond (stale nodes d) (judged STALE 0) (judged DONE 0))

-- a refusal by these tests judges no event and changes nothing
abbrev pub kept : Judged → Drum → Stepped
kept j d = stepped (answered j.number j.place 0 0) d

-- a call past a test
unfoldable pub past : Judged → Drum → Stepped → Stepped
past j d rest = cond (eqb j.number DONE) rest (kept j d)

-- opening a drum with a number, giving it an event, closing it; of these only an event looks at the kind
unfoldable pub open_of : List ℕ → Drum → ℕ → ℕ → Stepped
open_of plan d number k = past (call_judged plan number) d (opened (plan_of plan))

unfoldable pub event_of : List ℕ → Drum → ℕ → ℕ → Stepped
event_of plan d number k =
    past (call_judged plan number) d (past (drum_judged (plan_count plan) d) d (evented (plan_of plan) d k))

unfoldable pub close_of : List ℕ → Drum → ℕ → ℕ → Stepped
close_of plan d number k =
    past (call_judged plan number) d (past (drum_judged (plan_count plan) d) d (closed (plan_of plan) d))

-- what a call answers for a drum that is not on the list: 8, 9, 17
unfoldable pub absent_of : List ℕ → Reading
absent_of plan =
    cond (eqb (plan_judged plan).number DONE) (answered NO-DRUM 0 0 0)
    (answered (plan_judged plan).number (plan_judged plan).place 0 0)
