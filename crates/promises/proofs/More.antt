-- More slots, more tree room and more events never change an answer, but for DEEP, NO ROOM and what is answered at the end of a run. Of any
-- plan, forged or not.
use Prim.Native.Nat.{ℕ, ◌+◌, ◌-◌, ◌≤◌, ◌<◌}
use native.Mathlib.Omega.{arith}
use native.Mathlib.Decide.{dec_le, dec_lt, ℕ_discrete}
use borrow.Author.Tests.{le-leb, lt-leb}
use mathlib.Core.Path.{◌≡◌, refl, sym, ap, subst, ◌∙◌}
use mathlib.Core.Logic.{◌≢◌, ◌⊎◌, inl, inr}
use mathlib.Core.List.{List, ◌++◌, append_assoc}
use lib.ListN.{length, length-append, replicate-append-replicate}
use Rattle.words.specs.Words.{zeros}
use Rattle.book.specs.Form.{DONE}
use Rattle.plan.specs.Form.{plan_of, plan_judged}
use Rattle.running.specs.Running.{DEEP, UNKNOWN, UNEXPECTED, END, RUNAWAY, Plan, with_slots, AnswerOf, accepted, stopped, reading}
use Rattle.running.specs.Stages.{Part, staged_reading}
use Rattle.running.proofs.Stages.{reading_bare, accepted_with}
use Rattle.running.proofs.Longer.{stopped_stays}
use Rattle.running.proofs.Slots.{more_slots}
use Rattle.reader.specs.declared.Reading.{Reading}
use Rattle.reader.specs.Numbers.{NO-ROOM, answered}
use Rattle.reader.specs.Reads.{Outcome, outcome, bare, accepted_of, outcome_of, run_of, read_of, Reads}
use Rattle.reader.proofs.Answers.{read_told, records_counted, judged_bad}
use Rattle.reader.proofs.Settles.{read_form, read_long, read_slotless, read_runs}
use Rattle.promises.specs.Promises.{OnBiggerBoards}

-- what holds of a reading's outcome holds of a call's answer and of what it leaves of the tree
pub by_call : (Of : Reading → List ℕ → Type 0) {plan run held tree : List ℕ} {r : Reading} {held_after tree-after : List ℕ}
    → Reads plan run held tree r held_after tree-after
    → Of (read_of plan run (length held) (length tree)).reading (read_of plan run (length held) (length tree)).tree → Of r tree-after
by_call Of read holds = subst (λ (o : Outcome). Of o.reading o.tree) (sym read.outcome_is) holds

-- what decides a reading: the plan's form, the run's length, that there is no slot, or the run
data Course (plan run : List ℕ) (slots : ℕ) : Type 0 where
  by_form : ((plan_judged plan).number ≡ DONE → ⊥) → Course plan run slots
  by_length : (plan_judged plan).number ≡ DONE → 65535 < length run → Course plan run slots
  by_slots : (plan_judged plan).number ≡ DONE → length run ≤ 65535 → slots ≡ 0 → Course plan run slots
  by_run : (plan_judged plan).number ≡ DONE → length run ≤ 65535 → 0 < slots → Course plan run slots

course : (plan run : List ℕ) (slots : ℕ) → Course plan run slots
course plan run slots =
    elim (ℕ_discrete (plan_judged plan).number DONE) [
      | yes good ↦
          elim (dec_le (length run) 65535) [
            | yes short ↦ elim (dec_lt 0 slots) [ yes some ↦ by_run good short some | no none ↦ by_slots good short (omega arith) ]
            | no long ↦ by_length good (omega arith)
          ]
      | no bad ↦ by_form bad
    ]

module _ (plan run : List ℕ) (slots room more : ℕ) (grows : slots ≤ more) (not-deep : (read_of plan run slots room).reading.number ≢ DEEP) where
  slots_by : Course plan run slots → read_of plan run slots room ≡ read_of plan run more room
  unfolding run_of outcome_of
  slots_by (by_form bad) = read_form plan run slots room bad ∙ sym (read_form plan run more room bad)
  slots_by (by_length good long) = read_long plan run slots room good long ∙ sym (read_long plan run more room good long)
  slots_by (by_slots good short none) =
      absurd (not-deep (ap (λ (o : Outcome). o.reading.number) (read_slotless plan run slots room good short none)))
  slots_by (by_run good short some) =
      let here = read_runs plan run slots room good short some in
      let same : staged_reading (plan_of plan) (with_slots slots) run ≡ staged_reading (plan_of plan) (with_slots more) run =
      more_slots (plan_of plan) run slots more grows
      (λ i held deep. not-deep (ap (λ (o : Outcome). o.reading.number) (here ∙ ap (outcome_of (plan_of plan) (length run) room) deep)))
      in
      here ∙ ap (outcome_of (plan_of plan) (length run) room) same ∙ sym (read_runs plan run more room good short (omega arith))

  -- with more slots
  pub slots_more : read_of plan run slots room ≡ read_of plan run more room
  slots_more = slots_by (course plan run slots)

-- an outcome with more tree room, filled with zeros
abbrev pub wider : ℕ → ℕ → Outcome → Outcome
wider room more o = outcome o.reading (o.tree ++ zeros (more - room))

-- zeros, with more room
zeros_more : (n room more : ℕ) → n ≤ room → room ≤ more → zeros (more - n) ≡ zeros (room - n) ++ zeros (more - room)
zeros_more n room more within grows =
    let e : more - n ≡ room - n + (more - room) = omega arith in
    ap (λ (m : ℕ). zeros m) e ∙ sym (replicate-append-replicate (room - n) (more - room) 0)

zeros-wider : (room more : ℕ) → room ≤ more → zeros more ≡ zeros room ++ zeros (more - room)
zeros-wider room more grows =
    let e : more ≡ room + (more - room) = omega arith in
    ap (λ (m : ℕ). zeros m) e ∙ sym (replicate-append-replicate room (more - room) 0)

module _ (room more : ℕ) (grows : room ≤ more) where
  bare-wider : (r : Reading) → bare more r ≡ wider room more (bare room r)
  bare-wider r = λ i. outcome r (zeros-wider room more grows i)

  outcome-wider : (p : Plan) (size : ℕ) (a : AnswerOf Part) → (outcome_of p size room a).reading.number ≢ NO-ROOM
      → outcome_of p size more a ≡ wider room more (outcome_of p size room a)
  unfolding outcome_of accepted_of
  outcome-wider p size (accepted records) roomy =
      elim (dec_le (length records) room) [
        | yes fits ↦
            rw (le-leb (length records) room fits, le-leb (length records) more (omega arith))
            (λ i.
            outcome (answered DONE size (length records) 0)
            ((ap (λ (l : List ℕ). records ++ l) (zeros_more (length records) room more fits grows)
            ∙ sym (append_assoc records (zeros (room - length records)) (zeros (more - room)))) i))
        | no full ↦
            absurd (roomy (rw (lt-leb (length records) room (omega arith))))
      ]
  outcome-wider p size (stopped number place held) roomy = bare-wider _

  module _ (plan run : List ℕ) (slots : ℕ) (roomy : (read_of plan run slots room).reading.number ≢ NO-ROOM) where
    both_bare : {r : Reading} → read_of plan run slots more ≡ bare more r → read_of plan run slots room ≡ bare room r
        → read_of plan run slots more ≡ wider room more (read_of plan run slots room)
    both_bare {r} e f = e ∙ bare-wider r ∙ ap (wider room more) (sym f)

    room_by : Course plan run slots → read_of plan run slots more ≡ wider room more (read_of plan run slots room)
    unfolding run_of
    room_by (by_form bad) = both_bare (read_form plan run slots more bad) (read_form plan run slots room bad)
    room_by (by_length good long) = both_bare (read_long plan run slots more good long) (read_long plan run slots room good long)
    room_by (by_slots good short none) =
        both_bare (read_slotless plan run slots more good short none) (read_slotless plan run slots room good short none)
    room_by (by_run good short some) =
        let here = read_runs plan run slots room good short some in
        read_runs plan run slots more good short some
        ∙ outcome-wider (plan_of plan) (length run) (staged_reading (plan_of plan) (with_slots slots) run)
        (λ e. roomy (ap (λ (o : Outcome). o.reading.number) here ∙ e))
        ∙ ap (wider room more) (sym here)

    -- with more tree room
    pub room_more : read_of plan run slots more ≡ wider room more (read_of plan run slots room)
    room_more = room_by (course plan run slots)

-- where the tree had no room for an accepted run's records, it has not enough of it still, or the run is accepted
pub data Filled (plan run : List ℕ) (slots more records : ℕ) : Type 0 where
  no_room_still : more < records → read_of plan run slots more ≡ bare more (answered NO-ROOM 0 records 0) → Filled plan run slots more records
  room_now : (written : List ℕ) → length written ≡ records → records ≤ more
      → read_of plan run slots more ≡ outcome (answered DONE (length run) records 0) (written ++ zeros (more - records))
      → Filled plan run slots more records

pub room_filled : (plan run : List ℕ) (slots room more : ℕ) → (read_of plan run slots room).reading.number ≡ NO-ROOM
    → Filled plan run slots more (read_of plan run slots room).reading.records
unfolding run_of outcome_of accepted_of
room_filled plan run slots room more full =
    let found = records_counted (read_told plan run slots room) (inr full) in
    rw found.2 (by_course (course plan run slots) found.0 found.1)
  where
    number_of : {r : Reading} → read_of plan run slots room ≡ bare room r → r.number ≡ NO-ROOM
    number_of is = sym (ap (λ (o : Outcome). o.reading.number) is) ∙ full

    by_course : Course plan run slots → (records : List ℕ) → reading (plan_of plan) (with_slots slots) run ≡ accepted records
        → Filled plan run slots more (length records)
    by_course (by_form bad) records is =
        absurd (omega (arith, (judged_bad plan bad).1, number_of (read_form plan run slots room bad)))
    by_course (by_length good long) records is = absurd (omega (arith, number_of (read_long plan run slots room good long)))
    by_course (by_slots good short none) records is = absurd (omega (arith, number_of (read_slotless plan run slots room good short none)))
    by_course (by_run good short some) records is =
        let staged = accepted_with _ (reading_bare (plan_of plan) (with_slots slots) run ∙ is) in
        let here = read_runs plan run slots more good short some ∙ ap (outcome_of (plan_of plan) (length run) more) staged in
        elim (dec_le (length records) more) [
          | yes fits ↦ room_now records refl fits (here ∙ rw (le-leb (length records) more fits))
          | no small ↦ no_room_still (omega arith) (here ∙ rw (lt-leb (length records) more (omega arith)))
        ]

-- an answer that more events do not change: any refusal but END and NO ROOM
abbrev pub Stopped : ℕ → Type 0
Stopped number = (number ≢ DONE) × (number ≢ END) × (number ≢ NO-ROOM)

-- a refusal of an event is one
event_stopped : {number : ℕ} → (number ≡ UNKNOWN) ⊎ ((number ≡ UNEXPECTED) ⊎ (number ≡ RUNAWAY)) → Stopped number
event_stopped (inl is) = (omega arith, omega arith, omega arith)
event_stopped (inr (inl is)) = (omega arith, omega arith, omega arith)
event_stopped (inr (inr is)) = (omega arith, omega arith, omega arith)

event_shallow : {number : ℕ} → (number ≡ UNKNOWN) ⊎ ((number ≡ UNEXPECTED) ⊎ (number ≡ RUNAWAY)) → number ≢ DEEP
event_shallow (inl is) = omega arith
event_shallow (inr (inl is)) = omega arith
event_shallow (inr (inr is)) = omega arith

module _ (plan run more : List ℕ) (slots room : ℕ) (few : length (run ++ more) ≤ 65535) where
  outcome_longer : (a : AnswerOf Part) → staged_reading (plan_of plan) (with_slots slots) run ≡ a
      → Stopped (outcome_of (plan_of plan) (length run) room a).reading.number
      → outcome_of (plan_of plan) (length (run ++ more)) room (staged_reading (plan_of plan) (with_slots slots) (run ++ more))
      ≡ outcome_of (plan_of plan) (length run) room a
  unfolding outcome_of accepted_of
  outcome_longer (accepted records) is other =
      elim (dec_le (length records) room) [
        | yes fits ↦ absurd (other.0 (rw (le-leb (length records) room fits)))
        | no full ↦ absurd (other.2 (rw (lt-leb (length records) room (omega arith))))
      ]
  outcome_longer (stopped number place held) is other =
      ap (outcome_of (plan_of plan) (length (run ++ more)) room) (stopped_stays (plan_of plan) (with_slots slots) run more other.1 is)

  events_by : Course plan run slots → Stopped (read_of plan run slots room).reading.number
      → read_of plan (run ++ more) slots room ≡ read_of plan run slots room
  unfolding run_of
  events_by (by_form bad) other = read_form plan (run ++ more) slots room bad ∙ sym (read_form plan run slots room bad)
  events_by (by_length good long) other = absurd (omega (arith, length-append run more))
  events_by (by_slots good short none) other =
      read_slotless plan (run ++ more) slots room good few none ∙ sym (read_slotless plan run slots room good short none)
  events_by (by_run good short some) other =
      let here = read_runs plan run slots room good short some in
      read_runs plan (run ++ more) slots room good few some ∙ outcome_longer _ refl (rw here at other) ∙ sym here

  -- with more events
  pub events_more : Stopped (read_of plan run slots room).reading.number → read_of plan (run ++ more) slots room ≡ read_of plan run slots room
  events_more other = events_by (course plan run slots) other

-- a refusal of the run itself leaves whatever tree zero
module _ (plan run : List ℕ) (slots room other : ℕ) where
  outcome-refused : (a : AnswerOf Part) → Stopped (outcome_of (plan_of plan) (length run) room a).reading.number
      → outcome_of (plan_of plan) (length run) other a ≡ bare other (outcome_of (plan_of plan) (length run) room a).reading
  unfolding outcome_of accepted_of
  outcome-refused (accepted records) refusal =
      elim (dec_le (length records) room) [
        | yes fits ↦ absurd (refusal.0 (rw (le-leb (length records) room fits)))
        | no full ↦ absurd (refusal.2 (rw (lt-leb (length records) room (omega arith))))
      ]
  outcome-refused (stopped number place held) refusal = refl

  both_refused : {r : Reading} → read_of plan run slots room ≡ bare room r → read_of plan run slots other ≡ bare other r
      → read_of plan run slots other ≡ bare other (read_of plan run slots room).reading
  both_refused e f = f ∙ ap (λ (o : Outcome). bare other o.reading) (sym e)

  refused_by : Course plan run slots → Stopped (read_of plan run slots room).reading.number
      → read_of plan run slots other ≡ bare other (read_of plan run slots room).reading
  unfolding run_of
  refused_by (by_form bad) refusal = both_refused (read_form plan run slots room bad) (read_form plan run slots other bad)
  refused_by (by_length good long) refusal = both_refused (read_long plan run slots room good long) (read_long plan run slots other good long)
  refused_by (by_slots good short none) refusal =
      both_refused (read_slotless plan run slots room good short none) (read_slotless plan run slots other good short none)
  refused_by (by_run good short some) refusal =
      let here = read_runs plan run slots room good short some in
      read_runs plan run slots other good short some
      ∙ outcome-refused _ (rw here at refusal)
      ∙ ap (λ (o : Outcome). bare other o.reading) (sym here)

  pub refused_room : Stopped (read_of plan run slots room).reading.number
      → read_of plan run slots other ≡ bare other (read_of plan run slots room).reading
  refused_room refusal = refused_by (course plan run slots) refusal

-- a call from its outcome
called : {plan run held tree : List ℕ} {r : Reading} {after : List ℕ} → read_of plan run (length held) (length tree) ≡ outcome r after
    → Reads plan run held tree r (zeros (length held)) after
called is = record { outcome_is = sym is; slots_zero = refl }

module _ {plan run held tree : List ℕ} {r : Reading} {held_after after : List ℕ} (read : Reads plan run held tree r held_after after) where
  here : read_of plan run (length held) (length tree) ≡ outcome r after
  here = sym read.outcome_is

  numbered : (number : ℕ) → r.number ≢ number → (read_of plan run (length held) (length tree)).reading.number ≢ number
  numbered number other e = other (sym (ap (λ (o : Outcome). o.reading.number) here) ∙ e)

  -- with more slots
  on_slots : (held' : List ℕ) → length held ≤ length held' → r.number ≢ DEEP → read_of plan run (length held') (length tree) ≡ outcome r after
  on_slots held' slots not-deep = sym (slots_more plan run (length held) (length tree) (length held') slots (numbered DEEP not-deep)) ∙ here

  -- a refusal of the run itself, with other room and more events
  stopped_longer : (more tree' : List ℕ) (slots : ℕ) → length (run ++ more) ≤ 65535 → Stopped r.number
      → read_of plan run slots (length tree) ≡ outcome r after → read_of plan (run ++ more) slots (length tree') ≡ bare (length tree') r
  stopped_longer more tree' slots few refusal is =
      let number : (read_of plan run slots (length tree)).reading.number ≡ r.number = ap (λ (o : Outcome). o.reading.number) is in
      let other : read_of plan run slots (length tree') ≡ bare (length tree') r =
      refused_room plan run slots (length tree) (length tree') (rw number refusal) ∙ ap (λ (o : Outcome). bare (length tree') o.reading) is in
      events_more plan run more slots (length tree') few (rw other refusal) ∙ other

  -- where the tree had no room
  filled : (held' tree' : List ℕ) → length held ≤ length held' → r.number ≡ NO-ROOM → Filled plan run (length held') (length tree') r.records
  filled held' tree' slots full =
      let is = on_slots held' slots (omega arith) in
      let number : (read_of plan run (length held') (length tree)).reading.number ≡ NO-ROOM = ap (λ (o : Outcome). o.reading.number) is ∙ full in
      rw (ap (λ (o : Outcome). o.reading.records) is) at (room_filled plan run (length held') (length tree) (length tree') number)

  still : {slots other : ℕ} → other < r.records → Filled plan run slots other r.records
      → read_of plan run slots other ≡ bare other (answered NO-ROOM 0 r.records 0)
  still small (no_room_still less is) = is
  still small (room_now written long fits is) = absurd (omega arith)

  accepts : {slots other : ℕ} → r.records ≤ other → Filled plan run slots other r.records
      → (records : List ℕ) × (length records ≡ r.records)
      × (read_of plan run slots other ≡ outcome (answered DONE (length run) r.records 0) (records ++ zeros (other - r.records)))
  accepts enough (no_room_still less is) = absurd (omega arith)
  accepts enough (room_now written long fits is) = (written, long, is)

  -- such an answer has no place and no expected kinds
  no_room_answer : r.number ≡ NO-ROOM → r ≡ answered NO-ROOM 0 r.records 0
  no_room_answer full = by_filled (filled held tree (omega arith) full)
    where
      by_filled : Filled plan run (length held) (length tree) r.records → r ≡ answered NO-ROOM 0 r.records 0
      by_filled (no_room_still less is) = ap (λ (o : Outcome). o.reading) (sym here ∙ is)
      by_filled (room_now written long fits is) =
          let done : r.number ≡ DONE = ap (λ (o : Outcome). o.reading.number) (sym here ∙ is) in absurd (omega arith)

  pub bigger_boards : OnBiggerBoards plan run held tree r after
  bigger_boards = record {
    same = λ held' tree' slots room not-deep roomy.
        let is = on_slots held' slots not-deep in
        called
        (room_more (length tree) (length tree') room plan run (length held')
        (λ e. roomy (sym (ap (λ (o : Outcome). o.reading.number) is) ∙ e))
        ∙ ap (wider (length tree) (length tree')) is);
    no_room = λ held' tree' slots full small.
        called (still small (filled held' tree' slots full) ∙ ap (bare (length tree')) (sym (no_room_answer full)));
    room = λ held' tree' slots full enough.
        let found = accepts enough (filled held' tree' slots full) in (found.0, found.1, called found.2);
    longer = λ more held' tree' few slots at_event.
        called (stopped_longer more tree' (length held') few (event_stopped at_event) (on_slots held' slots (event_shallow at_event)));
    deep = λ more tree' few is-deep. called (stopped_longer more tree' (length held) few (omega arith, omega arith, omega arith) here);
  }
