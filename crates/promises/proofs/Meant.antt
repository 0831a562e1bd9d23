-- Demand 3 from the meaning theorem, carried to the bytes of the plan that the compiler wrote.
use Prim.Native.Nat.{ℕ, ◌+◌, ◌-◌, ◌≤◌, ◌<◌}
use native.Mathlib.Decide.{dec_le}
use native.Mathlib.Omega.{arith}
use borrow.Author.Tests.{lt-leb}
use lib.Dec.{ltb, leb}
use mathlib.Core.Bool.{Bool, true, false, cond}
use mathlib.Core.Path.{◌≡◌, sym, ap, ◌∙◌}
use mathlib.Core.List.{List, [], ◌∷◌, ◌++◌}
use mathlib.Core.Logic.{◌⊎◌, inl, inr, ⊎_elim, ◌≢◌}
use lib.ListN.{length, take, get_or}
use lib.Seq.{take_at}
use Rattle.words.specs.Words.{zeros}
use Rattle.book.specs.Book.{Book, WellFormed}
use Rattle.book.specs.Form.{DONE, book_of}
use Rattle.book.specs.declared.Judged.{Judged}
use Rattle.grammar.specs.Derivations.{Lawful}
use Rattle.running.specs.Running.{DEEP, UNEXPECTED, UNKNOWN, Plan, with_slots, unlimited, Answer, AnswerOf, accepted, stopped, reading}
use Rattle.running.specs.Stages.{Part, staged_reading, bare_answer}
use Rattle.running.specs.Cells.{plan_for}
use Rattle.running.proofs.Stages.{reading_bare}
use Rattle.running.proofs.Agrees.{Agree}
use Rattle.running.proofs.Expected.{Carried, carried_stopped, reading_carried, expected_agrees}
use Rattle.running.proofs.Records.{records_few, records_events, records_empty}
use Rattle.running.proofs.Slots.{slots_free, slots_answer}
use Rattle.plan.specs.Form.{plan_of, plan_judged}
use Rattle.writer.specs.Bytes.{plan_bytes}
use Rattle.writer.proofs.PlanBytes.{size_is}
use Rattle.writer.proofs.PlanDone.{plan_done, plan_agrees, plan_reads}
use Rattle.compiler.specs.declared.Compiled.{Compiled}
use Rattle.compiler.specs.Compiles.{Compiles}
use Rattle.compiler.proofs.Promise.{Passed, passed, passed_passes, passed_size}
use Rattle.reader.specs.Numbers.{LONG, NO-ROOM, answered}
use Rattle.reader.specs.Reads.{Outcome, outcome, bare, accepted_of, outcome_of, run_of, read_of}
use Rattle.reader.proofs.Answers.{read_told, records_counted}
use Rattle.reader.proofs.Settles.{read_runs, read_long}
use Rattle.meaning.specs.Meaning.{tree, Means, means_accepted, means_refused, means_end, Tells, tells_none, tells-next}
use Rattle.meaning.proofs.Theorem.{reading_means, reading_tells}
use Rattle.depths.specs.Depths.{Greatest}
use Rattle.depths.proofs.Numbers.{reading_enough}
use Rattle.promises.specs.Promises.{slots_enough, room_enough, ReadsAsMeant, FewRecords}
use Rattle.promises.proofs.More.{slots_more}
use Rattle.promises.proofs.Outcomes.{reads_as_meant}

-- an outcome as a book means it
abbrev Meant : List ℕ → List ℕ → ℕ → Outcome → Type 0
Meant bytes run room o = ReadsAsMeant (book_of bytes) run room o.reading o.tree

-- an accepted run has few records
few_records : (p : Plan) (free : ℕ → Bool) (run : List ℕ) {records : List ℕ} → 0 < p.count → reading p free run ≡ accepted records
    → FewRecords p.count (length run) (length records)
few_records p free [] {records} some e =
    record {
      sharp = records_few p free [] e;
      some_events = λ events. absurd (omega arith);
      no_events = λ none. ap length (records_empty p free e);
    }
few_records p free (k ∷ run) {records} some e =
    record {
      sharp = records_few p free (k ∷ run) e;
      some_events = λ events. records_events p free (k ∷ run) some events e;
      no_events = λ none. absurd (omega arith);
    }

-- where the answer is not NO ROOM, the records have room
room_fits : (p : Plan) (size room : ℕ) (records : List ℕ) → (outcome_of p size room (accepted records)).reading.number ≢ NO-ROOM
    → length records ≤ room
unfolding outcome_of accepted_of
room_fits p size room records roomy =
    elim (dec_le (length records) room) [
      | yes fits ↦ fits
      | no full ↦ absurd (roomy (rw (lt-leb (length records) room (omega arith))))
    ]

-- plans that agree tell the same kinds
tells_agree : {b : Book} {run : List ℕ} {p q : Plan} {answer : Answer} → Agree p q → Carried p.count answer → Tells b run p answer
    → Tells b run q answer
tells_agree agree carried tells_none = tells_none
tells_agree {b} {run} agree (carried_stopped below) (tells-next {i = i} {held} next) =
    tells-next {i = i} {held = held} (rw (expected_agrees agree below) at next)

module _ {bytes : List ℕ} {room : ℕ} {a : Compiled} {plan : List ℕ} (compiled : Compiles bytes room a plan) (is : a.number ≡ DONE) where
  pub known : Passed bytes room plan
  known = passed compiled is

  book_formed : WellFormed (book_of bytes)
  book_formed = (passed_passes compiled is).well_formed

  -- the bytes that the reader is given
  pub given-plan : take a.size plan ≡ plan_bytes (book_of bytes) known.marks
  given-plan =
      (λ i. take (passed_size compiled is i) (known.plan_is i))
      ∙ take_at (plan_bytes (book_of bytes) known.marks) _ _ (size_is (book_of bytes) known.marks)

  -- the plan by the facts, and what the machine without a limit answers by it
  abbrev by_facts : Plan
  by_facts = plan_for (book_of bytes) known.marks

  abbrev free_answer : List ℕ → Answer
  free_answer run = reading by_facts unlimited run

  -- the plan by its bytes
  abbrev written : Plan
  written = plan_of (plan_bytes (book_of bytes) known.marks)

  -- a reading of the plan runs it
  reads_run : (run : List ℕ) (slots tree-room : ℕ) → length run ≤ 65535 → 0 < slots
      → read_of (take a.size plan) run slots tree-room
      ≡ outcome_of written (length run) tree-room (staged_reading written (with_slots slots) run)
  unfolding run_of
  reads_run run slots tree-room short some =
      let bytes_of = plan_bytes (book_of bytes) known.marks in
      let judged-done : (plan_judged bytes_of).number ≡ DONE =
      ap (λ (j : Judged). j.number) (plan_done (book_of bytes) known.marks book_formed) in
      ap (λ (given : List ℕ). read_of given run slots tree-room) given-plan ∙ read_runs bytes_of run slots tree-room judged-done short some

  -- with slots enough it is, but for the labels, what the machine without a limit answers
  reads_free : (run : List ℕ) (slots : ℕ) → slots_enough (book_of bytes).count (length run) ≤ slots
      → bare_answer (staged_reading written (with_slots slots) run) ≡ free_answer run
  reads_free run slots enough =
      reading_bare written (with_slots slots) run
      ∙ plan_reads (book_of bytes) known.marks book_formed (with_slots slots) run
      ∙ slots_free by_facts run slots enough

  -- so it is as the book means, where the tree has room for the records of an accepted run
  reads_meant : (run : List ℕ) (slots tree-room : ℕ) → slots_enough (book_of bytes).count (length run) ≤ slots
      → ((records : List ℕ) → staged_reading written (with_slots slots) run ≡ accepted records → length records ≤ tree-room)
      → Meant bytes run tree-room (outcome_of written (length run) tree-room (staged_reading written (with_slots slots) run))
  reads_meant run slots tree-room enough fits =
      let passes = passed_passes compiled is in
      let agree = plan_agrees (book_of bytes) known.marks book_formed in
      let bare = reads_free run slots enough in
      reads_as_meant passes written tree-room (rw bare (reading_means passes known.marks known.marked run))
      (rw bare (tells_agree agree (reading_carried agree unlimited run) (reading_tells passes known.marks known.marked run))) fits

  pub passed_reads : (run : List ℕ) (slots tree-room : ℕ) → length run ≤ 65535
      → slots_enough (book_of bytes).count (length run) ≤ slots → room_enough (book_of bytes).count (length run) ≤ tree-room
      → Meant bytes run tree-room (read_of (take a.size plan) run slots tree-room)
  unfolding bare_answer
  passed_reads run slots tree-room short slots-do room-does =
      rw (reads_run run slots tree-room short (omega arith))
      (reads_meant run slots tree-room slots-do
      (λ records e.
      let few = records_few by_facts unlimited run (sym (reads_free run slots slots-do) ∙ ap bare_answer e) in
      omega arith))

  -- whatever the slots and the tree room, where the answer is neither DEEP nor NO ROOM
  pub passed_reads_any : (run : List ℕ) (slots tree-room : ℕ) → length run ≤ 65535
      → (read_of (take a.size plan) run slots tree-room).reading.number ≢ DEEP
      → (read_of (take a.size plan) run slots tree-room).reading.number ≢ NO-ROOM
      → Meant bytes run tree-room (read_of (take a.size plan) run slots tree-room)
  passed_reads_any run slots tree-room short not-deep roomy =
      let more = slots + slots_enough (book_of bytes).count (length run) in
      let is = slots_more (take a.size plan) run slots tree-room more (omega arith) not-deep ∙ reads_run run more tree-room short (omega arith) in
      rw is
      (reads_meant run more tree-room (omega arith)
      (λ records e.
      room_fits written (length run) tree-room records
      (λ full. roomy (ap (λ (o : Outcome). o.reading.number) (is ∙ ap (outcome_of written (length run) tree-room) e) ∙ full))))

  -- an accepted run, also where the tree has no room: the records counted are those of the machine by the facts
  counted : (run : List ℕ) (slots tree-room : ℕ)
      → ((read_of (take a.size plan) run slots tree-room).reading.number ≡ DONE) ⊎ ((read_of (take a.size plan) run slots tree-room).reading.number ≡ NO-ROOM)
      → (records : List ℕ) × (reading by_facts (with_slots slots) run ≡ accepted records)
      × ((read_of (take a.size plan) run slots tree-room).reading.records ≡ length records)
  counted run slots tree-room accepts =
      let found = records_counted (read_told (plan_bytes (book_of bytes) known.marks) run slots tree-room) (rw given-plan at accepts) in
      rw given-plan
      (found.0, sym (plan_reads (book_of bytes) known.marks book_formed (with_slots slots) run) ∙ found.1, found.2)

  pub passed_records : (run : List ℕ) (slots tree-room : ℕ) → (read_of (take a.size plan) run slots tree-room).reading.number ≡ DONE
      → FewRecords (book_of bytes).count (length run) (read_of (take a.size plan) run slots tree-room).reading.records
  passed_records run slots tree-room accepts =
      let found = counted run slots tree-room (inl accepts) in
      rw found.2 (few_records by_facts (with_slots slots) run book_formed.some_node found.1)

  -- NO ROOM: the run is lawful, and its tree has that many records
  pub passed_no_room : (run : List ℕ) (slots tree-room : ℕ) → (read_of (take a.size plan) run slots tree-room).reading.number ≡ NO-ROOM
      → (d : Lawful (book_of bytes) run)
      × ((read_of (take a.size plan) run slots tree-room).reading.records ≡ length (tree (book_of bytes).start d))
  passed_no_room run slots tree-room full =
      let found = counted run slots tree-room (inr full) in
      let means = reading_means (passed_passes compiled is) known.marks known.marked run in
      let meant = lawful means (⊎_elim (λ deep. cc) (λ same. sym same ∙ found.1) (slots_answer by_facts run slots)) in
      (meant.0, found.2 ∙ ap length meant.1)
    where
      lawful : {answer : Answer} {records : List ℕ} → Means (book_of bytes) run answer → answer ≡ accepted records
          → (d : Lawful (book_of bytes) run) × (records ≡ tree (book_of bytes).start d)
      lawful {records = records} (means_accepted {records = written} m) is = (m.derivation, (let same : records ≡ written = cc in same) ∙ m.records_are)
      lawful (means_refused r number_is) is = let never : ◌≡◌ {A = ℕ} 0 1 = cc in absurd (omega arith)
      lawful (means_end m) is = let never : ◌≡◌ {A = ℕ} 0 1 = cc in absurd (omega arith)

-- what a run means is never DEEP
refused_shallow : {b : Book} {run : List ℕ} {number place : ℕ} {held : List ℕ} → Means b run (stopped number place held) → number ≢ DEEP
refused_shallow {b} {run} {number} {place} (means_refused r number_is) = by_kind (ltb (get_or run place 0) b.kinds) number_is
  where
    by_kind : (t : Bool) → number ≡ cond t UNEXPECTED UNKNOWN → number ≢ DEEP
    by_kind true is e = omega (arith, is, e)
    by_kind false is e = omega (arith, is, e)
refused_shallow (means_end m) = λ e. omega (arith, e)

means_shallow : {b : Book} {run : List ℕ} (p : Plan) (size room : ℕ) (answer : AnswerOf Part) → Means b run (bare_answer answer)
    → (outcome_of p size room answer).reading.number ≢ DEEP
unfolding outcome_of accepted_of bare_answer
means_shallow p size room (accepted records) means = by_room (leb (length records) room)
  where
    by_room : (t : Bool)
        → (cond t (outcome (answered DONE size (length records) 0) (records ++ zeros (room - length records)))
        (bare room (answered NO-ROOM 0 (length records) 0))).reading.number
        ≢ DEEP
    by_room true e = omega (arith, e)
    by_room false e = omega (arith, e)
means_shallow p size room (stopped number place held) means = refused_shallow means

-- slots as many as the greatest number of parts ever held are enough for every run
module _ {bytes : List ℕ} {room : ℕ} {a : Compiled} {plan : List ℕ} (compiled : Compiles bytes room a plan) (is : a.number ≡ DONE)
    {m : ℕ} (greatest : Greatest (book_of bytes) m) where
  pub passed_shallow : (run : List ℕ) (slots tree-room : ℕ) → 0 < slots → m ≤ slots
      → (read_of (take a.size plan) run slots tree-room).reading.number ≢ DEEP
  unfolding known
  passed_shallow run slots tree-room some enough =
      elim (dec_le (length run) 65535) [
        | yes short ↦
            let facts = passed compiled is in
            let passes = passed_passes compiled is in
            let plan-by = plan_of (plan_bytes (book_of bytes) facts.marks) in
            let bare-answer =
            reading_bare plan-by (with_slots slots) run
            ∙ plan_reads (book_of bytes) facts.marks (book_formed compiled is) (with_slots slots) run
            ∙ reading_enough passes facts.marks facts.marked greatest enough run in
            rw (reads_run compiled is run slots tree-room short some)
            (means_shallow {b = book_of bytes} {run = run} plan-by (length run) tree-room (staged_reading plan-by (with_slots slots) run)
            (rw bare-answer (reading_means passes facts.marks facts.marked run)))
        | no long ↦ λ e. omega (arith, e, ap (λ (o : Outcome). o.reading.number) (too_long (omega arith)))
      ]
    where
      too_long : 65535 < length run → read_of (take a.size plan) run slots tree-room ≡ bare tree-room (answered LONG 0 0 0)
      too_long long =
          let facts = passed compiled is in
          let good : (plan_judged (plan_bytes (book_of bytes) facts.marks)).number ≡ DONE =
          ap (λ (j : Judged). j.number) (plan_done (book_of bytes) facts.marks (book_formed compiled is)) in
          read_long (take a.size plan) run slots tree-room (rw (given-plan compiled is) good) long
