-- What a reading's outcome says, for any plan and any run.
use mathlib.Core.Path.{◌≡◌, refl, sym, ap, ◌∙◌}
use mathlib.Core.Bool.{Bool, true, false, false≢true, cond}
use mathlib.Core.Logic.{◌⊎◌, inl, inr, ⊎_elim}
use mathlib.Core.List.{List}
use Prim.Native.Nat.{ℕ, ◌+◌, ◌*◌, ◌-◌, ◌≤◌, ◌<◌}
use native.Mathlib.Omega.{arith}
use borrow.Author.Tests.{leb-true, lt-leb, eqb-false}
use lib.Dec.{ltb, leb, eqb}
use lib.ListN.{length, length-append, length-replicate}
use Rattle.words.specs.Words.{zeros}
use Rattle.book.specs.Form.{DONE}
use Rattle.running.specs.Running.{Plan, with_slots, AnswerOf, accepted, stopped, expected, tells, reading, DEEP, UNKNOWN}
use Rattle.running.specs.Stages.{Part, staged_reading, stage_of, nodes_of, bare_answer}
use Rattle.running.proofs.Stages.{reading_bare}
use Rattle.book.specs.Form.{judged}
use Rattle.words.specs.Lists.{first_bad}
use Rattle.book.specs.declared.Judged.{Judged}
use Rattle.plan.specs.Form.{PLAN-FORM, CELL, plan_of, plan_count, plan_kinds, plan_judged, plan_good, cell_good, cells_judged}
use Rattle.reader.specs.declared.Reading.{Reading}
use Rattle.reader.specs.Numbers.{LONG, NO-ROOM, answered, told, refusal}
use Rattle.reader.specs.Reads.{Outcome, Reads, bare, accepted_of, outcome_of, run_of, read_of}
use Rattle.running.proofs.Records.{records_few}
use Rattle.reader.proofs.Refusals.{AnswerNumbered, numbered_stopped, reading_numbered}

-- the answer and what is left of the buffers are determined
pub reads_unique : {plan run held tree : List ℕ} {answer answer' : Reading} {held_after held-after' tree-after tree-after' : List ℕ}
    → Reads plan run held tree answer held_after tree-after → Reads plan run held tree answer' held-after' tree-after'
    → (answer ≡ answer') × (held_after ≡ held-after') × (tree-after ≡ tree-after')
reads_unique r s =
    let same = r.outcome_is ∙ sym s.outcome_is in
    (ap (λ (o : Outcome). o.reading) same, r.slots_zero ∙ sym s.slots_zero, ap (λ (o : Outcome). o.tree) same)

-- what holds on both sides of a test holds of the one taken
by_test : (P : Outcome → Type 0) (test : Bool) {yes-side no-side : Outcome} → (test ≡ true → P yes-side) → (test ≡ false → P no-side)
    → P (cond test yes-side no-side)
by_test P true holds fails = holds refl
by_test P false holds fails = fails refl

module _ (p : Plan) (free : ℕ → Bool) (run : List ℕ) (room : ℕ) where
  -- an outcome is that of an accepted run's records, or a refusal of 8 to 15 with no records and a bare tree
  pub data Told : Outcome → Type 0 where
    told_accepted : (records : List ℕ) → staged_reading p free run ≡ accepted records → Told (accepted_of (length run) room records)
    told-refused : (number place label kinds : ℕ) → 8 ≤ number → number ≤ 15 → Told (bare room (told number place label kinds))

  -- a run accepted with labels is accepted without
  pub accepted_bare : {records : List ℕ} → staged_reading p free run ≡ accepted records → reading p free run ≡ accepted records
  unfolding bare_answer
  accepted_bare is = sym (reading_bare p free run) ∙ ap bare_answer is

  -- what running a plan comes to
  pub run-told : Told (outcome_of p (length run) room (staged_reading p free run))
  unfolding outcome_of
  run-told = by_answer (staged_reading p free run) refl (reading_numbered p free run)
    where
      by_answer : (answer : AnswerOf Part) → staged_reading p free run ≡ answer → AnswerNumbered answer
          → Told (outcome_of p (length run) room answer)
      by_answer (accepted records) is numbered = told_accepted records is
      by_answer (stopped number place held) is (numbered_stopped _ low high) =
          told-refused number place (cond (tells number) (stage_of held) 0) (cond (tells number) (expected p (nodes_of held)) 0)
          (omega arith) (omega arith)

-- a plan that is not judged done is 8 or 9
pub judged_bad : (plan : List ℕ) → ((plan_judged plan).number ≡ DONE → ⊥) → (8 ≤ (plan_judged plan).number) × ((plan_judged plan).number ≤ 9)
unfolding plan_judged cells_judged
judged_bad plan =
    let count = plan_count plan in
    let kinds = plan_kinds plan in
    let all = count * (kinds + 1) in
    by_form (plan_good plan count kinds) (ltb (first_bad (cell_good plan count kinds) all 0) all) _
  where
    Bad : Judged → Type 0
    Bad j = (j.number ≡ DONE → ⊥) → (8 ≤ j.number) × (j.number ≤ 9)

    by_form : (form cell : Bool) (place : ℕ) → Bad (cond form (cond cell (judged CELL place) (judged DONE 0)) (judged PLAN-FORM 0))
    by_form true true place bad = omega arith
    by_form true false place bad = absurd (bad refl)
    by_form false cell place bad = omega arith

-- every reading
pub read_told : (plan run : List ℕ) (slots room : ℕ) → Told (plan_of plan) (with_slots slots) run room (read_of plan run slots room)
unfolding read_of run_of
read_told plan run slots room =
    by_test ToldSo (eqb (plan_judged plan).number DONE)
    (λ good. by_test ToldSo (leb (length run) 65535)
    (λ short. by_test ToldSo (ltb 0 slots)
    (λ some. run-told (plan_of plan) (with_slots slots) run room)
    (λ none. told-refused DEEP 0 0 0 (omega arith) (omega arith)))
    (λ long. told-refused LONG 0 0 0 (omega arith) (omega arith)))
    (λ bad. let (low, high) = judged_bad plan (eqb-false _ _ bad) in
    told-refused (plan_judged plan).number (plan_judged plan).place 0 0 low (omega arith))
  where
    ToldSo : Outcome → Type 0
    ToldSo o = Told (plan_of plan) (with_slots slots) run room o

-- the stage, and what is expected: of a refusal that tells them, by the parts held before the event or the end at its place; of any other
-- answer nothing
pub record Expects (p : Plan) (free : ℕ → Bool) (run : List ℕ) (r : Reading) : Type 0 where
  pub told : tells r.number ≡ true
      → (before : List Part) × (staged_reading p free run ≡ stopped r.number r.place before) × (r.label ≡ stage_of before)
      × (r.expected ≡ expected p (nodes_of before))
  pub silent : tells r.number ≡ false → (r.label ≡ 0) × (r.expected ≡ 0)

module _ (p : Plan) (free : ℕ → Bool) (run : List ℕ) where
  -- an answer that tells nothing
  quiet : (number place records : ℕ) → tells number ≡ false → Expects p free run (answered number place records 0)
  quiet number place records silent = record { told = λ loud. absurd (false≢true (sym silent ∙ loud)); silent = λ none. (refl, refl) }

  refusal_expects : (number place : ℕ) (before : List Part) → staged_reading p free run ≡ stopped number place before
      → Expects p free run (refusal number place (stage_of before) (expected p (nodes_of before)))
  refusal_expects number place before is =
      record { told = λ loud. (before, is, rw loud refl, rw loud refl); silent = λ none. (rw none refl, rw none refl) }

  run_expects : (room : ℕ) → Expects p free run (outcome_of p (length run) room (staged_reading p free run)).reading
  unfolding outcome_of accepted_of
  run_expects room = by_answer (staged_reading p free run) refl
    where
      by_answer : (answer : AnswerOf Part) → staged_reading p free run ≡ answer → Expects p free run (outcome_of p (length run) room answer).reading
      by_answer (accepted records) is =
          by_test (λ o. Expects p free run o.reading) (leb (length records) room)
          (λ fits. quiet DONE _ _ refl) (λ full. quiet NO-ROOM _ _ refl)
      by_answer (stopped number place before) is = refusal_expects number place before is

-- a number below 12 tells nothing
below_tells : {number : ℕ} → number < UNKNOWN → tells number ≡ false
below_tells {number} low = rw (lt-leb UNKNOWN number low)

-- every reading
pub read_expects : (plan run : List ℕ) (slots room : ℕ) → Expects (plan_of plan) (with_slots slots) run (read_of plan run slots room).reading
unfolding read_of run_of
read_expects plan run slots room =
    by_test So (eqb (plan_judged plan).number DONE)
    (λ good. by_test So (leb (length run) 65535)
    (λ short. by_test So (ltb 0 slots) (λ some. run_expects (plan_of plan) (with_slots slots) run room) (λ none. quiet _ _ _ DEEP 0 0 refl))
    (λ long. quiet _ _ _ LONG 0 0 refl))
    (λ bad.
    let low : (plan_judged plan).number < UNKNOWN = omega (arith, (judged_bad plan (eqb-false _ _ bad)).1) in
    quiet _ _ _ (plan_judged plan).number (plan_judged plan).place 0 (below_tells low))
  where
    So : Outcome → Type 0
    So o = Expects (plan_of plan) (with_slots slots) run o.reading

-- an outcome's number is 0 or one of 8 to 16
abbrev NumberListed : Outcome → Type 0
NumberListed o = (o.reading.number ≡ 0) ⊎ ((8 ≤ o.reading.number) × (o.reading.number ≤ 16))

-- what a told outcome says
module _ {p : Plan} {free : ℕ → Bool} {run : List ℕ} {room : ℕ} where
  -- its number
  pub number_listed : {o : Outcome} → Told p free run room o
      → (o.reading.number ≡ 0) ⊎ ((8 ≤ o.reading.number) × (o.reading.number ≤ 16))
  unfolding accepted_of
  number_listed (told_accepted records is) =
      by_test NumberListed (leb (length records) room) (λ fits. inl refl) (λ full. inr (omega arith))
  number_listed (told-refused number place label kinds low high) = inr (omega arith)

  -- the tree keeps its length
  pub tree_length : {o : Outcome} → Told p free run room o → length o.tree ≡ room
  unfolding accepted_of
  tree_length (told_accepted records is) =
      by_test (λ o. length o.tree ≡ room) (leb (length records) room)
      (λ fits. simp (length-append, length-replicate) (omega (arith, leb-true (length records) room fits)))
      (λ full. length-replicate room 0)
  tree_length (told-refused number place label kinds low high) = length-replicate room 0

  -- every refusal leaves the tree zero
  pub refused_zero : {o : Outcome} → Told p free run room o → (o.reading.number ≡ DONE → ⊥) → o.tree ≡ zeros room
  unfolding accepted_of
  refused_zero (told_accepted records is) =
      by_test (λ o. (o.reading.number ≡ DONE → ⊥) → o.tree ≡ zeros room) (leb (length records) room)
      (λ fits refused. absurd (refused refl)) (λ full refused. refl)
  refused_zero (told-refused number place label kinds low high) = λ refused. refl

  -- the count of records is the length of the definition's record list, and of nothing else
  pub records_counted : {o : Outcome} → Told p free run room o → (o.reading.number ≡ DONE) ⊎ (o.reading.number ≡ NO-ROOM)
      → (records : List ℕ) × (reading p free run ≡ accepted records) × (o.reading.records ≡ length records)
  unfolding accepted_of
  records_counted (told_accepted records is) answered-so =
      (records, accepted_bare p free run room is, by_test (λ o. o.reading.records ≡ length records) (leb (length records) room) (λ fits. refl) (λ full. refl))
  records_counted (told-refused number place label kinds low high) answered-so =
      absurd (⊎_elim (λ done. omega arith) (λ full. omega arith) answered-so)

  -- at most (2N − 2) · events + 1 records
  pub records_bounded : {o : Outcome} → Told p free run room o → o.reading.records ≤ (2 * p.count - 2) * length run + 1
  unfolding accepted_of
  records_bounded (told_accepted records is) =
      by_test (λ o. o.reading.records ≤ (2 * p.count - 2) * length run + 1) (leb (length records) room)
      (λ fits. records_few p free run (accepted_bare p free run room is)) (λ full. records_few p free run (accepted_bare p free run room is))
  records_bounded (told-refused number place label kinds low high) = omega arith

  -- the records of an accepted run have room in the tree
  pub records_fit : {o : Outcome} → Told p free run room o → o.reading.number ≡ DONE → o.reading.records ≤ room
  unfolding accepted_of
  records_fit (told_accepted records is) =
      by_test (λ o. o.reading.number ≡ DONE → o.reading.records ≤ room) (leb (length records) room)
      (λ fits done. leb-true (length records) room fits) (λ full done. absurd (omega arith))
  records_fit (told-refused number place label kinds low high) = λ done. absurd (omega arith)
