-- A drum under way: after an opening and events by one good plan it stands where reading these events comes to.
use mathlib.Core.Path.{◌≡◌, refl, sym, ap, subst, ◌∙◌}
use mathlib.Core.Bool.{Bool, true, false, cond}
use mathlib.Core.List.{List, [], ◌∷◌, ◌++◌}
use Prim.Native.Nat.{ℕ, suc, ◌+◌, ◌*◌, ◌-◌, ◌≤◌, ◌<◌}
use native.Mathlib.Nat.{mul-suc, mul-zero, mul-le-mul}
use native.Mathlib.Decide.{ℕ_discrete}
use native.Mathlib.Omega.{arith}
use borrow.Author.Tests.{le-leb, le-ltb}
use lib.Dec.{ltb}
use lib.ListN.{length, get_or, set, length-append}
use Rattle.words.specs.Words.{zeros}
use Rattle.book.specs.Form.{DONE, judged}
use Rattle.book.specs.declared.Judged.{Judged}
use Rattle.running.specs.Running.{Plan, with_slots, emptied, StepOf, refused, AnswerOf, accepted, stopped, logged, expected}
use Rattle.running.specs.Running.{UNKNOWN, END, RUNAWAY}
use Rattle.running.specs.Stages.{Part, staged_event, staged_finish, staged_reading, stage_of, nodes_of}
use Rattle.plan.specs.Form.{plan_from, plan_of, plan_count, plan_kinds, Runnable}
use Rattle.plan.proofs.Runnable.{some_node, few_nodes, start_node}
use Rattle.reader.specs.Numbers.{LONG, answered, refusal}
use Rattle.reader.specs.Machine.{After, slot_of, stack, SlotsHold, event_of as slotsAfter}
use Rattle.reader.specs.Reads.{Outcome, accepted_of, outcome_of, run_of, read_of}
use Rattle.reader.specs.Steps.{Progress, going, over, advanced, step, steps, closed as ended, begun}
use Rattle.reader.proofs.Fold.{reading_steps}
use Rattle.reader.proofs.Refusals.{Numbered, numbered_taken, numbered_refused}
use Rattle.reader.proofs.Settles.{read_long, read_runs}
use Rattle.reader.proofs.Simulation.{Stepped as Met, as_taken, as_refused, bounded}
use Rattle.reader.proofs.Slots.{stack-length, stack_held}
use Rattle.reader.proofs.Stops.{started}
use Rattle.drums.specs.declared.Drum.{Drum}
use Rattle.drums.specs.declared.Stepped.{Stepped}
use Rattle.drums.specs.Drums.{drum_slots, most_events, most_records, idle_drum, parts_of, due_of, standing, stepped, event_ends, end_answers}
use Rattle.drums.specs.Drums.{opened, evented, closed, call_judged, drum_judged, open_of, event_of, close_of}
use Rattle.drums.specs.Sound.{Sound}
use Rattle.drums.proofs.Parts.{cleared_parts, cleared_hold, standing_is}
use Rattle.drums.proofs.Calls.{call_done, past_on, drum_on}
use Rattle.drums.proofs.Steps.{asked, asked_numbered, met, ends, step_long, step_safe}
use Rattle.drumming.specs.Drumming.{Usable}
use Rattle.drumming.proofs.Standing.{cleared_zero, sound_judged}

-- events after events
steps-append : (p : Plan) (free : ℕ → Bool) (run more : List ℕ) (q : Progress)
    → steps p free q (run ++ more) ≡ steps p free (steps p free q run) more
unfolding steps
steps-append p free [] more q = refl
steps-append p free (k ∷ run) more q = steps-append p free run more (step p free q k)

-- the end writes at most a record for each part held, or it is END
pub data Ended (most : ℕ) : AnswerOf Part → Type 0 where
  ended_accepted : (more : List ℕ) → length more ≤ most → Ended most (accepted more)
  ended_stopped : {place : ℕ} {held : List Part} → Ended most (stopped END place held)

pub finish_ended : (p : Plan) (at : ℕ) (before held : List Part) → Ended (length held) (staged_finish p at before held)
unfolding staged_finish logged
finish_ended p at before [] = ended_accepted [] (omega arith)
finish_ended p at before (q ∷ held) = by_null (p.null q.node) (finish_ended p at before held)
  where
    by_null : (null : Bool) {a : AnswerOf Part} → Ended (length held) a
        → Ended (suc (length held)) (cond null (logged (emptied q.node ∷ []) a) (stopped END at before))
    by_null true (ended_accepted more few) = ended_accepted (emptied q.node ∷ more) (omega arith)
    by_null true ended_stopped = ended_stopped
    by_null false rest = ended_stopped

-- an answer of the end that fits is that of the reading
module _ (p : Plan) where
  ended_reads : (size room : ℕ) (records : List ℕ) {most : ℕ} {a : AnswerOf Part} → Ended most a → length records + most ≤ room
      → (outcome_of p size room (logged records a)).reading ≡ end_answers p size (length records) a
  unfolding outcome_of accepted_of logged end_answers
  ended_reads size room records (ended_accepted more few) fits =
      rw (length-append records more, le-leb (length records + length more) room (omega arith))
  ended_reads size room records ended_stopped fits = refl

  ended_number : (at records : ℕ) {most : ℕ} {a : AnswerOf Part} → Ended most a → (end_answers p at records a).number ≤ END
  unfolding end_answers
  ended_number at records (ended_accepted more few) = omega arith
  ended_number at records ended_stopped = omega arith

one_more : (run : List ℕ) (k : ℕ) → length (run ++ (k ∷ [])) ≡ suc (length run)
one_more run k = length-append run (k ∷ []) ∙ omega arith

module _ (plan : List ℕ) where
  abbrev p : Plan
  p = plan_of plan

  abbrev free : ℕ → Bool
  free = with_slots drum_slots

  -- a drum under way after a run of events
  pub record Under (run : List ℕ) (d : Drum) : Type 0 where
    pub records : List ℕ
    pub goes : steps p free (begun p) run ≡ going (length run) (parts_of d) records
    pub hold : SlotsHold (plan_count plan) drum_slots d.slots d.held
    pub events_is : d.events ≡ length run
    pub records_is : d.records ≡ length records
    pub due_is : d.due ≡ due_of p (parts_of d)
    pub unused : (i : ℕ) → d.held ≤ i → get_or d.slots i 0 ≡ 0
    pub few : length records + d.held ≤ (2 * plan_count plan - 2) * length run + 1
    pub short : length run ≤ most_events
    pub some : 0 < d.held + length run

  -- what one event more comes to: it is taken, or refused as a reading refuses it
  pub data Came (run : List ℕ) (k : ℕ) : Stepped → Type 0 where
    came-taken : {s : Stepped} → s.reading.number ≡ DONE → Under (run ++ (k ∷ [])) s.drum → Came run k s
    came_refused : {s : Stepped} → DONE < s.reading.number → s.reading.number ≤ RUNAWAY
        → ((room : ℕ) → s.reading ≡ (read_of plan (run ++ (k ∷ [])) drum_slots room).reading) → s.drum ≡ idle_drum → Came run k s

  stands_so : (run records slots : List ℕ) (count : ℕ) → SlotsHold (plan_count plan) drum_slots slots count
      → steps p free (begun p) run ≡ going (length run) (stack slots count) records
      → length records + count ≤ (2 * plan_count plan - 2) * length run + 1 → length run ≤ most_events → 0 < count + length run
      → Under run (standing p (length run) (length records) (stack slots count))
  stands_so run records slots count h goes few short some =
      rw (standing_is h p (length run) (length records))
      (record {
        records = records;
        goes = goes ∙ ap (λ (parts : List Part). going (length run) parts records) (sym (cleared_parts h));
        hold = cleared_hold h;
        events_is = refl;
        records_is = refl;
        due_is = ap (due_of p) (sym (cleared_parts h));
        unused = cleared_zero slots count (omega (arith, h.few, h.long));
        few = few;
        short = short;
        some = some;
      })

  module _ {number : ℕ} (u : Usable plan number) where
    runs : Runnable plan (plan_count plan) (plan_kinds plan)
    runs = record { good = u.good; count_is = refl; kinds_is = refl }

    pub called : (call_judged plan number).number ≡ DONE
    called = ap (λ (j : Judged). j.number) (sym (call_done plan refl u.good number u.known))

    -- an opening
    pub opened_under : (d : Drum) (k : ℕ) → Under [] (open_of plan d number k).drum
    unfolding open_of opened plan_from steps stack
    opened_under d k =
        rw (← past_on {j = call_judged plan number} refl d (opened p) called)
        (rw (stack_held (zeros drum_slots) 0 p.start 0 (omega arith) small) at
        (stands_so [] [] (set (zeros drum_slots) 0 (slot_of p.start 0)) 1
        (started (zeros drum_slots) (few_nodes runs) (start_node runs) (omega arith))
        (ap (λ (parts : List Part). going 0 parts []) (sym (stack_held (zeros drum_slots) 0 p.start 0 (omega arith) small)))
        (omega (arith, mul-zero (2 * plan_count plan - 2))) (omega arith) (omega arith)))
      where
        small : p.start < 65536
        small = omega (arith, few_nodes runs, start_node runs)

    module _ {run : List ℕ} {d : Drum} (w : Under run d) where
      -- it has few records, so it is not stale
      all_few : length w.records + d.held ≤ most_records
      all_few =
          omega (
            arith,
            w.few,
            mul-le-mul {n₁ = 2 * plan_count plan - 2} {m₁ = length run} {n₂ = 1022} {m₂ = 65535} (omega (arith, few_nodes runs)) w.short,
          )

      sound : Sound (plan_count plan) d
      sound =
          record {
            parts = w.hold;
            few_events = omega (arith, w.events_is, w.short);
            few_records = omega (arith, w.records_is, all_few);
          }

      pub tested : drum_judged (plan_count plan) d ≡ judged DONE 0
      tested = sound_judged (plan_count plan) d sound (omega (arith, w.some, w.events_is))

      -- its calls
      event_is : (k : ℕ) → evented p d k ≡ event_of plan d number k
      unfolding event_of
      event_is k =
          drum_on plan number {call = call_judged plan number} {test = drum_judged (plan_count plan) d} {nodes = plan_count plan}
          refl called refl d refl
          (evented p d k) (ap (λ (j : Judged). j.number) tested)

      close_is : (k : ℕ) → closed p d ≡ close_of plan d number k
      unfolding close_of
      close_is k =
          drum_on plan number {call = call_judged plan number} {test = drum_judged (plan_count plan) d} {nodes = plan_count plan}
          refl called refl d refl
          (closed p d) (ap (λ (j : Judged). j.number) tested)

      -- reading one event more
      reads_on : (k : ℕ) → steps p free (begun p) (run ++ (k ∷ [])) ≡ advanced (asked p d k) (length run) (parts_of d) w.records
      unfolding steps step advanced
      reads_on k =
          steps-append p free run (k ∷ []) (begun p) ∙ ap (λ (q : Progress). step p free q k) w.goes ∙ by_kind (ltb k p.kinds)
        where
          by_kind : (known : Bool)
              → cond known (advanced (staged_event p free k (parts_of d)) (length run) (parts_of d) w.records)
              (over (stopped UNKNOWN (length run) (parts_of d)))
              ≡ advanced (cond known (staged_event p free k (parts_of d)) (refused UNKNOWN)) (length run) (parts_of d) w.records
          by_kind true = refl
          by_kind false = refl

      -- an event of a kind that the plan does not have stops a reading, with the parts held
      pub unknown_stops : staged_reading p free (run ++ (p.kinds ∷ [])) ≡ stopped UNKNOWN (length run) (parts_of d)
      unfolding ended advanced
      unknown_stops =
          reading_steps p free (run ++ (p.kinds ∷ []))
          ∙ ap (ended p)
          (reads_on p.kinds
          ∙ ap
          (λ (known : Bool).
          advanced (cond known (staged_event p free p.kinds (parts_of d)) (refused UNKNOWN)) (length run) (parts_of d) w.records)
          (le-ltb p.kinds p.kinds (omega arith)))

      refused_reading : (k told room : ℕ) → suc (length run) ≤ most_events
          → steps p free (begun p) (run ++ (k ∷ [])) ≡ over (stopped told (length run) (parts_of d))
          → (read_of plan (run ++ (k ∷ [])) drum_slots room).reading
          ≡ refusal told (length run) (stage_of (parts_of d)) (expected p (nodes_of (parts_of d)))
      unfolding run_of outcome_of ended
      refused_reading k told room early is =
          ap (λ (o : Outcome). o.reading)
          (read_runs plan (run ++ (k ∷ [])) drum_slots room u.good (omega (arith, one_more run k)) (omega arith)
          ∙ ap (outcome_of p (length (run ++ (k ∷ []))) room) (reading_steps p free (run ++ (k ∷ [])) ∙ ap (ended p) is))

      module _ (k : ℕ) where
        -- how the slots stand after the event
        abbrev after : After
        after = slotsAfter p k d.held d.records d.slots []

        event_ends_lem : (d.events ≡ most_events → ⊥) → {taking : StepOf Part} → Numbered taking
            → Met (plan_count plan) drum_slots [] d.records taking after
            → steps p free (begun p) (run ++ (k ∷ [])) ≡ advanced taking (length run) (parts_of d) w.records
            → Came run k (event_ends p d.events d.records (parts_of d) taking)
        unfolding event_ends advanced plan_from
        event_ends_lem early numbered_taken (as_taken {held = then} {records = more} t) goes =
            came-taken refl
            (subst (Under (run ++ (k ∷ []))) same
            (stands_so (run ++ (k ∷ [])) (w.records ++ more) after.held after.spot.count t.safe
            (goes ∙ (λ i. going (sym (one_more run k) i) (t.parts i) (w.records ++ more)))
            (rw (one_more run k)
            (omega (
              arith,
              (step_safe p d (bounded runs) sound [] k early after refl t.number).records,
              t.length_is,
              length-append w.records more,
              w.records_is,
              w.few,
              mul-suc (2 * plan_count plan - 2) (length run),
              some_node runs,
            )))
            (omega (arith, one_more run k, w.short, w.events_is, early)) (omega (arith, one_more run k))))
          where
            same : standing p (length (run ++ (k ∷ []))) (length (w.records ++ more)) (stack after.held after.spot.count)
                ≡ standing p (suc d.events) (d.records + length more) then
            same =
                let events : length (run ++ (k ∷ [])) ≡ suc d.events = one_more run k ∙ ap suc (sym w.events_is) in
                let all : length (w.records ++ more) ≡ d.records + length more =
                length-append w.records more ∙ ap (λ (n : ℕ). n + length more) (sym w.records_is) in
                λ i. standing p (events i) (all i) (sym t.parts i)
        event_ends_lem early (numbered_refused told low high) (as_refused e) goes =
            came_refused {s = stepped (refusal told d.events (stage_of (parts_of d)) (expected p (nodes_of (parts_of d)))) idle_drum}
            (omega arith) high
            (λ room.
            ap (λ (n : ℕ). refusal told n (stage_of (parts_of d)) (expected p (nodes_of (parts_of d)))) w.events_is
            ∙ sym (refused_reading k told room (omega (arith, w.short, w.events_is, early)) goes)) refl

        pub event_came : Came run k (event_of plan d number k)
        unfolding plan_from
        event_came = rw (← event_is k) (by_count (ℕ_discrete d.events most_events))
          where
            by_count : Dec (d.events ≡ most_events) → Came run k (evented p d k)
            by_count (yes long) =
                rw (← step_long p d k long)
                (came_refused {s = stepped (answered LONG 0 0 0) idle_drum} (omega arith) (omega arith)
                (λ room.
                sym
                (ap (λ (o : Outcome). o.reading)
                (read_long plan (run ++ (k ∷ [])) drum_slots room u.good (omega (arith, one_more run k, w.events_is, long))))) refl)
            by_count (no early) =
                rw (← ends p d (bounded runs) sound [] k early)
                (event_ends_lem early (asked_numbered p d (bounded runs) sound [] k early (ltb k p.kinds))
                (met p d (bounded runs) sound [] k early after refl) (reads_on k))

        -- a close
        pub close_answer : (room : ℕ) → most_records ≤ room → (close_of plan d number k).reading ≡ (read_of plan run drum_slots room).reading
        unfolding run_of ended closed
        close_answer room enough =
            ap (λ (s : Stepped). s.reading) (sym (close_is k))
            ∙ (λ i. end_answers p (w.events_is i) (w.records_is i) (staged_finish p (w.events_is i) (parts_of d) (parts_of d)))
            ∙ sym
            (ended_reads p (length run) room w.records (finish_ended p (length run) (parts_of d) (parts_of d))
            (omega (arith, all_few, stack-length d.slots d.held)))
            ∙ sym
            (ap (λ (o : Outcome). o.reading)
            (read_runs plan run drum_slots room u.good w.short (omega arith)
            ∙ ap (outcome_of p (length run) room) (reading_steps p free run ∙ ap (ended p) w.goes)))

        pub close_number : (close_of plan d number k).reading.number ≤ END
        unfolding closed
        close_number =
            rw (← close_is k)
            (ended_number p d.events d.records (finish_ended p d.events (parts_of d) (parts_of d)))

        pub close_idle : (close_of plan d number k).drum ≡ idle_drum
        unfolding closed
        close_idle = ap (λ (s : Stepped). s.drum) (sym (close_is k))
