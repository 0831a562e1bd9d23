-- Calls with plans that are alike but for what is due answer the same and leave drums that are alike.
use mathlib.Core.Path.{◌≡◌, refl, sym, ap, subst, ◌∙◌}
use mathlib.Core.Bool.{Bool, true, false, not, ◌||◌, cond}
use mathlib.Core.List.{List, [], ◌∷◌}
use Prim.Native.Nat.{ℕ, zero, suc, ◌+◌, ◌<◌}
use native.Mathlib.Omega.{arith}
use borrow.Author.Tests.{eqb-true, ltb-true}
use lib.Dec.{ltb, eqb}
use lib.ListN.{length, get_or}
use Rattle.words.proofs.FirstBad.{every_is}
use Rattle.words.proofs.Tests.{never}
use Rattle.book.specs.Form.{DONE, judged}
use Rattle.book.specs.declared.Judged.{Judged}
use Rattle.running.specs.Running.{Plan, with_slots, StepOf, taken, refused, AnswerOf, accepted, stopped, logged, emptied, UNKNOWN, END}
use Rattle.running.specs.Stages.{Part, staged_event, staged_finish, stage_of, nodes_of}
use Rattle.running.proofs.Agrees.{Agree, Below, none_held, one_held}
use Rattle.running.proofs.Expected.{expected_agrees}
use Rattle.running.proofs.StagesAgree.{staged_event_same, staged_finish_same}
use Rattle.plan.specs.Form.{plan_from, plan_of, plan_count, AlikeButDue}
use Rattle.plan.proofs.Alike.{count_same, judged_alike, plans_agree, tags_agree}
use Rattle.reader.specs.declared.Reading.{Reading}
use Rattle.reader.specs.Numbers.{LONG, answered, refusal}
use Rattle.reader.specs.Machine.{node_in, stack}
use Rattle.drums.specs.declared.Drum.{Drum}
use Rattle.drums.specs.declared.Stepped.{Stepped}
use Rattle.drums.specs.Drums.{NO-DRUM, IDLE, STALE, board_drums, drum_slots, most_events, most_records, idle_drum, idle, nodes_held, stale}
use Rattle.drums.specs.Drums.{parts_of, standing, stepped, event_ends, end_answers, opened, evented, closed, call_judged, drum_judged, past}
use Rattle.drums.specs.Drums.{open_of, event_of, close_of}
use Rattle.drums.proofs.Calls.{call_good}
use Rattle.drums.proofs.Steps.{asked}
use Rattle.drumming.specs.Alike.{DrumsAlike, StepsAlike, CallsAlike}
use Rattle.drumming.specs.Drumming.{Stands, after-opening, after_event}
use Rattle.drumming.proofs.Standing.{busy}

pub same_drum : (d : Drum) → DrumsAlike d d
same_drum d = record { slots = refl; held = refl; events = refl; records = refl; idles = refl }

-- a drum that passes its test holds nodes below the count
no_stale : (a b : Bool) → (cond a (judged IDLE 0) (cond b (judged STALE 0) (judged DONE 0))).number ≡ DONE → b ≡ false
no_stale true b e = absurd (omega (arith, e))
no_stale false true e = absurd (omega (arith, e))
no_stale false false e = refl

no_stray : (a b : Bool) → (a || not b) ≡ false → b ≡ true
no_stray true b e = never (sym e)
no_stray false true e = refl
no_stray false false e = never (sym e)

pub stack_below : {nodes : ℕ} (slots : List ℕ) (held : ℕ) → ((i : ℕ) → i < held → node_in (get_or slots i 0) < nodes)
    → Below nodes (nodes_of (stack slots held))
unfolding stack
stack_below slots zero small = none_held
stack_below slots (suc held) small =
    one_held (small held (omega arith)) (stack_below slots held (λ i below. small i (omega arith)))

parts_below : (nodes : ℕ) (d : Drum) → (drum_judged nodes d).number ≡ DONE → Below nodes (nodes_of (parts_of d))
unfolding drum_judged stale nodes_held
parts_below nodes d good =
    let all = no_stray (ltb drum_slots d.held || ltb most_events d.events || ltb most_records d.records)
    (nodes_held nodes d.slots d.held) (no_stale (idle d) (stale nodes d) good) in
    stack_below d.slots d.held
    (λ i below. ltb-true _ _ (every_is (λ j. ltb (node_in (get_or d.slots j 0)) nodes) d.held all i below))

-- past a test
past_alike : (j : Judged) {d e : Drum} → DrumsAlike d e → {one other : Stepped} → (j.number ≡ DONE → StepsAlike one other)
    → StepsAlike (past j d one) (past j e other)
unfolding past
past_alike j {d} {e} same {one} {other} on = by_number (eqb j.number DONE) refl
  where
    by_number : (good : Bool) → eqb j.number DONE ≡ good
        → StepsAlike (cond good one (stepped (answered j.number j.place 0 0) d))
        (cond good other (stepped (answered j.number j.place 0 0) e))
    by_number true is = on (eqb-true _ _ is)
    by_number false is = record { answer = refl; drums = same }

-- a drum that goes on
standing_alike : (p q : Plan) (events records : ℕ) (held : List Part) → 0 < length held + events
    → DrumsAlike (standing p events records held) (standing q events records held)
unfolding standing
standing_alike p q events records held some =
    record { slots = refl; held = refl; events = refl; records = refl; idles = busy _ some ∙ sym (busy _ some) }

-- the end stops with the parts held before it
data Closes (before : List Part) : AnswerOf Part → Type 0 where
  closes_accepted : {more : List ℕ} → Closes before (accepted more)
  closes_stopped : {number place : ℕ} → Closes before (stopped number place before)

finish_closes : (p : Plan) (at : ℕ) (before held : List Part) → Closes before (staged_finish p at before held)
unfolding staged_finish logged
finish_closes p at before [] = closes_accepted
finish_closes p at before (h ∷ held) = by_null (p.null h.node) (finish_closes p at before held)
  where
    by_null : (null : Bool) {a : AnswerOf Part} → Closes before a
        → Closes before (cond null (logged (emptied h.node ∷ []) a) (stopped END at before))
    by_null true closes_accepted = closes_accepted
    by_null true closes_stopped = closes_stopped
    by_null false rest = closes_stopped

-- an event, or LONG
abbrev unless_long : Bool → Stepped → Stepped
unless_long long step = cond long (stepped (answered LONG 0 0 0) idle_drum) step

-- plans that agree, on one drum
module _ {p q : Plan} (agree : Agree p q) (tags : (n : ℕ) → n < p.count → p.tag n ≡ q.tag n) where
  opened_alike : StepsAlike (opened p) (opened q)
  unfolding opened standing
  opened_alike = record {
    answer = refl;
    drums =
        subst (λ (n : ℕ). DrumsAlike (opened p).drum (standing q 0 0 (record { node = n; label = 0 } ∷ []))) agree.start
        (standing_alike p q 0 0 (record { node = p.start; label = 0 } ∷ []) (omega arith));
  }

  ends_alike : (at records : ℕ) (before : List Part) → Below p.count (nodes_of before) → (step : StepOf Part)
      → StepsAlike (event_ends p at records before step) (event_ends q at records before step)
  unfolding event_ends
  ends_alike at records before below (taken held more) =
      record { answer = refl; drums = standing_alike p q (suc at) (records + length more) held (omega arith) }
  ends_alike at records before below (refused number) = record {
    answer = ap (λ (kinds : ℕ). refusal number at (stage_of before) kinds) (expected_agrees agree below);
    drums = same_drum idle_drum;
  }

  end_same : (at records : ℕ) {before : List Part} → Below p.count (nodes_of before) → {a : AnswerOf Part} → Closes before a
      → end_answers p at records a ≡ end_answers q at records a
  unfolding end_answers
  end_same at records below closes_accepted = refl
  end_same at records {before} below (closes_stopped {number} {place}) =
      ap (λ (kinds : ℕ). refusal number place (stage_of before) kinds) (expected_agrees agree below)

  module _ (d : Drum) (below : Below p.count (nodes_of (parts_of d))) where
    asked_same : (k : ℕ) → asked p d k ≡ asked q d k
    asked_same k =
        known (ltb k p.kinds) refl
        ∙ ap (λ (n : ℕ). cond (ltb k n) (staged_event q (with_slots drum_slots) k (parts_of d)) (refused UNKNOWN)) agree.kinds
      where
        known : (b : Bool) → ltb k p.kinds ≡ b
            → cond b (staged_event p (with_slots drum_slots) k (parts_of d)) (refused UNKNOWN)
            ≡ cond b (staged_event q (with_slots drum_slots) k (parts_of d)) (refused UNKNOWN)
        known true is = staged_event_same agree tags (with_slots drum_slots) k (ltb-true k p.kinds is) (parts_of d) below
        known false is = refl

    evented_alike : (k : ℕ) → StepsAlike (evented p d k) (evented q d k)
    unfolding evented
    evented_alike k = by_count (eqb d.events most_events)
      where
        by_count : (long : Bool)
            → StepsAlike (unless_long long (event_ends p d.events d.records (parts_of d) (asked p d k)))
            (unless_long long (event_ends q d.events d.records (parts_of d) (asked q d k)))
        by_count true = record { answer = refl; drums = same_drum idle_drum }
        by_count false =
            subst
            (λ (step : StepOf Part).
            StepsAlike (event_ends p d.events d.records (parts_of d) (asked p d k))
            (event_ends q d.events d.records (parts_of d) step))
            (asked_same k) (ends_alike d.events d.records (parts_of d) below (asked p d k))

    closed_alike : StepsAlike (closed p d) (closed q d)
    unfolding closed
    closed_alike = record {
      answer =
          end_same d.events d.records below (finish_closes p d.events (parts_of d) (parts_of d))
          ∙ ap (end_answers q d.events d.records)
          (staged_finish_same agree tags (with_slots drum_slots) d.events (parts_of d) (parts_of d) below);
      drums = same_drum idle_drum;
    }

module _ {plan other : List ℕ} (alike : AlikeButDue plan other) {d e : Drum} (same : DrumsAlike d e) (number : ℕ) where
  call_same : call_judged plan number ≡ call_judged other number
  unfolding call_judged
  call_same =
      ap
      (λ (j : Judged). cond (eqb j.number DONE) (cond (ltb number board_drums) (judged DONE 0) (judged NO-DRUM 0)) j)
      (judged_alike alike)

  test_same : drum_judged (plan_count plan) d ≡ drum_judged (plan_count other) e
  unfolding drum_judged stale
  test_same =
      λ i.
      cond (same.idles i) (judged IDLE 0)
      (cond
      (ltb drum_slots (same.held i) || ltb most_events (same.events i) || ltb most_records (same.records i)
      || not (nodes_held (count_same alike i) (same.slots i) (same.held i)))
      (judged STALE 0) (judged DONE 0))

  -- the other drum is called as this one
  evented_as : (q : Plan) (k : ℕ) → evented q d k ≡ evented q e k
  unfolding evented
  evented_as q k =
      λ i.
      cond (eqb (same.events i) most_events) (stepped (answered LONG 0 0 0) idle_drum)
      (event_ends q (same.events i) (same.records i) (stack (same.slots i) (same.held i))
      (cond (ltb k q.kinds) (staged_event q (with_slots drum_slots) k (stack (same.slots i) (same.held i))) (refused UNKNOWN)))

  closed_as : (q : Plan) → closed q d ≡ closed q e
  unfolding closed
  closed_as q =
      λ i.
      stepped
      (end_answers q (same.events i) (same.records i)
      (staged_finish q (same.events i) (stack (same.slots i) (same.held i)) (stack (same.slots i) (same.held i))))
      idle_drum

  agreed : (call_judged plan number).number ≡ DONE → Agree (plan_of plan) (plan_of other)
  agreed good = plans_agree alike (call_good plan number good)

  -- past both tests
  called : {one that then : Stepped} → that ≡ then
      → ((call_judged plan number).number ≡ DONE → (drum_judged (plan_count plan) d).number ≡ DONE → StepsAlike one that)
      → StepsAlike (past (call_judged plan number) d (past (drum_judged (plan_count plan) d) d one))
      (past (call_judged other number) e (past (drum_judged (plan_count other) e) e then))
  called {one} is on =
      subst (λ (t : Stepped). StepsAlike (past (call_judged plan number) d (past (drum_judged (plan_count plan) d) d one)) t)
      (λ i. past (call_same i) e (past (test_same i) e (is i)))
      (past_alike (call_judged plan number) same (λ good. past_alike (drum_judged (plan_count plan) d) same (on good)))

  -- plans alike but for what is due, on drums alike but for it: every call answers the same and leaves such drums
  pub calls_alike : CallsAlike plan other d e number
  unfolding open_of event_of close_of plan_from
  calls_alike = record {
    opens = λ k.
        subst
        (λ (j : Judged). StepsAlike (past (call_judged plan number) d (opened (plan_of plan))) (past j e (opened (plan_of other))))
        call_same
        (past_alike (call_judged plan number) same (λ good. opened_alike (agreed good) (tags_agree alike)));
    events = λ k.
        called (evented_as (plan_of other) k)
        (λ good sound. evented_alike (agreed good) (tags_agree alike) d (parts_below (plan_count plan) d sound) k);
    closes = λ k.
        called (closed_as (plan_of other))
        (λ good sound. closed_alike (agreed good) (tags_agree alike) d (parts_below (plan_count plan) d sound));
  }

-- a drum that stands by one of the plans stands by the other, alike but for what is due
pub stands_alike : {plan other : List ℕ} → AlikeButDue plan other → {number : ℕ} {run : List ℕ} {d : Drum} → Stands plan number run d
    → (e : Drum) × Stands other number run e × DrumsAlike d e
stands_alike {plan} {other} alike {number} (after-opening d k) =
    ((open_of other d number k).drum, after-opening d k, ((calls_alike alike (same_drum d) number).opens k).drums)
stands_alike {plan} {other} alike {number} (after_event k stands done) =
    let (e, there, same) = stands_alike alike stands in
    let step = (calls_alike alike same number).events k in
    ((event_of other e number k).drum, after_event k there (ap (λ (r : Reading). r.number) (sym step.answer) ∙ done), step.drums)
