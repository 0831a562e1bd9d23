-- An event and a close of a drum, by the reader's machine on slots.
use mathlib.Core.Path.{◌≡◌, refl, sym, ap, ◌∙◌}
use mathlib.Core.Bool.{Bool, true, false, cond}
use mathlib.Core.List.{List}
use Prim.Native.Nat.{ℕ, suc, ◌+◌, ◌*◌, ◌-◌}
use native.Mathlib.Omega.{arith}
use borrow.Author.Tests.{eq-eqb, ne_eqb}
use lib.Dec.{ltb}
use Rattle.book.specs.Form.{DONE}
use Rattle.running.specs.Running.{Plan, with_slots, StepOf, refused, AnswerOf, expected, tells, UNKNOWN}
use Rattle.running.specs.Stages.{Part, staged_event, stage_of, nodes_of}
use Rattle.reader.specs.declared.Reading.{Reading}
use Rattle.reader.specs.Numbers.{LONG, answered, told, refusal}
use Rattle.reader.specs.Machine.{After, stands, stack, take_of, event_of, close_of}
use Rattle.reader.specs.Reads.{Outcome}
use Rattle.reader.proofs.Bounds.{Safe, event_safe}
use Rattle.reader.proofs.Refusals.{Numbered, numbered_taken, numbered_refused, event_numbered}
use Rattle.reader.proofs.Runs.{SameRun, as_accepted, as_stopped, finish_same}
use Rattle.reader.proofs.Simulation.{Stepped as Met, as_taken, as_refused, Bounded, take_same}
use Rattle.drums.specs.declared.Drum.{Drum}
use Rattle.drums.specs.Drums.{drum_slots, most_events, idle_drum, parts_of, stepped, goes_on, event_ends, end_answers, evented, closed}
use Rattle.drums.specs.Sound.{Sound}

-- a refusal that tells stage and kinds, and one that does not
module _ (number place label kinds : ℕ) where
  pub refusal-told : tells number ≡ true → told number place label kinds ≡ refusal number place label kinds
  refusal-told e = rw e

  pub refusal_silent : tells number ≡ false → answered number place 0 0 ≡ refusal number place label kinds
  refusal_silent e = rw e

module _ (p : Plan) (d : Drum) where
  abbrev pub asked : ℕ → StepOf Part
  asked k = cond (ltb k p.kinds) (staged_event p (with_slots drum_slots) k (parts_of d)) (refused UNKNOWN)

  -- the 65,536th event
  pub step_long : (k : ℕ) → d.events ≡ most_events → stepped (answered LONG 0 0 0) idle_drum ≡ evented p d k
  unfolding evented
  step_long k is = rw (eq-eqb d.events most_events is)

  module _ (b : Bounded p) (h : Sound p.count d) (tree : List ℕ) (k : ℕ) (few : d.events ≡ most_events → ⊥) where
    -- an event on slots is the event of the parts held
    event_met : (known : Bool)
        → Met p.count drum_slots tree d.records (cond known (staged_event p (with_slots drum_slots) k (parts_of d)) (refused UNKNOWN))
        (cond known (take_of p k d.held d.records d.slots tree) (stands UNKNOWN true d.held d.records d.slots tree))
    event_met true = take_same p drum_slots b k d.held d.records d.slots tree h.parts
    event_met false = as_refused refl

    pub asked_numbered : (known : Bool) → Numbered (cond known (staged_event p (with_slots drum_slots) k (parts_of d)) (refused UNKNOWN))
    asked_numbered true = event_numbered p (with_slots drum_slots) k (parts_of d)
    asked_numbered false = numbered_refused UNKNOWN (omega arith) (omega arith)

    pub ends : event_ends p d.events d.records (parts_of d) (asked k) ≡ evented p d k
    unfolding evented
    ends = rw (ne_eqb d.events most_events few)

    module _ (s : After) (is : s ≡ event_of p k d.held d.records d.slots tree) where
      pub met : Met p.count drum_slots tree d.records (asked k) s
      unfolding event_of
      met = rw is (event_met (ltb k p.kinds))

      taken-ends : {step : StepOf Part} → Numbered step → Met p.count drum_slots tree d.records step s → s.spot.number ≡ DONE
          → goes_on p (suc d.events) s.spot.written (stack s.held s.spot.count)
          ≡ event_ends p d.events d.records (parts_of d) step
      unfolding event_ends
      taken-ends numbered_taken (as_taken t) done = λ i. goes_on p (suc d.events) (t.length_is i) (sym t.parts i)
      taken-ends (numbered_refused number low high) (as_refused e) done = absurd (omega arith)

      refused-ends : {step : StepOf Part} → Numbered step → Met p.count drum_slots tree d.records step s → (s.spot.number ≡ DONE → ⊥)
          → stepped (refusal s.spot.number d.events (stage_of (parts_of d)) (expected p (nodes_of (parts_of d)))) idle_drum
          ≡ event_ends p d.events d.records (parts_of d) step
      unfolding event_ends
      refused-ends numbered_taken (as_taken t) not = absurd (not t.number)
      refused-ends (numbered_refused number low high) (as_refused e) not =
          λ i. stepped (refusal (e i) d.events (stage_of (parts_of d)) (expected p (nodes_of (parts_of d)))) idle_drum

      pub step-taken : s.spot.number ≡ DONE
          → goes_on p (suc d.events) s.spot.written (stack s.held s.spot.count) ≡ evented p d k
      step-taken done = taken-ends (asked_numbered (ltb k p.kinds)) met done ∙ ends

      pub step-refused : (s.spot.number ≡ DONE → ⊥)
          → stepped (refusal s.spot.number d.events (stage_of (parts_of d)) (expected p (nodes_of (parts_of d)))) idle_drum
          ≡ evented p d k
      step-refused not = refused-ends (asked_numbered (ltb k p.kinds)) met not ∙ ends

      pub step_safe : s.spot.number ≡ DONE → Safe p.count drum_slots (d.records + (d.held + 2 * p.count - 1)) s
      step_safe done =
          rw is
          (event_safe p drum_slots b k d.held d.records d.slots tree h.parts
          (sym (ap (λ (t : After). t.spot.number) is) ∙ done))

  module _ (h : Sound p.count d) (tree : List ℕ) where
    end_answers_lem : {answer : AnswerOf Part} {o : Outcome} → SameRun p tree d.records d.events answer o
        → o.reading ≡ end_answers p d.events d.records answer
    unfolding end_answers
    end_answers_lem (as_accepted records reads stored) = reads
    end_answers_lem (as_stopped some reads) = reads

    -- a close
    pub close_is : (o : Outcome) → o ≡ close_of p d.events d.held d.records d.slots tree
        → stepped o.reading idle_drum ≡ closed p d
    unfolding closed close_of
    close_is o is =
        ap (λ (r : Reading). stepped r idle_drum)
        (ap (λ (e : Outcome). e.reading) is
        ∙ end_answers_lem
        (finish_same p drum_slots d.events d.held d.records (parts_of d) d.slots tree h.parts))
