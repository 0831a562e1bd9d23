-- The promises of a drum by one good plan.
use mathlib.Core.Path.{◌≡◌, refl, sym, ap, ◌∙◌}
use mathlib.Core.List.{List, [], ◌∷◌, ◌++◌}
use Prim.Native.Nat.{ℕ}
use native.Mathlib.Omega.{arith}
use Rattle.book.specs.Form.{DONE, judged}
use Rattle.plan.specs.Form.{plan_of, plan_count}
use Rattle.reader.specs.Reads.{read_of}
use Rattle.drums.specs.declared.Drum.{Drum}
use Rattle.drums.specs.declared.Stepped.{Stepped}
use Rattle.drums.specs.Drums.{IDLE, STALE, drum_slots, idle_drum, kept, evented, closed, call_judged, event_of, close_of}
use Rattle.drums.proofs.Calls.{drum_kept}
use Rattle.drumming.specs.Drumming.{Usable, Stands, after-opening, after_event, AsReading, Lives, lives_idle, lives_open, NeverStale}
use Rattle.drumming.proofs.Standing.{idle-judged}
use Rattle.drumming.proofs.Under.{Under, Came, came-taken, came_refused, called, opened_under, tested, event_came}
use Rattle.drumming.proofs.Under.{close_answer, close_number, close_idle}

-- what an event that came so says
module _ {plan : List ℕ} {run : List ℕ} {k : ℕ} where
  taken_under : {s : Stepped} → s.reading.number ≡ DONE → Came plan run k s → Under plan (run ++ (k ∷ [])) s.drum
  taken_under done (came-taken is w) = w
  taken_under done (came_refused more high reads idles) = absurd (omega arith)

  refused_as : {s : Stepped} → Came plan run k s → (s.reading.number ≡ DONE → ⊥)
      → ((room : ℕ) → s.reading ≡ (read_of plan (run ++ (k ∷ [])) drum_slots room).reading) × (s.drum ≡ idle_drum)
  refused_as (came-taken is w) not = absurd (not is)
  refused_as (came_refused more high reads idles) not = (reads, idles)

  not_stale : {s : Stepped} → Came plan run k s → s.reading.number ≡ STALE → ⊥
  not_stale (came-taken is w) stale = omega (arith, is, stale)
  not_stale (came_refused more high reads idles) stale = omega (arith, high, stale)

module _ {plan : List ℕ} {number : ℕ} (u : Usable plan number) where
  pub stands_under : {run : List ℕ} {d : Drum} → Stands plan number run d → Under plan run d
  stands_under (after-opening d k) = opened_under plan u d k
  stands_under (after_event k s done) = taken_under done (event_came plan u (stands_under s) k)

  -- a drum's calls answer as a reading of its events
  pub as_reading : {run : List ℕ} {d : Drum} → Stands plan number run d → AsReading plan number run d
  as_reading s =
      let w = stands_under s in
      record {
        close_reads = λ k room enough. close_answer plan u w k room enough;
        close_idles = λ k. close_idle plan u w k;
        refused_reads = λ k room not. (refused_as (event_came plan u w k) not).0 room;
        refused_idles = λ k not. (refused_as (event_came plan u w k) not).1;
        events_counted = w.events_is;
        unused_zero = w.unused;
        open_sound = tested plan u w;
      }

  -- an idle drum stays so
  event_kept : (k : ℕ) → kept (judged IDLE 0) idle_drum ≡ event_of plan idle_drum number k
  unfolding event_of
  event_kept k =
      drum_kept plan number {call = call_judged plan number} {test = judged IDLE 0} {nodes = plan_count plan}
      refl (called plan u) refl idle_drum
      (idle-judged (plan_count plan)) (evented (plan_of plan) idle_drum k) (λ e. omega (arith, e))

  close_kept : (k : ℕ) → kept (judged IDLE 0) idle_drum ≡ close_of plan idle_drum number k
  unfolding close_of
  close_kept k =
      drum_kept plan number {call = call_judged plan number} {test = judged IDLE 0} {nodes = plan_count plan}
      refl (called plan u) refl idle_drum
      (idle-judged (plan_count plan)) (closed (plan_of plan) idle_drum) (λ e. omega (arith, e))

  event_goes : {run : List ℕ} {d : Drum} {k : ℕ} → Stands plan number run d → {s : Stepped}
      → s ≡ event_of plan d number k → Came plan run k s
      → Lives plan number (event_of plan d number k).drum
  event_goes {k = k} stands same (came-taken is w) =
      lives_open (after_event k stands (ap (λ (s : Stepped). s.reading.number) (sym same) ∙ is))
  event_goes stands same (came_refused more high reads idles) = rw (ap (λ (s : Stepped). s.drum) (sym same) ∙ idles) lives_idle

  -- from a zero board a drum is never stale
  pub never_stale : {d : Drum} → Lives plan number d → NeverStale plan number d
  never_stale lives_idle =
      record {
        open_lives = λ k. lives_open (after-opening idle_drum k);
        event_lives = λ k. rw (← event_kept k) lives_idle;
        close_lives = λ k. rw (← close_kept k) lives_idle;
        event_answers = λ k. rw (← event_kept k) (λ e. omega (arith, e));
        close_answers = λ k. rw (← close_kept k) (λ e. omega (arith, e));
      }
  never_stale (lives_open {run} {d} s) =
      let w = stands_under s in
      record {
        open_lives = λ k. lives_open (after-opening d k);
        event_lives = λ k. event_goes s refl (event_came plan u w k);
        close_lives = λ k. rw (close_idle plan u w k) lives_idle;
        event_answers = λ k. not_stale (event_came plan u w k);
        close_answers = λ k e. omega (arith, e, close_number plan u w k);
      }
