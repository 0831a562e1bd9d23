-- What comes of a call for one drum, whatever plan and drum: its answer, and how the drum then stands.
use mathlib.Core.Path.{◌≡◌, refl, sym, ap, subst, ◌∙◌}
use mathlib.Core.Bool.{Bool, true, false, cond}
use mathlib.Core.Logic.{◌⊎◌, inl, inr}
use mathlib.Core.List.{List, [], ◌∷◌}
use Prim.Native.Nat.{ℕ, suc, ◌+◌, ◌-◌, ◌≤◌, ◌<◌}
use native.Mathlib.Decide.{dec_lt, ℕ_discrete}
use native.Mathlib.Omega.{arith}
use lib.Dec.{ltb, eqb}
use lib.ListN.{length, get_or, length-append}
use Rattle.words.specs.Words.{zeros}
use Rattle.words.proofs.Lists.{get_d_second}
use Rattle.book.specs.Form.{DONE, judged}
use Rattle.book.specs.declared.Judged.{Judged}
use Rattle.running.specs.Running.{Plan, with_slots, StepOf, refused, AnswerOf, UNKNOWN}
use Rattle.running.specs.Stages.{Part, part, staged_event}
use Rattle.plan.specs.Form.{PLAN-FORM, plan_of, plan_count, plan_judged}
use Rattle.reader.specs.Numbers.{LONG, answered}
use Rattle.reader.proofs.Answers.{judged_bad}
use Rattle.reader.proofs.Refusals.{Numbered, numbered_taken, numbered_refused, event_numbered}
use Rattle.drums.specs.declared.Drum.{Drum}
use Rattle.drums.specs.declared.Stepped.{Stepped}
use Rattle.drums.specs.Drums.{NO-DRUM, IDLE, STALE, board_drums, drum_slots, most_events, idle_drum, idle, stale, parts_of, slots_of, standing}
use Rattle.drums.specs.Drums.{stepped, event_ends, end_answers, opened, evented, closed, call_judged, drum_judged, kept, past, absent_of}
use Rattle.drums.specs.Drums.{open_of, event_of, close_of}
use Rattle.drums.proofs.Calls.{call_form, call_none, past-kept, past_on, absent_form, absent_none}
use Rattle.drumming.specs.Drumming.{Usable}
use Rattle.drumming.proofs.Standing.{zeros_zero}
use Rattle.drumming.proofs.Under.{Ended, ended_accepted, ended_stopped, finish_ended, called}
use Rattle.board.specs.Sequences.{Asked, opening, event, close, asked_of}
use Rattle.calling.specs.Calling.{closing, Unasked, Unjudged, Refusing}

-- an answer that judges is none of those that do not
pub apart : {n : ℕ} → (n ≡ DONE) ⊎ Refusing n → Unjudged n → ⊥
apart (inl is) (inl e) = omega (arith, is, e)
apart (inl is) (inr (inl e)) = omega (arith, is, e)
apart (inl is) (inr (inr (inl e))) = omega (arith, is, e)
apart (inl is) (inr (inr (inr (inl e)))) = omega (arith, is, e)
apart (inl is) (inr (inr (inr (inr e)))) = omega (arith, is, e)
apart (inr (low, high)) (inl e) = omega (arith, low, e)
apart (inr (low, high)) (inr (inl e)) = omega (arith, low, e)
apart (inr (low, high)) (inr (inr (inl e))) = omega (arith, high, e)
apart (inr (low, high)) (inr (inr (inr (inl e)))) = omega (arith, high, e)
apart (inr (low, high)) (inr (inr (inr (inr e)))) = omega (arith, high, e)

-- the answers before a drum is looked at
pub unasked_unjudged : {n : ℕ} → Unasked n → Unjudged n
unasked_unjudged (inl e) = inl e
unasked_unjudged (inr (inl e)) = inr (inl e)
unasked_unjudged (inr (inr e)) = inr (inr (inl e))

pub unasked_fresh : {n : ℕ} → Unasked n → n ≡ STALE → ⊥
unasked_fresh (inl e) is = omega (arith, e, is)
unasked_fresh (inr (inl e)) is = omega (arith, e, is)
unasked_fresh (inr (inr e)) is = omega (arith, e, is)

-- a plan is good, or is refused with 8 or 9
module _ (plan : List ℕ) where
  bad_plan : ((plan_judged plan).number ≡ DONE → ⊥) → Unasked (plan_judged plan).number
  bad_plan bad = by_eight (ℕ_discrete (plan_judged plan).number PLAN-FORM)
    where
      by_eight : Dec ((plan_judged plan).number ≡ PLAN-FORM) → Unasked (plan_judged plan).number
      by_eight (yes is) = inl is
      by_eight (no not) = inr (inl (omega (arith, not, (judged_bad plan bad).0, (judged_bad plan bad).1)))

  -- a call's first tests: it is usable, or refused with 8, 9 or 17
  pub usable : (number : ℕ) → Usable plan number ⊎ Unasked (call_judged plan number).number
  usable number = by_plan (ℕ_discrete (plan_judged plan).number DONE) (dec_lt number board_drums)
    where
      by_plan : Dec ((plan_judged plan).number ≡ DONE) → Dec (number < board_drums)
          → Usable plan number ⊎ Unasked (call_judged plan number).number
      by_plan (yes good) (yes near) = inl (record { good = good; known = near })
      by_plan (yes good) (no far) =
          inr (inr (inr (ap (λ (j : Judged). j.number) (sym (call_none plan refl good number (omega (arith, far)))))))
      by_plan (no bad) near = inr (subst (λ (j : Judged). Unasked j.number) (call_form plan refl bad number) (bad_plan bad))

  -- what is answered for a drum that is not on the list
  pub absent_unasked : Unasked (absent_of plan).number
  absent_unasked = by_plan (ℕ_discrete (plan_judged plan).number DONE)
    where
      by_plan : Dec ((plan_judged plan).number ≡ DONE) → Unasked (absent_of plan).number
      by_plan (yes good) = rw (← absent_none plan refl good {r = answered NO-DRUM 0 0 0} refl) (inr (inr refl))
      by_plan (no bad) =
          rw (← absent_form plan refl bad {r = answered (plan_judged plan).number (plan_judged plan).place 0 0} refl) (bad_plan bad)

-- what comes of a call, a close or not, for a drum that stood so before
pub data Comes (closes : Bool) (before : Drum) (s : Stepped) : Type 0 where
  stays : Unjudged s.reading.number → s.drum ≡ before → Comes closes before s
  goes : closes ≡ false → s.reading ≡ answered DONE s.drum.events s.drum.records 0
      → ((i : ℕ) → s.drum.held ≤ i → get_or s.drum.slots i 0 ≡ 0)
      → Comes closes before s
  ends : (closes ≡ true) ⊎ Refusing s.reading.number → (s.reading.number ≡ DONE) ⊎ Refusing s.reading.number
      → s.drum ≡ idle_drum → Comes closes before s

-- a drum that goes on has its unused slots zero
slots_length : (held : List Part) → length (slots_of held) ≡ length held
unfolding slots_of
slots_length [] = refl
slots_length (q ∷ held) = length-append (slots_of held) _ ∙ omega (arith, slots_length held)

standing_zero : (p : Plan) (events records : ℕ) (held : List Part) (i : ℕ) → (standing p events records held).held ≤ i
    → get_or (standing p events records held).slots i 0 ≡ 0
unfolding standing
standing_zero p events records held i past =
    get_d_second (slots_of held) (zeros (drum_slots - length held)) i (i - length held) (omega (arith, slots_length held, past))
    ∙ zeros_zero (drum_slots - length held) (i - length held)

module _ (p : Plan) (d : Drum) where
  open_comes : Comes false d (opened p)
  unfolding opened standing
  open_comes = goes refl refl (standing_zero p 0 0 (part p.start 0 ∷ []))

  event_comes : (k : ℕ) → Comes false d (evented p d k)
  unfolding evented event_ends standing
  event_comes k = by_count (eqb d.events most_events)
    where
      asked_numbered : (known : Bool) → Numbered (cond known (staged_event p (with_slots drum_slots) k (parts_of d)) (refused UNKNOWN))
      asked_numbered true = event_numbered p (with_slots drum_slots) k (parts_of d)
      asked_numbered false = numbered_refused UNKNOWN (omega arith) (omega arith)

      by_step : {step : StepOf Part} → Numbered step → Comes false d (event_ends p d.events d.records (parts_of d) step)
      by_step (numbered_taken {held} {records}) = goes refl refl (standing_zero p (suc d.events) (d.records + length records) held)
      by_step (numbered_refused number low high) = ends (inr (omega (arith, low), high)) (inr (omega (arith, low), high)) refl

      by_count : (long : Bool)
          → Comes false d (cond long (stepped (answered LONG 0 0 0) idle_drum) (event_ends p d.events d.records (parts_of d)
          (cond (ltb k p.kinds) (staged_event p (with_slots drum_slots) k (parts_of d)) (refused UNKNOWN))))
      by_count true = ends (inr (omega arith, omega arith)) (inr (omega arith, omega arith)) refl
      by_count false = by_step (asked_numbered (ltb k p.kinds))

  close_comes : Comes true d (closed p d)
  unfolding closed end_answers
  close_comes = ends (inl refl) (by_end (finish_ended p d.events (parts_of d) (parts_of d))) refl
    where
      by_end : {most : ℕ} {a : AnswerOf Part} → Ended most a
          → ((end_answers p d.events d.records a).number ≡ DONE) ⊎ Refusing (end_answers p d.events d.records a).number
      by_end (ended_accepted more few) = inl refl
      by_end ended_stopped = inr (omega arith, omega arith)

module _ (plan : List ℕ) (d : Drum) (number k : ℕ) where
  -- past a test
  passes : (closes : Bool) (j : Judged) (rest : Stepped) → (j.number ≡ DONE) ⊎ Unjudged j.number → Comes closes d rest
      → Comes closes d (past j d rest)
  passes closes j rest (inl done) came = subst (Comes closes d) (past_on {test = j} refl d rest done) came
  passes closes j rest (inr un) came =
      subst (Comes closes d) (past-kept {test = j} refl d rest (λ done. apart (inl done) un)) (stays un refl)

  first_test : ((call_judged plan number).number ≡ DONE) ⊎ Unjudged (call_judged plan number).number
  first_test = by_use (usable plan number)
    where
      by_use : Usable plan number ⊎ Unasked (call_judged plan number).number
          → ((call_judged plan number).number ≡ DONE) ⊎ Unjudged (call_judged plan number).number
      by_use (inl u) = inl (called plan u)
      by_use (inr un) = inr (unasked_unjudged un)

  second_test : ((drum_judged (plan_count plan) d).number ≡ DONE) ⊎ Unjudged (drum_judged (plan_count plan) d).number
  unfolding drum_judged
  second_test = by_tests (idle d) (stale (plan_count plan) d)
    where
      by_tests : (idles stales : Bool)
          → ((cond idles (judged IDLE 0) (cond stales (judged STALE 0) (judged DONE 0))).number ≡ DONE)
          ⊎ Unjudged (cond idles (judged IDLE 0) (cond stales (judged STALE 0) (judged DONE 0))).number
      by_tests true stales = inr (inr (inr (inr (inl refl))))
      by_tests false true = inr (inr (inr (inr (inr refl))))
      by_tests false false = inl refl

  past_drum : (closes : Bool) {rest : Stepped} → Comes closes d rest
      → Comes closes d (past (call_judged plan number) d (past (drum_judged (plan_count plan) d) d rest))
  past_drum closes {rest} came =
      passes closes (call_judged plan number) _ first_test (passes closes (drum_judged (plan_count plan) d) rest second_test came)

  pub comes : (a : Asked) → Comes (closing a) d (asked_of a plan d number k)
  unfolding asked_of closing open_of event_of close_of
  comes opening = passes false (call_judged plan number) (opened (plan_of plan)) first_test (open_comes (plan_of plan) d)
  comes event = past_drum false (event_comes (plan_of plan) d k)
  comes close = past_drum true (close_comes (plan_of plan) d)

  -- a call that is refused before the drum is looked at
  refusing : Unasked (call_judged plan number).number → (rest : Stepped)
      → kept (call_judged plan number) d ≡ past (call_judged plan number) d rest
  refusing un rest = past-kept {test = call_judged plan number} refl d rest (λ done. apart (inl done) (unasked_unjudged un))

  pub unasked_answers : Unasked (call_judged plan number).number → (a : Asked)
      → Unasked (asked_of a plan d number k).reading.number
  unfolding asked_of open_of event_of close_of
  unasked_answers un opening = subst (λ (s : Stepped). Unasked s.reading.number) (refusing un _) un
  unasked_answers un event = subst (λ (s : Stepped). Unasked s.reading.number) (refusing un _) un
  unasked_answers un close = subst (λ (s : Stepped). Unasked s.reading.number) (refusing un _) un
