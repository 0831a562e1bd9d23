-- What a call leaves of a list of drums.
use mathlib.Core.Path.{◌≡◌, refl, sym, ap, subst, ◌∙◌}
use mathlib.Core.Bool.{Bool, true, false, not}
use mathlib.Core.Logic.{◌⊎◌, inl, inr}
use mathlib.Core.List.{List}
use Prim.Native.Nat.{ℕ, ◌<◌}
use native.Mathlib.Omega.{arith}
use lib.Dec.{T, ltb, ltb→lt, lt→ltb}
use lib.ListN.{length, get_or, set}
use lib.Seq.{get_or-set_same, set-get_or}
use Rattle.words.proofs.Tests.{never}
use Rattle.book.specs.Form.{DONE}
use Rattle.reader.specs.declared.Reading.{Reading}
use Rattle.drums.specs.declared.Drum.{Drum}
use Rattle.drums.specs.declared.Stepped.{Stepped}
use Rattle.drums.specs.Drums.{idle_drum, call_judged, absent_of}
use Rattle.drumming.specs.Drumming.{Usable}
use Rattle.board.specs.Board.{Called, calls}
use Rattle.board.specs.Sequences.{asked_of, Call, call_on, Touches}
use Rattle.board.proofs.Calls.{called_on, called_off}
use Rattle.board.proofs.Isolation.{called_touches}
use Rattle.calling.specs.Calling.{closing, Unasked, Unjudged, Refusing, Leaves}
use Rattle.calling.proofs.Drum.{apart, unasked_unjudged, usable, absent_unasked, unasked_answers, Comes, stays, goes, ends, comes}

module _ (plan : List ℕ) (drums : List Drum) (c : Call) where
  -- what comes of the call for its drum
  abbrev pub step : Stepped
  step = asked_of c.asked plan (get_or drums c.number idle_drum) c.number c.kind

  -- its drum is on the list, or it is not
  pub data Found : Type 0 where
    found : c.number < length drums → call_on plan drums c ≡ calls step.reading (set drums c.number step.drum) → Found
    missing : call_on plan drums c ≡ calls (absent_of plan) drums → Found

  pub find : Found
  find = by_test (ltb c.number (length drums)) refl
    where
      by_test : (on : Bool) → ltb c.number (length drums) ≡ on → Found
      by_test true is =
          let on : T (ltb c.number (length drums)) = subst T (sym is) tt in
          found (ltb→lt c.number (length drums) on) (called_on (asked_of c.asked) plan drums c.number c.kind on)
      by_test false is =
          missing
          (called_off (asked_of c.asked) plan drums c.number c.kind
          (subst (λ (b : Bool). T (not b)) (sym is) tt))

  pub touching : Touches drums c.number (call_on plan drums c).drums
  touching = called_touches (asked_of c.asked) plan c.number c.kind drums

  -- on the list: its answer, and how the drum then stands
  module _ (on : c.number < length drums) where
    is_on : call_on plan drums c ≡ calls step.reading (set drums c.number step.drum)
    is_on = called_on (asked_of c.asked) plan drums c.number c.kind (lt→ltb c.number (length drums) on)

    pub answers_step : (call_on plan drums c).reading ≡ step.reading
    answers_step = ap (λ (a : Called). a.reading) is_on

    pub stands-step : get_or (call_on plan drums c).drums c.number idle_drum ≡ step.drum
    stands-step = ap (λ (a : Called). get_or a.drums c.number idle_drum) is_on
        ∙ get_or-set_same drums c.number step.drum idle_drum on

  on_leaves : (s : Stepped) → c.number < length drums → Comes (closing c.asked) (get_or drums c.number idle_drum) s
      → Touches drums c.number (set drums c.number s.drum) → Leaves drums c (calls s.reading (set drums c.number s.drum))
  on_leaves s on (stays un same) touch =
      record {
        listed = inr (inr un);
        touches = touch;
        nothing = λ u. ap (set drums c.number) same ∙ set-get_or drums c.number idle_drum;
        so_far = λ keeps done. absurd (apart (inl done) un);
        unused_zero = λ keeps done. absurd (apart (inl done) un);
        refused-idle = λ refuses. absurd (apart (inr refuses) un);
        closed-idle = λ closes not. absurd (not un);
      }
  on_leaves s on (goes keeps told zero) touch =
      let done : s.reading.number ≡ DONE = ap (λ (r : Reading). r.number) told in
      record {
        listed = inl done;
        touches = touch;
        nothing = λ un. absurd (apart (inl done) un);
        so_far = λ keeps done. rw (get_or-set_same drums c.number s.drum idle_drum on) told;
        unused_zero = λ keeps done. rw (get_or-set_same drums c.number s.drum idle_drum on) zero;
        refused-idle = λ refuses. absurd (omega (arith, done, refuses.0));
        closed-idle = λ closes not. never (sym keeps ∙ closes);
      }
  on_leaves s on (ends over known idles) touch =
      record {
        listed = by_known known;
        touches = touch;
        nothing = λ un. absurd (apart known un);
        so_far = λ keeps done. absurd (by_end over keeps done);
        unused_zero = λ keeps done. absurd (by_end over keeps done);
        refused-idle = λ refuses. get_or-set_same drums c.number s.drum idle_drum on ∙ idles;
        closed-idle = λ closes not. get_or-set_same drums c.number s.drum idle_drum on ∙ idles;
      }
    where
      by_known : {n : ℕ} → (n ≡ DONE) ⊎ Refusing n → (n ≡ DONE) ⊎ (Refusing n ⊎ Unjudged n)
      by_known (inl done) = inl done
      by_known (inr refuses) = inr (inl refuses)

      by_end : {closes : Bool} {n : ℕ} → (closes ≡ true) ⊎ Refusing n → closes ≡ false → n ≡ DONE → ⊥
      by_end (inl closes) keeps done = never (sym keeps ∙ closes)
      by_end (inr refuses) keeps done = omega (arith, done, refuses.0)

  off_leaves : Touches drums c.number drums → Leaves drums c (calls (absent_of plan) drums)
  off_leaves touch =
      let un = unasked_unjudged (absent_unasked plan) in
      record {
        listed = inr (inr un);
        touches = touch;
        nothing = λ u. refl;
        so_far = λ keeps done. absurd (apart (inl done) un);
        unused_zero = λ keeps done. absurd (apart (inl done) un);
        refused-idle = λ refuses. absurd (apart (inr refuses) un);
        closed-idle = λ closes not. absurd (not un);
      }

  -- every call, of any plan and drums
  pub leaves : Leaves drums c (call_on plan drums c)
  leaves = by_list find
    where
      touched : {a : Called} → call_on plan drums c ≡ a → Touches drums c.number a.drums
      touched is = subst (λ (a : Called). Touches drums c.number a.drums) is touching

      by_list : Found → Leaves drums c (call_on plan drums c)
      by_list (found on is) =
          subst (Leaves drums c) (sym is)
          (on_leaves step on (comes plan (get_or drums c.number idle_drum) c.number c.kind c.asked) (touched is))
      by_list (missing is) = subst (Leaves drums c) (sym is) (off_leaves (touched is))

  -- without a good plan, a number below 32 and a list so long
  pub unused_answers : (Usable plan c.number → c.number < length drums → ⊥) → Unasked (call_on plan drums c).reading.number
  unused_answers bad = by_list find (usable plan c.number)
    where
      by_list : Found → Usable plan c.number ⊎ Unasked (call_judged plan c.number).number
          → Unasked (call_on plan drums c).reading.number
      by_list (found on is) (inl u) = absurd (bad u on)
      by_list (found on is) (inr un) =
          subst (λ (a : Called). Unasked a.reading.number) (sym is)
          (unasked_answers plan (get_or drums c.number idle_drum) c.number c.kind un c.asked)
      by_list (missing is) known = subst (λ (a : Called). Unasked a.reading.number) (sym is) (absent_unasked plan)
