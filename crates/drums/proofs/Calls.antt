-- The tests of a call, one after the other.
use mathlib.Core.Path.{◌≡◌, refl, sym, ap, ◌∙◌}
use mathlib.Core.Bool.{Bool, true, false, cond}
use mathlib.Core.List.{List}
use Prim.Native.Nat.{ℕ, ◌≤◌, ◌<◌}
use borrow.Author.Tests.{eqb-true, eq-eqb, ne_eqb, lt-ltb, le-ltb}
use lib.Dec.{ltb, eqb}
use Rattle.book.specs.Form.{DONE, judged}
use Rattle.book.specs.declared.Judged.{Judged}
use native.Mathlib.Omega.{arith}
use Rattle.plan.specs.Errors.{judged_by}
use Rattle.plan.specs.declared.PlanError.{PlanError}
use Rattle.plan.specs.declared.PlanError.TheVariants as error
use Rattle.drums.specs.Errors.{refused_by}
use Rattle.drums.specs.declared.DrumError.{DrumError}
use Rattle.drums.specs.declared.DrumError.TheVariants as drum
use Rattle.plan.specs.Form.{plan_count, plan_judged}
use Rattle.reader.specs.declared.Reading.{Reading}
use Rattle.reader.specs.Numbers.{answered}
use Rattle.drums.specs.declared.Drum.{Drum}
use Rattle.drums.specs.declared.Stepped.{Stepped}
use Rattle.drums.specs.Drums.{NO-DRUM, board_drums, call_judged, drum_judged, kept, past, absent_of}

-- what stands against a plan, and what refuses a call, has a number that is not DONE
pub not_done : (error : PlanError) → (judged_by error).number ≡ DONE → ⊥
not_done error.Form is = omega arith
not_done (error.Cell place) is = omega arith

pub not_passed : (error : DrumError) → (refused_by error).number ≡ DONE → ⊥
not_passed (drum.Plan error) is = not_done error is
not_passed drum.NoDrum is = omega arith
not_passed drum.Idle is = omega arith
not_passed drum.Stale is = omega arith

-- a plan's form decides
module _ (plan : List ℕ) {form : Judged} (is : form ≡ plan_judged plan) where
  number_is : form.number ≡ (plan_judged plan).number
  number_is = ap (λ (j : Judged). j.number) is

  module _ (bad : form.number ≡ DONE → ⊥) where
    refused : eqb (plan_judged plan).number DONE ≡ false
    refused = ne_eqb _ _ (λ done. bad (number_is ∙ done))

    pub call_form : (number : ℕ) → form ≡ call_judged plan number
    unfolding call_judged
    call_form number = is ∙ rw refused

    pub absent_form : {r : Reading} → r ≡ answered form.number form.place 0 0 → r ≡ absent_of plan
    unfolding absent_of
    absent_form answers = answers ∙ rw refused (λ i. answered (is i).number (is i).place 0 0)

  module _ (good : form.number ≡ DONE) where
    passed : eqb (plan_judged plan).number DONE ≡ true
    passed = eq-eqb _ _ (sym number_is ∙ good)

    pub call_none : (number : ℕ) → board_drums ≤ number → judged NO-DRUM 0 ≡ call_judged plan number
    unfolding call_judged
    call_none number far = rw (passed, le-ltb number board_drums far)

    pub call_done : (number : ℕ) → number < board_drums → judged DONE 0 ≡ call_judged plan number
    unfolding call_judged
    call_done number near = rw (passed, lt-ltb number board_drums near)

    pub absent_none : {r : Reading} → r ≡ answered NO-DRUM 0 0 0 → r ≡ absent_of plan
    unfolding absent_of
    absent_none answers = answers ∙ rw passed

-- a call that passes its test has a good plan
pub call_good : (plan : List ℕ) (number : ℕ) → (call_judged plan number).number ≡ DONE → (plan_judged plan).number ≡ DONE
unfolding call_judged
call_good plan number =
    by_form (eqb (plan_judged plan).number DONE) (cond (ltb number board_drums) (judged DONE 0) (judged NO-DRUM 0)) refl
  where
    by_form : (good : Bool) (j : Judged) → eqb (plan_judged plan).number DONE ≡ good
        → (cond good j (plan_judged plan)).number ≡ DONE → (plan_judged plan).number ≡ DONE
    by_form true j is done = eqb-true _ _ is
    by_form false j is done = done

-- a refusal, and a test passed
module _ {test j : Judged} (is : test ≡ j) (d : Drum) (rest : Stepped) where
  pub past-kept : (test.number ≡ DONE → ⊥) → kept test d ≡ past j d rest
  unfolding past
  past-kept bad = rw (ne_eqb j.number DONE (λ done. bad (ap (λ (t : Judged). t.number) is ∙ done))) (λ i. kept (is i) d)

  pub past_on : test.number ≡ DONE → rest ≡ past j d rest
  unfolding past
  past_on good = rw (eq-eqb j.number DONE (sym (ap (λ (t : Judged). t.number) is) ∙ good))

-- a refusal by the drum, and both tests passed
module _ (plan : List ℕ) (number : ℕ) {call test : Judged} {nodes : ℕ} (is : call ≡ call_judged plan number) (done : call.number ≡ DONE)
    (counted : nodes ≡ plan_count plan) (d : Drum) (tests : test ≡ drum_judged nodes d) (rest : Stepped) where
  tested : test ≡ drum_judged (plan_count plan) d
  tested = tests ∙ ap (λ (n : ℕ). drum_judged n d) counted

  pub drum_kept : (test.number ≡ DONE → ⊥)
      → kept test d ≡ past (call_judged plan number) d (past (drum_judged (plan_count plan) d) d rest)
  drum_kept bad = past-kept tested d rest bad ∙ past_on is d _ done

  pub drum_on : test.number ≡ DONE → rest ≡ past (call_judged plan number) d (past (drum_judged (plan_count plan) d) d rest)
  drum_on good = past_on tested d rest good ∙ past_on is d _ done
