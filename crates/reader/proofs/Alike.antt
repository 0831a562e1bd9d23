-- Plans that are alike but for what is due give the same answers, on every run.
use Prim.Native.Nat.{ℕ}
use borrow.Author.Tests.{eqb-true}
use mathlib.Core.Path.{◌≡◌, refl, ap, ◌∙◌}
use mathlib.Core.Bool.{Bool, true, false, cond}
use mathlib.Core.List.{List}
use lib.Dec.{ltb, leb, eqb}
use lib.ListN.{length}
use Rattle.book.specs.Form.{DONE}
use Rattle.book.specs.declared.Judged.{Judged}
use Rattle.running.specs.Running.{AnswerOf, accepted, stopped, with_slots, DEEP}
use Rattle.running.specs.Stages.{Part, stage_of, bare_answer}
use Rattle.running.proofs.Agrees.{Agree}
use Rattle.running.proofs.Expected.{Carried, carried_stopped, expected_agrees}
use Rattle.running.proofs.StagesAgree.{staged_reading_agrees, staged_carried}
use Rattle.plan.specs.Form.{plan_of, plan_judged, AlikeButDue}
use Rattle.plan.proofs.Alike.{judged_alike, plans_agree, tags_agree}
use Rattle.reader.specs.Numbers.{LONG, answered, refusal}
use Rattle.reader.specs.Reads.{Outcome, bare, outcome_of, run_of, read_of}

module _ {p q : List ℕ} (alike : AlikeButDue p q) (run : List ℕ) (slots room : ℕ) where
  module _ (agree : Agree (plan_of p) (plan_of q)) where
    outcome-same : (a : AnswerOf Part) → Carried (plan_of p).count (bare_answer a)
        → outcome_of (plan_of p) (length run) room a ≡ outcome_of (plan_of q) (length run) room a
    unfolding outcome_of bare_answer
    outcome-same (accepted records) carried = refl
    outcome-same (stopped number place held) (carried_stopped below) =
        ap (λ (kinds : ℕ). bare room (refusal number place (stage_of held) kinds)) (expected_agrees agree below)

    run-same : run_of p run slots room ≡ run_of q run slots room
    unfolding run_of
    run-same =
        outcome-same _ (staged_carried agree (tags_agree alike) (with_slots slots) run)
        ∙ ap (outcome_of (plan_of q) (length run) room) (staged_reading_agrees agree (tags_agree alike) (with_slots slots) run)

  -- the answer by how a plan is judged, given what the run comes to
  abbrev by_form : Judged → Outcome → Outcome
  by_form form ran =
      cond (eqb form.number DONE)
      (cond (leb (length run) 65535) (cond (ltb 0 slots) ran (bare room (answered DEEP 0 0 0))) (bare room (answered LONG 0 0 0)))
      (bare room (answered form.number form.place 0 0))

  pub due_changes_nothing : read_of p run slots room ≡ read_of q run slots room
  unfolding read_of
  due_changes_nothing = ran (eqb (plan_judged p).number DONE) refl ∙ ap (λ (form : Judged). by_form form (run_of q run slots room)) (judged_alike alike)
    where
      ran : (good : Bool) → eqb (plan_judged p).number DONE ≡ good → by_form (plan_judged p) (run_of p run slots room) ≡ by_form (plan_judged p) (run_of q run slots room)
      ran true is = ap (by_form (plan_judged p)) (run-same (plans_agree alike (eqb-true _ _ is)))
      ran false is = rw is refl
