-- Calls on a board with plans that are alike but for what is due.
use Prim.Native.Nat.{ℕ, ◌<◌}
use native.Mathlib.Decide.{ℕ_discrete}
use mathlib.Core.Path.{◌≡◌, refl, sym, ap, ap₂, subst, ◌∙◌}
use mathlib.Core.Bool.{Bool, true, false, cond}
use mathlib.Core.List.{List, [], ◌∷◌}
use lib.Dec.{ltb, eqb}
use lib.ListN.{length, get_or, set, length-set}
use lib.Seq.{get_or-set_same, get_or-set_other}
use borrow.Author.Tests.{ltb-true}
use Rattle.book.specs.Form.{DONE}
use Rattle.book.specs.declared.Judged.{Judged}
use Rattle.plan.specs.Form.{AlikeButDue}
use Rattle.plan.proofs.Alike.{judged_alike}
use Rattle.reader.specs.declared.Reading.{Reading}
use Rattle.reader.specs.Numbers.{answered}
use Rattle.drums.specs.declared.Drum.{Drum}
use Rattle.drums.specs.declared.Stepped.{Stepped}
use Rattle.drums.specs.Drums.{NO-DRUM, idle_drum, absent_of}
use Rattle.drumming.specs.Alike.{DrumsAlike, StepsAlike}
use Rattle.drumming.proofs.Alike.{calls_alike}
use Rattle.board.specs.Board.{Called, calls, called}
use Rattle.board.specs.Sequences.{Asked, opening, event, close, asked_of, Call, call_on, drums_after, answers_for}
use Rattle.finishing.specs.Boards.{BoardsAlike, SequencesAlike}

-- what a call on a board comes to: the same answer, and boards that are alike
record CalledAlike (one other : Called) : Type 0 where
  answer : one.reading ≡ other.reading
  boards : BoardsAlike one.drums other.drums

-- a drum is stored
stored : {drums others : List Drum} → BoardsAlike drums others → (number : ℕ) → number < length drums → {d e : Drum} → DrumsAlike d e
    → BoardsAlike (set drums number d) (set others number e)
stored {drums} {others} same number below {d} {e} alike =
    record {
      as_many = length-set drums number d ∙ same.as_many ∙ sym (length-set others number e);
      each = λ i. at i (ℕ_discrete i number);
    }
  where
    at : (i : ℕ) → Dec (i ≡ number) → DrumsAlike (get_or (set drums number d) i idle_drum) (get_or (set others number e) i idle_drum)
    at i (yes is) =
        rw (
          is,
          get_or-set_same drums number d idle_drum below,
          get_or-set_same others number e idle_drum (subst (λ (n : ℕ). number < n) same.as_many below),
        )
        alike
    at i (no apart) =
        rw (get_or-set_other drums number i d idle_drum apart, get_or-set_other others number i e idle_drum apart) (same.each i)

module _ {plan other : List ℕ} (alike : AlikeButDue plan other) where
  absent_same : absent_of plan ≡ absent_of other
  unfolding absent_of
  absent_same =
      ap (λ (j : Judged). cond (eqb j.number DONE) (answered NO-DRUM 0 0 0) (answered j.number j.place 0 0)) (judged_alike alike)

  asked_alike : (asked : Asked) {d e : Drum} → DrumsAlike d e → (number k : ℕ)
      → StepsAlike (asked_of asked plan d number k) (asked_of asked other e number k)
  unfolding asked_of
  asked_alike opening same number k = (calls_alike alike same number).opens k
  asked_alike event same number k = (calls_alike alike same number).events k
  asked_alike close same number k = (calls_alike alike same number).closes k

  call_alike : {drums others : List Drum} → BoardsAlike drums others → (c : Call)
      → CalledAlike (call_on plan drums c) (call_on other others c)
  unfolding called
  call_alike {drums} {others} same c =
      subst
      (λ (n : ℕ).
      CalledAlike (call_on plan drums c)
      (cond (ltb c.number n) (calls there.reading (set others c.number there.drum)) (calls (absent_of other) others)))
      same.as_many (by_test (ltb c.number (length drums)) refl)
    where
      here : Stepped
      here = asked_of c.asked plan (get_or drums c.number idle_drum) c.number c.kind

      there : Stepped
      there = asked_of c.asked other (get_or others c.number idle_drum) c.number c.kind

      steps : StepsAlike here there
      steps = asked_alike c.asked (same.each c.number) c.number c.kind

      by_test : (on : Bool) → ltb c.number (length drums) ≡ on
          → CalledAlike (cond on (calls here.reading (set drums c.number here.drum)) (calls (absent_of plan) drums))
          (cond on (calls there.reading (set others c.number there.drum)) (calls (absent_of other) others))
      by_test true is =
          record { answer = steps.answer; boards = stored same c.number (ltb-true c.number (length drums) is) steps.drums }
      by_test false is = record { answer = absent_same; boards = same }

  after_alike : {drums others : List Drum} → BoardsAlike drums others → (cs : List Call)
      → BoardsAlike (drums_after plan drums cs) (drums_after other others cs)
  unfolding drums_after
  after_alike same [] = same
  after_alike {drums = drums} {others = others} same (c ∷ cs) =
      after_alike {drums = (call_on plan drums c).drums} {others = (call_on other others c).drums} (call_alike same c).boards cs

  answers_alike : (d : ℕ) {drums others : List Drum} → BoardsAlike drums others → (cs : List Call)
      → answers_for plan d drums cs ≡ answers_for other d others cs
  unfolding answers_for
  answers_alike d same [] = refl
  answers_alike d {drums = drums} {others = others} same (c ∷ cs) =
      let step = call_alike same c in
      ap₂ (λ (r : Reading) (rest : List Reading). cond (eqb c.number d) (r ∷ rest) rest) step.answer
      (answers_alike d {drums = (call_on plan drums c).drums} {others = (call_on other others c).drums} step.boards cs)

  -- calls one after another on boards that are alike
  pub sequences_alike : {drums others : List Drum} → BoardsAlike drums others → (cs : List Call) → SequencesAlike plan other drums others cs
  sequences_alike same cs = record { answers = λ d. answers_alike d same cs; boards = after_alike same cs }
