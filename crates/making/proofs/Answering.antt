-- What a text comes to, by what is settled of it; that there is such an answer, and one only.
use mathlib.Core.Path.{◌≡◌, refl, sym, ◌∙◌}
use mathlib.Core.Bool.{Bool, true, false}
use mathlib.Core.List.{List, [], ◌∷◌}
use Prim.Native.Nat.{ℕ}
use native.Mathlib.Omega.{arith}
use borrow.Author.Tests.{ltb-true, ltb-false, eq-eqb, ne_eqb}
use lib.Dec.{ltb}
use lib.ListN.{length}
use Rattle.book.specs.Form.{DONE}
use Rattle.sheets.specs.Grammar.{Rule, Sheet}
use Rattle.sheets.specs.Nodes.{kind_names}
use Rattle.sheets.specs.Made.{SHEET}
use Rattle.syntax.specs.Machine.{Outcome, sheet, wrong, read_sheet}
use Rattle.syntax.proofs.ReadSheets.{read_is_a_sheet}
use Rattle.syntax.proofs.SheetsRead.{sheet_is_read}
use Rattle.syntax.proofs.WrongPlaces.{wrong_parts, wrong_lacks}
use Rattle.syntax.proofs.Outcomes.{parts_wrong, lacks_wrong}
use Rattle.making.specs.Makes.{judged_by, Answers, wrong_at, more_due, judged}
use Rattle.making.specs.Settled.{written_by, Refused, twice, big, kindless, Pass, RefusedAs, no_sheet, refused}
use Rattle.making.specs.declared.Refusal.{Refusal}

module _ {A : Type 0} (refuse : ℕ → ℕ → A) where
  -- rules that are refused, and rules that pass
  pub refused_so : {rules : List Rule} {number place : ℕ} (made : A) → Refused rules number place
      → judged_by refuse made rules ≡ refuse number place
  unfolding judged_by
  refused_so made (twice again) = rw again
  refused_so made (big once many) = rw (once, many)
  refused_so {rules} made (kindless once few none) = rw (once, few, eq-eqb (length (kind_names rules)) 0 none)

  pub passed_so : {rules : List Rule} (made : A) → Pass rules → judged_by refuse made rules ≡ made
  unfolding judged_by
  passed_so {rules} made p =
      rw (p.once, p.small, ne_eqb (length (kind_names rules)) 0 (λ none. omega (arith, p.some_kind)))

  module _ (text : List ℕ) (made : Rule → List Rule → A) where
    -- a text that is no sheet
    pub wrong_answers : {place : ℕ} → read_sheet text ≡ wrong place → Answers text refuse made (refuse SHEET place)
    wrong_answers {place} is = go (ltb place (length text)) refl
      where
        go : (t : Bool) → ltb place (length text) ≡ t → Answers text refuse made (refuse SHEET place)
        go true below = wrong_at (wrong_parts text is (ltb-true place (length text) below))
        go false past = let due = wrong_lacks text is (ltb-false place (length text) past) in rw due.0 (more_due due.1)

    -- every text has an answer
    pub record Some : Type 0 where
      pub answer : A
      pub answers : Answers text refuse made answer

    pub some_answer : Some
    some_answer = go (read_sheet text) refl
      where
        go : (out : Outcome) → read_sheet text ≡ out → Some
        go (wrong place) is = record { answer = refuse SHEET place; answers = wrong_answers is }
        go (sheet rules) is =
            let found = read_is_a_sheet text is in
            record {
              answer = judged_by refuse (made found.first found.further) (found.first ∷ found.further);
              answers = judged found.is_sheet;
            }

    -- and one only: that of what reading it comes to
    read_answer : Outcome → A
    read_answer (wrong place) = refuse SHEET place
    read_answer (sheet []) = refuse SHEET 0
    read_answer (sheet (first ∷ further)) = judged_by refuse (made first further) (first ∷ further)

    answer_is : {a : A} → Answers text refuse made a → a ≡ read_answer (read_sheet text)
    unfolding read_answer
    answer_is (wrong_at parts) = rw (parts_wrong text parts)
    answer_is (more_due lacks) = rw (lacks_wrong text lacks)
    answer_is (judged read) = rw (sheet_is_read text read)

    pub one_answer : {a b : A} → Answers text refuse made a → Answers text refuse made b → a ≡ b
    one_answer x y = answer_is x ∙ sym (answer_is y)

    -- what is refused is answered so
    pub refused_answers : {refusal : Refusal} → RefusedAs text refusal
        → Answers text refuse made (refuse (written_by refusal).number (written_by refusal).place)
    refused_answers (no_sheet wrong-is) = wrong_answers wrong-is
    refused_answers (refused {first} {further} read why) = rw (← refused_so (made first further) why) (judged read)

    -- what passes is answered by what is made of it
    pub passed_answers : {first : Rule} {further : List Rule} → Sheet text first further → Pass (first ∷ further)
        → Answers text refuse made (made first further)
    passed_answers {first} {further} read pass = rw (← passed_so (made first further) pass) (judged read)

-- what is refused is not done
pub never_done : {rules : List Rule} {number place : ℕ} → Refused rules number place → number ≡ DONE → ⊥
never_done (twice again) is = omega arith
never_done (big once many) is = omega arith
never_done (kindless once few none) is = omega arith
