-- What the moves answer, test by test.
use mathlib.Core.Path.{◌≡◌, refl, sym, ap, subst, ◌∙◌}
use mathlib.Core.Bool.{Bool, true, false, not, cond}
use mathlib.Core.List.{List}
use mathlib.Core.Logic.{◌≢◌}
use Prim.Native.Nat.{ℕ, ◌≤◌}
use native.Mathlib.Omega.{arith}
use borrow.Author.Tests.{eq-eqb, ne_eqb, eqb-true, not-true, not-false}
use lib.Dec.{eqb}
use lib.ListN.{length}
use Rattle.std.specs.Prelude.{Result, Ok, Err}
use Rattle.std.specs.Result.{IsErr, IsErrAnd}
use Rattle.words.proofs.Tests.{holds}
use Rattle.names.specs.Names.{NAMES, HOUSE-NAMES, first_bad_name}
use Rattle.written.specs.Written.{Out, refused_with}
use Rattle.book.specs.Form.{DONE, LENGTH, CONTENTS, judged, length_good, form_of}
use Rattle.book.specs.Errors.{judged_by}
use Rattle.book.specs.declared.BookError.{BookError}
use Rattle.book.specs.declared.BookError.TheVariants.{Length, Contents, Settings, Node, Names}
use Rattle.book.specs.declared.Judged.{Judged}
use Rattle.book.proofs.Laws.{form_length, length_least, bad_within}
use Rattle.moves.specs.declared.MoveError.{MoveError}
use Rattle.moves.specs.Refusals.{refused_by, Moved}
use Rattle.moves.specs.Moves.{own_form, house_good, after_forms}

-- the first bad name of the house list is one of its 64, or their count
pub first_bad_small : (house : List ℕ) → first_bad_name house 0 HOUSE-NAMES ≤ HOUSE-NAMES
first_bad_small house = bad_within house 0 HOUSE-NAMES

-- bytes whose number is not 1 are long enough for the count of their sections
pub long_enough : (bytes : List ℕ) → (form_of bytes).number ≢ LENGTH → 2 ≤ length bytes
long_enough bytes other =
    omega
    (arith, length_least bytes (holds (length_good bytes) (λ bad. other (ap (λ (j : Judged). j.number) (form_length bytes bad)))))

pub told_long : (bytes : List ℕ) (error : BookError) → form_of bytes ≡ judged_by error → (error ≡ Length → ⊥) → 2 ≤ length bytes
told_long bytes Length is other = absurd (other refl)
told_long bytes Contents is other = long_enough bytes (λ one. omega (arith, one, ap (λ (j : Judged). j.number) is))
told_long bytes Settings is other = long_enough bytes (λ one. omega (arith, one, ap (λ (j : Judged). j.number) is))
told_long bytes (Node n) is other = long_enough bytes (λ one. omega (arith, one, ap (λ (j : Judged). j.number) is))
told_long bytes (Names n) is other = long_enough bytes (λ one. omega (arith, one, ap (λ (j : Judged). j.number) is))

-- the form of a call's own books
module _ (bytes : List ℕ) (own : Bool) where
  pub own_form_lem : own ≡ true → form_of bytes ≡ own_form own bytes
  own_form_lem is = rw is

-- a form that is done is that of a call's own book
pub own_done : (bytes : List ℕ) (own : Bool) → (own_form own bytes).number ≡ DONE → (own ≡ true) × ((form_of bytes).number ≡ DONE)
own_done bytes true done = (refl, done)
own_done bytes false done = go (eqb (form_of bytes).number LENGTH) refl done
  where
    go : (t : Bool) → eqb (form_of bytes).number LENGTH ≡ t → (cond t (form_of bytes) (judged CONTENTS 0)).number ≡ DONE
        → (false ≡ true) × ((form_of bytes).number ≡ DONE)
    go true is number =
        let one : (form_of bytes).number ≡ LENGTH = eqb-true _ _ is in
        absurd (omega (arith, one, number))
    go false is number = absurd (omega (arith, number))

-- what comes after the forms
module _ {form own : Judged} (is : form ≡ own) (house : List ℕ) (next : Out) (room : ℕ) where
  pub form_refused : form.number ≢ DONE → after_forms own house next room ≡ refused_with form.number form.place room
  unfolding after_forms
  form_refused other = rw (← is, ne_eqb form.number DONE other)

  module _ (done : form.number ≡ DONE) where
    pub house_refused : {place : ℕ} → place ≡ first_bad_name house 0 HOUSE-NAMES → house_good house ≡ false
        → after_forms own house next room ≡ refused_with NAMES place room
    unfolding after_forms
    house_refused at bad = rw (← is, eq-eqb form.number DONE done, bad, at)

    pub forms_good : house_good house ≡ true → after_forms own house next room ≡ next
    unfolding after_forms
    forms_good good = rw (← is, eq-eqb form.number DONE done, good)

-- what a move comes to by what stands against its book, by a bad house list, and where neither does
pub not_done : (error : BookError) → (judged_by error).number ≢ DONE
not_done Length is = absurd (omega (arith, is))
not_done Contents is = absurd (omega (arith, is))
not_done Settings is = absurd (omega (arith, is))
not_done (Node n) is = absurd (omega (arith, is))
not_done (Names n) is = absurd (omega (arith, is))

module _ (own : Bool) (bytes house : List ℕ) (next : Out) (room : ℕ) where
  pub form_stands : (error : BookError) → own_form own bytes ≡ judged_by error
      → after_forms (own_form own bytes) house next room ≡ refused_by (MoveError.Form error) room
  form_stands error is = form_refused (sym is) house next room (not_done error)

  module _ (is : own ≡ true) (form : form_of bytes ≡ judged DONE 0) where
    own_is_done : judged DONE 0 ≡ own_form own bytes
    own_is_done = sym form ∙ own_form_lem bytes own is

    pub bad_house_stands : house_good house ≡ false
        → after_forms (own_form own bytes) house next room ≡ refused_by (MoveError.House (first_bad_name house 0 HOUSE-NAMES)) room
    bad_house_stands bad = house_refused own_is_done house next room refl refl bad

    pub none_stands : house_good house ≡ true → after_forms (own_form own bytes) house next room ≡ next
    none_stands good = forms_good own_is_done house next room refl good

-- what comes where names are compared
pub names_kept : (test : Bool) {differ : Bool} (next other : Out) → differ ≡ not test → differ ≡ true → cond test next other ≡ other
names_kept test next other is told = rw (not-true test (sym is ∙ told))

pub names_same : (test : Bool) {differ : Bool} (next other : Out) → differ ≡ not test → differ ≡ false → cond test next other ≡ next
names_same test next other is told = rw (not-false test (sym is ∙ told))

-- a result and a buffer, by what the move comes to
pub moved_as : {one other : Out} (result : Result ℕ MoveError) (room : ℕ) (bytes : List ℕ) → other ≡ one → Moved one result room bytes
    → Moved other result room bytes
moved_as result room bytes is moved = subst (λ o. Moved o result room bytes) (sym is) moved

-- a refusal that is handed on
pub moved_on : {is : Out} (result : Result ℕ MoveError) (room : ℕ) (bytes : List ℕ) (error : BookError)
    → is ≡ refused_by (MoveError.Form error) room → IsErr result × IsErrAnd result (λ refusal. refusal ≡ MoveError.Form error)
    → Moved is result room bytes
moved_on (Ok size) room bytes error is (none, told) = absurd told
moved_on (Err refusal) room bytes error is (some, told) = is ∙ ap (λ (r : MoveError). refused_by r room) (sym told)
