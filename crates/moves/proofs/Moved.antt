-- What the moves promise: what they write, when moving back is done, that each undoes the other, and what their answers are.
use mathlib.Core.Path.{◌≡◌, refl, sym, ap, subst, ◌∙◌}
use mathlib.Core.Bool.{Bool, true, false, not, cond}
use mathlib.Core.List.{List}
use mathlib.Core.Logic.{◌≢◌, ◌⊎◌, inl, inr, ◌↔◌}
use Prim.Native.Nat.{ℕ, ◌≤◌}
use native.Mathlib.Omega.{arith}
use borrow.Author.Tests.{eqb-true, eqb-false, not-true}
use lib.Dec.{eqb}
use lib.ListN.{length}
use Rattle.words.specs.Words.{Below}
use Rattle.names.specs.Names.{NAMES, HOUSE-NAMES, first_bad_name, GoodNames}
use Rattle.names.proofs.Standing.{Standing, fewer_stand, names_read_good, length_names}
use Rattle.written.specs.Written.{OUT-ROOM, Out, refused_with, handed, taken, Settled}
use Rattle.written.proofs.Handing.{done_room, room_enough_lem, taken_over, refused_settles, handed_settles, handed_listed}
use Rattle.book.specs.Book.{Book, WellFormed}
use Rattle.book.specs.Encode.{book_bytes, named_bytes}
use Rattle.book.specs.Form.{DONE, CONTENTS, LENGTH, judged, named, form_of, book_of, book_names}
use Rattle.book.specs.declared.Judged.{Judged}
use Rattle.book.proofs.Decoded.{formed, well_formed}
use Rattle.book.proofs.Encoded.{well_formed_has_bytes, named_has_bytes, named_are_named, plain_are_not}
use Rattle.book.proofs.Laws.{FormNumber, form_listed}
use Rattle.book.proofs.Rebuilt.{good_form_bytes, good_named_bytes}
use Rattle.moves.specs.Moves.{KEPT, own_form, house_good, house_names, named_of, plain_of, same_names, after_forms, forward_of, back_of}
use Rattle.moves.proofs.Answers.{own_form_lem, own_done, form_refused, house_refused, forms_good}
use Rattle.moves.proofs.Laid.{house_stands}
use Rattle.moves.proofs.SameNames.{same_names_are, are_same_names}

-- ---- what the moves write

-- a book without names is moved forward to the book with the first names of the house list
pub forward_is : (bytes house : List ℕ) (room : ℕ) → (form_of bytes).number ≡ DONE → named bytes ≡ false → house_good house ≡ true
    → forward_of bytes house room ≡ handed (named_bytes (book_of bytes) (house_names house (book_of bytes).kinds)) room
unfolding forward_of
forward_is bytes house room done plain good =
    forms_good (own_form_lem bytes (not (named bytes)) (ap not plain)) house (handed (named_of bytes house) room) room done good

-- what follows the forms of a book with names
abbrev after_names : List ℕ → List ℕ → ℕ → Out
after_names bytes house room =
    cond (same_names (book_names bytes) (house_names house (book_of bytes).kinds)) (handed (plain_of bytes) room) (refused_with KEPT 0 room)

module _ (bytes house : List ℕ) (room : ℕ) (done : (form_of bytes).number ≡ DONE) (has : named bytes ≡ true)
    (good : house_good house ≡ true) where
  compared : back_of bytes house room ≡ after_names bytes house room
  unfolding back_of
  compared = forms_good (own_form_lem bytes (named bytes) has) house _ room done good

  -- a book with the first names of the house list is moved back to the book without names
  pub back_is : book_names bytes ≡ house_names house (book_of bytes).kinds → back_of bytes house room ≡ handed (book_bytes (book_of bytes)) room
  back_is same =
      compared
      ∙ ap (λ (t : Bool). cond t (handed (plain_of bytes) room) (refused_with KEPT 0 room))
      (subst (λ l. same_names (book_names bytes) l ≡ true) same (are_same_names (book_names bytes)))

  -- a book with other names is kept
  pub back_kept : book_names bytes ≢ house_names house (book_of bytes).kinds → back_of bytes house room ≡ refused_with KEPT 0 room
  back_kept differ = compared ∙ go (same_names (book_names bytes) (house_names house (book_of bytes).kinds)) refl
    where
      go : (t : Bool) → same_names (book_names bytes) (house_names house (book_of bytes).kinds) ≡ t
          → cond t (handed (plain_of bytes) room) (refused_with KEPT 0 room) ≡ refused_with KEPT 0 room
      go true is = absurd (differ (same_names_are _ _ is))
      go false is = refl

-- ---- what an answer says

-- what follows the forms, case by case
after_cases : (P : Out → Type 0) (form : Judged) (house : List ℕ) (next : Out) (room : ℕ)
    → (form.number ≢ DONE → P (refused_with form.number form.place room))
    → P (refused_with NAMES (first_bad_name house 0 HOUSE-NAMES) room)
    → (form.number ≡ DONE → house_good house ≡ true → P next)
    → P (after_forms form house next room)
after_cases P form house next room form-bad house-bad all-good = by_form (eqb form.number DONE) refl
  where
    by_house : form.number ≡ DONE → (t : Bool) → house_good house ≡ t → P (after_forms form house next room)
    by_house done true is = subst P (sym (forms_good refl house next room done is)) (all-good done is)
    by_house done false is = subst P (sym (house_refused refl house next room done refl is)) house-bad

    by_form : (t : Bool) → eqb form.number DONE ≡ t → P (after_forms form house next room)
    by_form true is = by_house (eqb-true _ _ is) (house_good house) refl
    by_form false is =
        let other : form.number ≢ DONE = eqb-false _ _ is in
        subst P (sym (form_refused refl house next room other)) (form-bad other)

-- what is so where a move is done
pub record ForwardDone (bytes house : List ℕ) (room : ℕ) : Type 0 where
  pub form : (form_of bytes).number ≡ DONE
  pub plain : named bytes ≡ false
  pub house_good : house_good house ≡ true
  pub fits : length (named_of bytes house) ≤ room

pub forward_done : (bytes house : List ℕ) (room : ℕ) → (forward_of bytes house room).answer.number ≡ DONE → ForwardDone bytes house room
unfolding forward_of
forward_done bytes house room =
    after_cases (λ out. out.answer.number ≡ DONE → ForwardDone bytes house room)
    (own_form (not (named bytes)) bytes) house (handed (named_of bytes house) room) room
    (λ other done. absurd (other done))
    (λ done. absurd (omega (arith, done)))
    (λ own good done.
    let (plain, form) = own_done bytes (not (named bytes)) own in
    record { form = form; plain = not-true _ plain; house_good = good; fits = done_room (named_of bytes house) room done })

pub record BackDone (bytes house : List ℕ) (room : ℕ) : Type 0 where
  pub form : (form_of bytes).number ≡ DONE
  pub has : named bytes ≡ true
  pub house_good : house_good house ≡ true
  pub names_are : book_names bytes ≡ house_names house (book_of bytes).kinds
  pub fits : length (plain_of bytes) ≤ room

pub back_done : (bytes house : List ℕ) (room : ℕ) → (back_of bytes house room).answer.number ≡ DONE → BackDone bytes house room
unfolding back_of
back_done bytes house room =
    after_cases (λ out. out.answer.number ≡ DONE → BackDone bytes house room)
    (own_form (named bytes) bytes) house
    (after_names bytes house room) room
    (λ other done. absurd (other done))
    (λ done. absurd (omega (arith, done)))
    (λ own good. by_names (own_done bytes (named bytes) own) good _ refl)
  where
    by_names : (named bytes ≡ true) × ((form_of bytes).number ≡ DONE) → house_good house ≡ true
        → (t : Bool) → same_names (book_names bytes) (house_names house (book_of bytes).kinds) ≡ t
        → (cond t (handed (plain_of bytes) room) (refused_with KEPT 0 room)).answer.number ≡ DONE → BackDone bytes house room
    by_names (has, form) good true is done =
        record {
          form = form;
          has = has;
          house_good = good;
          names_are = same_names_are _ _ is;
          fits = done_room (plain_of bytes) room done;
        }
    by_names own good false is done = absurd (omega (arith, done))

-- moving back, with room, is done exactly if the book's names are the first of the house list
pub back_done_exactly : (bytes house : List ℕ) (room : ℕ) → (form_of bytes).number ≡ DONE → named bytes ≡ true → house_good house ≡ true
    → length (book_bytes (book_of bytes)) ≤ room
    → ((back_of bytes house room).answer.number ≡ DONE) ↔ (book_names bytes ≡ house_names house (book_of bytes).kinds)
back_done_exactly bytes house room done has good fits = (
  λ answer. (back_done bytes house room answer).names_are,
  λ same. ap (λ (o : Out). o.answer.number) (back_is bytes house room done has good same ∙ room_enough_lem (plain_of bytes) room fits),
)

-- ---- each move undoes the other

-- the first names of a good house list are good names, as many as are asked for
first_good : (house : List ℕ) (count : ℕ) → Standing house 0 HOUSE-NAMES → count ≤ HOUSE-NAMES → GoodNames (house_names house count)
first_good house count stands few = names_read_good house 0 (fewer_stand house 0 few stands)

-- a book moved forward, then back, is the same bytes again
pub forward_back : (bytes house : List ℕ) (room again : ℕ) → Below 256 bytes → (forward_of bytes house room).answer.number ≡ DONE
    → back_of (taken (forward_of bytes house room)) house again ≡ handed bytes again
forward_back bytes house room again below answer =
    ap (λ (l : List ℕ). back_of l house again) written_is
    ∙ back_is there house again (ap (λ (j : Judged). j.number) read.0) (named_are_named book names wf good enough) d.house_good
    (read.2 ∙ ap (house_names house) (sym (ap (λ (b : Book). b.kinds) read.1)))
    ∙ ap (λ (l : List ℕ). handed l again) (ap book_bytes read.1 ∙ good_form_bytes bytes below d.form d.plain)
  where
    d : ForwardDone bytes house room
    d = forward_done bytes house room answer

    book : Book
    book = book_of bytes

    names : List (List ℕ)
    names = house_names house book.kinds

    there : List ℕ
    there = named_bytes book names

    wf : WellFormed book
    wf = well_formed (formed bytes d.form)

    good : GoodNames names
    good = first_good house book.kinds (house_stands bytes d.form house d.house_good) wf.few_kinds

    enough : length names ≡ book.kinds
    enough = length_names house 0 book.kinds 0

    read : (form_of there ≡ judged DONE 0) × (book_of there ≡ book) × (book_names there ≡ names)
    read = named_has_bytes book names wf good enough

    written_is : taken (forward_of bytes house room) ≡ there
    written_is =
        ap taken (forward_is bytes house room d.form d.plain d.house_good ∙ room_enough_lem there room d.fits)
        ∙ taken_over there room

-- a book moved back, then forward, is the same bytes again
pub back_forward : (bytes house : List ℕ) (room again : ℕ) → Below 256 bytes → (back_of bytes house room).answer.number ≡ DONE
    → forward_of (taken (back_of bytes house room)) house again ≡ handed bytes again
back_forward bytes house room again below answer =
    ap (λ (l : List ℕ). forward_of l house again) written_is
    ∙ forward_is there house again (ap (λ (j : Judged). j.number) read.0) (plain_are_not book wf) d.house_good
    ∙ ap (λ (l : List ℕ). handed l again) same_bytes
  where
    d : BackDone bytes house room
    d = back_done bytes house room answer

    book : Book
    book = book_of bytes

    there : List ℕ
    there = book_bytes book

    wf : WellFormed book
    wf = well_formed (formed bytes d.form)

    read : (form_of there ≡ judged DONE 0) × (book_of there ≡ book)
    read = well_formed_has_bytes book wf

    written_is : taken (back_of bytes house room) ≡ there
    written_is =
        ap taken (back_is bytes house room d.form d.has d.house_good d.names_are ∙ room_enough_lem there room d.fits)
        ∙ taken_over there room

    same_bytes : named_bytes (book_of there) (house_names house (book_of there).kinds) ≡ bytes
    same_bytes =
        ap (λ (b : Book). named_bytes b (house_names house b.kinds)) read.1
        ∙ ap (named_bytes book) (sym d.names_are)
        ∙ good_named_bytes bytes below d.form d.has

-- ---- all answers

-- a move leaves its buffer as it should be
pub forward_settles : (bytes house : List ℕ) (room : ℕ) → Settled room (forward_of bytes house room)
unfolding forward_of
forward_settles bytes house room =
    after_cases (Settled room) (own_form (not (named bytes)) bytes) house (handed (named_of bytes house) room) room
    (λ other. refused_settles _ _ room)
    (refused_settles NAMES _ room)
    (λ own good. handed_settles (named_of bytes house) room)

pub back_settles : (bytes house : List ℕ) (room : ℕ) → Settled room (back_of bytes house room)
unfolding back_of
back_settles bytes house room =
    after_cases (Settled room) (own_form (named bytes) bytes) house
    (after_names bytes house room) room
    (λ other. refused_settles _ _ room)
    (refused_settles NAMES _ room)
    (λ own good. by_names (same_names (book_names bytes) (house_names house (book_of bytes).kinds)))
  where
    by_names : (t : Bool) → Settled room (cond t (handed (plain_of bytes) room) (refused_with KEPT 0 room))
    by_names true = handed_settles (plain_of bytes) room
    by_names false = refused_settles KEPT 0 room

-- the form of a call's own books has a number on the form's list
own_listed : (bytes : List ℕ) (own : Bool) → FormNumber (own_form own bytes).number
own_listed bytes true = form_listed bytes
own_listed bytes false = go (eqb (form_of bytes).number LENGTH)
  where
    go : (t : Bool) → FormNumber (cond t (form_of bytes) (judged CONTENTS 0)).number
    go true = form_listed bytes
    go false = inl (omega arith)

-- moving forward answers done, 1 to 4, 19 or 21; moving back 20 too
pub forward_listed : (bytes house : List ℕ) (room : ℕ)
    → FormNumber (forward_of bytes house room).answer.number ⊎ ((forward_of bytes house room).answer.number ≡ OUT-ROOM)
unfolding forward_of
forward_listed bytes house room =
    after_cases (λ out. FormNumber out.answer.number ⊎ (out.answer.number ≡ OUT-ROOM))
    (own_form (not (named bytes)) bytes) house (handed (named_of bytes house) room) room
    (λ other. inl (own_listed bytes (not (named bytes))))
    (inl (inr refl))
    (λ own good. by_room (handed_listed (named_of bytes house) room))
  where
    by_room : {number : ℕ} → (number ≡ 0) ⊎ (number ≡ OUT-ROOM) → FormNumber number ⊎ (number ≡ OUT-ROOM)
    by_room (inl done) = inl (inl (omega arith))
    by_room (inr none) = inr none

pub back_listed : (bytes house : List ℕ) (room : ℕ)
    → FormNumber (back_of bytes house room).answer.number
    ⊎ (((back_of bytes house room).answer.number ≡ KEPT) ⊎ ((back_of bytes house room).answer.number ≡ OUT-ROOM))
unfolding back_of
back_listed bytes house room =
    after_cases (λ out. FormNumber out.answer.number ⊎ ((out.answer.number ≡ KEPT) ⊎ (out.answer.number ≡ OUT-ROOM)))
    (own_form (named bytes) bytes) house
    (after_names bytes house room) room
    (λ other. inl (own_listed bytes (named bytes)))
    (inl (inr refl))
    (λ own good. by_names (same_names (book_names bytes) (house_names house (book_of bytes).kinds)))
  where
    by_room : {number : ℕ} → (number ≡ 0) ⊎ (number ≡ OUT-ROOM) → FormNumber number ⊎ ((number ≡ KEPT) ⊎ (number ≡ OUT-ROOM))
    by_room (inl done) = inl (inl (omega arith))
    by_room (inr none) = inr (inr none)

    by_names : (t : Bool)
        → FormNumber (cond t (handed (plain_of bytes) room) (refused_with KEPT 0 room)).answer.number
        ⊎ (((cond t (handed (plain_of bytes) room) (refused_with KEPT 0 room)).answer.number ≡ KEPT)
        ⊎ ((cond t (handed (plain_of bytes) room) (refused_with KEPT 0 room)).answer.number ≡ OUT-ROOM))
    by_names true = by_room (handed_listed (plain_of bytes) room)
    by_names false = inr (inl refl)
