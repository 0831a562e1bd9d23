-- What is promised of making a book: every text has one answer, 26 stands where no sheet begins so, and a book that is made is the sheet's.
use mathlib.Core.Path.{◌≡◌, refl, sym, ap, ◌∙◌}
use mathlib.Core.Bool.{Bool, true, false}
use mathlib.Core.Logic.{◌↔◌, ◌≢◌, inl, inr}
use mathlib.Core.List.{List, [], ◌∷◌}
use Prim.Native.Nat.{ℕ, ◌-◌, ◌≤◌, ◌<◌}
use native.Mathlib.Omega.{arith}
use borrow.Author.Tests.{leb-true, leb-false, eqb-true, eqb-false}
use lib.Dec.{leb, eqb}
use lib.ListN.{length, length-append, length-replicate}
use lib.Seq.{take-append_seam, drop-append_seam}
use Rattle.words.specs.Beginnings.{Parts, Lacks}
use Rattle.words.specs.Words.{zeros}
use Rattle.written.specs.Written.{Out, written, handed, handed_over, refused_with, taken, OUT-ROOM}
use Rattle.written.specs.declared.Written.{Written}
use Rattle.book.specs.Form.{DONE, named}
use Rattle.book.specs.Encode.{named_bytes}
use Rattle.book.proofs.Encoded.{named_has_bytes, named_are_named}
use Rattle.book.proofs.Decoded.{formed}
use Rattle.book.proofs.Laws.{length-named}
use Rattle.book.specs.declared.Judged.{Judged as Verdict}
use Rattle.sheets.specs.Grammar.{Rule, Sheet, IsSheet}
use Rattle.sheets.specs.Nodes.{kind_names, sheet_book}
use Rattle.sheets.specs.Made.{SHEET, KINDLESS, repeats, too_big}
use Rattle.sheets.proofs.Appearance.{kinds_by_first_appearance}
use Rattle.sheets.proofs.Derived.{book_derives_the_meaning}
use Rattle.sheets.proofs.Formed.{book_well_formed}
use Rattle.making.specs.Makes.{judged_by, wrong_at, more_due, judged, made_of, Makes, place_of, Places}
use Rattle.making.specs.Made.{BookOfSheet, BookMade, MakeAnswers, NoSheetAt}
use Rattle.making.specs.Settled.{Refused, twice, big, kindless, Pass}
use Rattle.making.proofs.Passing.{kinds_good}
use Rattle.making.proofs.Answering.{Some, some_answer, one_answer, refused_so, passed_so, never_done}

-- every text and room has an answer, and one only
pub makes_some : (text : List ℕ) (room : ℕ) → Some (λ number place. refused_with number place room) text (made_of room)
makes_some text room = some_answer (λ number place. refused_with number place room) text (made_of room)

pub makes_once : (text : List ℕ) (room : ℕ) {a b : Out} → Makes text room a → Makes text room b → a ≡ b
makes_once text room = one_answer (λ number place. refused_with number place room) text (made_of room)

pub places_some : (text : List ℕ) (node : ℕ) → Some (λ number place. written number 0 place) text (place_of node)
places_some text node = some_answer (λ number place. written number 0 place) text (place_of node)

pub places_once : (text : List ℕ) (node : ℕ) {a b : Written} → Places text node a → Places text node b → a ≡ b
places_once text node = one_answer (λ number place. written number 0 place) text (place_of node)

-- rules are refused, or pass
pub data Judged (rules : List Rule) : Type 0 where
  is_refused : {number place : ℕ} → Refused rules number place → Judged rules
  passes : Pass rules → Judged rules

pub judge : (rules : List Rule) → Judged rules
judge rules = go (repeats [] rules) (too_big rules) (eqb (length (kind_names rules)) 0) refl refl refl
  where
    go : (again many none : Bool) → repeats [] rules ≡ again → too_big rules ≡ many → eqb (length (kind_names rules)) 0 ≡ none → Judged rules
    go true many none a m n = is_refused (twice a)
    go false true none a m n = is_refused (big a m)
    go false false true a m n = is_refused (kindless a m (eqb-true _ _ n))
    go false false false a m n = passes (record { once = a; small = m; some_kind = some (eqb-false _ _ n) })
      where
        some : (length (kind_names rules) ≡ 0 → ⊥) → 0 < length (kind_names rules)
        some other = omega arith

-- what an answer can be
abbrev book_bytes : Rule → List Rule → List ℕ
book_bytes first further = named_bytes (sheet_book first further) (kind_names (first ∷ further))

data Outcome (text : List ℕ) (room : ℕ) (o : Out) : Type 0 where
  parted : {i : ℕ} → Parts IsSheet text i → o ≡ refused_with SHEET i room → Outcome text room o
  lacking : Lacks IsSheet text → o ≡ refused_with SHEET (length text) room → Outcome text room o
  turned_down : {first : Rule} {further : List Rule} {number place : ℕ} → Sheet text first further → Refused (first ∷ further) number place
      → o ≡ refused_with number place room → Outcome text room o
  too_long : {first : Rule} {further : List Rule} → Sheet text first further → Pass (first ∷ further)
      → room < length (book_bytes first further) → o ≡ refused_with OUT-ROOM 0 room → Outcome text room o
  done : {first : Rule} {further : List Rule} → Sheet text first further → Pass (first ∷ further)
      → length (book_bytes first further) ≤ room → o ≡ handed_over (book_bytes first further) room → Outcome text room o

handed_fits : (bytes : List ℕ) (room : ℕ) → leb (length bytes) room ≡ true → handed bytes room ≡ handed_over bytes room
unfolding handed
handed_fits bytes room fits = rw fits

handed_short : (bytes : List ℕ) (room : ℕ) → leb (length bytes) room ≡ false → handed bytes room ≡ refused_with OUT-ROOM 0 room
unfolding handed
handed_short bytes room short = rw short

outcome : {text : List ℕ} (room : ℕ) {o : Out} → Makes text room o → Outcome text room o
outcome room (wrong_at parts) = parted parts refl
outcome room (more_due lacks) = lacking lacks refl
outcome {text} room (judged {first} {further} read) = go (judge (first ∷ further))
  where
    refuse : ℕ → ℕ → Out
    refuse number place = refused_with number place room

    o : Out
    o = judged_by refuse (made_of room first further) (first ∷ further)

    handing : Pass (first ∷ further) → (t : Bool) → leb (length (book_bytes first further)) room ≡ t → Outcome text room o
    handing pass true fits =
        done read pass (leb-true _ _ fits)
        (passed_so refuse (made_of room first further) pass ∙ handed_fits (book_bytes first further) room fits)
    handing pass false short =
        too_long read pass (omega (arith, leb-false (length (book_bytes first further)) room short))
        (passed_so refuse (made_of room first further) pass ∙ handed_short (book_bytes first further) room short)

    go : Judged (first ∷ further) → Outcome text room o
    go (is_refused why) = turned_down read why (refused_so refuse (made_of room first further) why)
    go (passes pass) = handing pass (leb (length (book_bytes first further)) room) refl

-- the bytes that are handed over are the book of the sheet
sheet_book_lem : (text : List ℕ) {first : Rule} {further : List Rule} → Sheet text first further → Pass (first ∷ further)
    → BookOfSheet first further (book_bytes first further)
unfolding sheet_book
sheet_book_lem text {first} {further} read pass =
    let well_formed = book_well_formed first further pass.small pass.some_kind in
    let has = named_has_bytes (sheet_book first further) (kind_names (first ∷ further)) well_formed (kinds_good text read) refl in
    record {
      formed = has.0;
      book_is = has.1;
      names_are = rw has.2 (kinds_by_first_appearance (first ∷ further));
      derives = λ run. rw has.1 (book_derives_the_meaning first further pass.once run);
    }

-- a book that is made
pub book_made : (text : List ℕ) (room : ℕ) {o : Out} → Makes text room o → o.answer.number ≡ DONE → BookMade text room o
book_made text room {o} makes is = go (outcome room makes)
  where
    go : Outcome text room o → BookMade text room o
    go (parted parts answer) = absurd (omega (arith, is, ap (λ (o : Out). o.answer.number) answer))
    go (lacking lacks answer) = absurd (omega (arith, is, ap (λ (o : Out). o.answer.number) answer))
    go (turned_down read why answer) = absurd (never_done why (sym (ap (λ (o : Out). o.answer.number) answer) ∙ is))
    go (too_long read pass small answer) = absurd (omega (arith, is, ap (λ (o : Out). o.answer.number) answer))
    go (done {first} {further} read pass fits answer) =
        record {
          first = first;
          further = further;
          sheet = read;
          place_is = ap (λ (o : Out). o.answer.place) answer;
          fits = rw answer fits;
          book = rw (answer, take-append_seam (book_bytes first further) (zeros (room - length (book_bytes first further))))
              (sheet_book_lem text read pass);
          behind = rw answer (drop-append_seam (book_bytes first further) (zeros (room - length (book_bytes first further))));
        }

-- the bytes of a sheet's book are of the form with names, and no more than the longest book has
sheet_named : (text : List ℕ) {first : Rule} {further : List Rule} → Sheet text first further → Pass (first ∷ further)
    → named (book_bytes first further) ≡ true
unfolding sheet_book
sheet_named text {first} {further} read pass =
    named_are_named (sheet_book first further) (kind_names (first ∷ further))
    (book_well_formed first further pass.small pass.some_kind) (kinds_good text read) refl

sheet_short : (text : List ℕ) {first : Rule} {further : List Rule} → Sheet text first further → Pass (first ∷ further)
    → length (book_bytes first further) ≤ 4184
sheet_short text {first} {further} read pass =
    let good = ap (λ (j : Verdict). j.number) (sheet_book_lem text read pass).formed in
    (length-named (book_bytes first further) (sheet_named text read pass) (formed (book_bytes first further) good).long).1

-- a book that is made is of the form with names
pub book-named : (text : List ℕ) (room : ℕ) {o : Out} → Makes text room o → o.answer.number ≡ DONE → named (taken o) ≡ true
book-named text room {o} makes is = go (outcome room makes)
  where
    go : Outcome text room o → named (taken o) ≡ true
    go (parted parts answer) = absurd (omega (arith, is, ap (λ (o : Out). o.answer.number) answer))
    go (lacking lacks answer) = absurd (omega (arith, is, ap (λ (o : Out). o.answer.number) answer))
    go (turned_down read why answer) = absurd (never_done why (sym (ap (λ (o : Out). o.answer.number) answer) ∙ is))
    go (too_long read pass small answer) = absurd (omega (arith, is, ap (λ (o : Out). o.answer.number) answer))
    go (done {first} {further} read pass fits answer) =
        rw (answer, take-append_seam (book_bytes first further) (zeros (room - length (book_bytes first further))))
        (sheet_named text read pass)

-- a refusal is none of 0 and 26, and at most 29
refused_number : {rules : List Rule} {number place : ℕ} → Refused rules number place → (SHEET < number) × (number ≤ KINDLESS)
refused_number (twice again) = (omega arith, omega arith)
refused_number (big once many) = (omega arith, omega arith)
refused_number (kindless once few none) = (omega arith, omega arith)

number_of : {o other : Out} → o ≡ other → o.answer.number ≡ other.answer.number
number_of is = ap (λ (o : Out). o.answer.number) is

-- with room for the longest book, 21 never shows
pub room_suffices : (text : List ℕ) (room : ℕ) {o : Out} → 4184 ≤ room → Makes text room o → o.answer.number ≢ OUT-ROOM
room_suffices text room {o} enough makes is = go (outcome room makes)
  where
    go : Outcome text room o → ⊥
    go (parted parts answer) = omega (arith, is, number_of answer)
    go (lacking lacks answer) = omega (arith, is, number_of answer)
    go (turned_down read why answer) = omega (arith, is, number_of answer, refused_number why)
    go (too_long read pass small answer) = omega (arith, small, sheet_short text read pass)
    go (done read pass fits answer) = omega (arith, is, number_of answer)

-- every answer
pub make_answers : (text : List ℕ) (room : ℕ) {o : Out} → Makes text room o → MakeAnswers room o
make_answers text room {o} makes = go (outcome room makes)
  where
    cleared : {number place : ℕ} → o ≡ refused_with number place room → (o.bytes ≡ zeros room) × (o.answer.size ≡ 0)
    cleared is = (ap (λ (o : Out). o.bytes) is, ap (λ (o : Out). o.answer.size) is)

    long : {number place : ℕ} → o ≡ refused_with number place room → length o.bytes ≡ room
    long is = ap length (cleared is).0 ∙ length-replicate room 0

    go : Outcome text room o → MakeAnswers room o
    go (parted {i} parts is) =
        record {
          listed = inr (inr (omega (arith, number_of is), omega (arith, number_of is)));
          whole = long is;
          refused_zero = λ _. cleared is;
        }
    go (lacking lacks is) =
        record {
          listed = inr (inr (omega (arith, number_of is), omega (arith, number_of is)));
          whole = long is;
          refused_zero = λ _. cleared is;
        }
    go (turned_down read why is) =
        let t = refused_number why in
        record {
          listed = inr (inr (omega (arith, number_of is, t.0), omega (arith, number_of is, t.1)));
          whole = long is;
          refused_zero = λ _. cleared is;
        }
    go (too_long read pass small is) = record { listed = inr (inl (number_of is)); whole = long is; refused_zero = λ _. cleared is }
    go (done {first} {further} read pass fits is) =
        record {
          listed = inl (number_of is);
          whole =
              ap (λ (o : Out). length o.bytes) is
              ∙ length-append (book_bytes first further) (zeros (room - length (book_bytes first further)))
              ∙ omega (arith, length-replicate {A = ℕ} (room - length (book_bytes first further)) 0);
          refused_zero = λ other. absurd (other (number_of is));
        }

-- 26 stands where the text shows to be no sheet, and nowhere else
pub sheet_refused_at : (text : List ℕ) (room : ℕ) {o : Out} → Makes text room o → (i : ℕ)
    → ((o.answer.number ≡ SHEET) × (o.answer.place ≡ i)) ↔ NoSheetAt text i
sheet_refused_at text room {o} makes i = (λ t. go t.0 t.1 (outcome room makes), back)
  where
    place_of_lem : {number place : ℕ} → o ≡ refused_with number place room → o.answer.place ≡ place
    place_of_lem is = ap (λ (o : Out). o.answer.place) is

    go : o.answer.number ≡ SHEET → o.answer.place ≡ i → Outcome text room o → NoSheetAt text i
    go number place (parted parts is) = inl (rw (sym (place_of_lem is) ∙ place) at parts)
    go number place (lacking lacks is) = inr (lacks, sym place ∙ place_of_lem is)
    go number place (turned_down read why is) = absurd (omega (arith, number, number_of is, refused_number why))
    go number place (too_long read pass small is) = absurd (omega (arith, number, number_of is))
    go number place (done read pass fits is) = absurd (omega (arith, number, number_of is))

    told : {at : ℕ} → at ≡ i → o ≡ refused_with SHEET at room → (o.answer.number ≡ SHEET) × (o.answer.place ≡ i)
    told here is = (number_of is, place_of_lem is ∙ here)

    back : NoSheetAt text i → (o.answer.number ≡ SHEET) × (o.answer.place ≡ i)
    back (inl parts) = told refl (makes_once text room makes (wrong_at parts))
    back (inr (lacks, here)) = told (sym here) (makes_once text room makes (more_due lacks))
