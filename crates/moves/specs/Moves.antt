-- Moving a book to the form with names, and back.
use Rattle.std.specs.Prelude.{ℕ, Bool, not, ◌&&◌, ◌||◌, true, false, cond, List, [], ◌∷◌, ◌++◌, eqb}
use Rattle.words.specs.Words.{word_bytes}
use Rattle.words.specs.Lists.{same}
use Rattle.forms.specs.Forms.{contents_of}
use Rattle.names.specs.Names.{NAMES, HOUSE-NAMES, first_bad_name, names_good, names_of}
use Rattle.written.specs.Written.{Out, refused_with, handed}
use Rattle.book.specs.Form.{DONE, LENGTH, CONTENTS, judged, named, form_of, book_of, book_names}
use Rattle.book.specs.Encode.{body_words, book_bytes, named_bytes}
use Rattle.book.specs.declared.Judged.{Judged}

-- number 20
abbrev pub KEPT : ℕ
KEPT = 20

-- the form of a book in a call that takes its own form only: a book of the other is 2, unless it is 1 by its length
abbrev pub own_form : Bool → List ℕ → Judged
own_form own bytes = cond (own || eqb (form_of bytes).number LENGTH) (form_of bytes) (judged CONTENTS 0)

-- whether a book is of a call's own form: with names, or without them
abbrev pub is_own : Bool → List ℕ → Bool
is_own with bytes = cond with (named bytes) (not (named bytes))

-- the house list is 64 good names and nothing else
abbrev pub house_good : List ℕ → Bool
house_good house = names_good house 0 HOUSE-NAMES

-- the first so many names of the house list
abbrev pub house_names : List ℕ → ℕ → List (List ℕ)
house_names house count = names_of house 0 count

-- a book with the first names of the house list, and without names, as bytes
abbrev pub named_of : List ℕ → List ℕ → List ℕ
named_of bytes house = named_bytes (book_of bytes) (house_names house (book_of bytes).kinds)

abbrev pub plain_of : List ℕ → List ℕ
plain_of bytes = book_bytes (book_of bytes)

-- a book's bytes with sections of these sizes, and what follows its nodes
abbrev pub laid_of : List ℕ → List ℕ → List ℕ → List ℕ
laid_of bytes sizes rest = word_bytes (contents_of sizes ++ body_words (book_of bytes)) ++ rest

-- what follows where a book is of a call's own form and the house list is good; else the refusal of 1 to 4 or 19
unfoldable pub after_forms : Judged → List ℕ → Out → ℕ → Out
after_forms form house next room =
    cond (eqb form.number DONE)
    (cond (house_good house) next (refused_with NAMES (first_bad_name house 0 HOUSE-NAMES) room))
    (refused_with form.number form.place room)

-- a book without names moved forward: the book with the first names of the house list
unfoldable pub forward_of : List ℕ → List ℕ → ℕ → Out
forward_of bytes house room =
    after_forms (own_form (not (named bytes)) bytes) house (handed (named_of bytes house) room) room

-- whether two lists of names are the same
unfoldable pub same_names : List (List ℕ) → List (List ℕ) → Bool
same_names [] [] = true
same_names [] (other ∷ others) = false
same_names (name ∷ names) [] = false
same_names (name ∷ names) (other ∷ others) = same name other && same_names names others

-- a book with names moved back: the book without them, if they are the first names of the house list
unfoldable pub back_of : List ℕ → List ℕ → ℕ → Out
back_of bytes house room =
    after_forms (own_form (named bytes) bytes) house
    (cond (same_names (book_names bytes) (house_names house (book_of bytes).kinds))
    (handed (plain_of bytes) room)
    (refused_with KEPT 0 room))
    room
