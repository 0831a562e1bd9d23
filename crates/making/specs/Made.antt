-- What a book that is made of a sheet is, and what every answer leaves.
use Rattle.std.specs.Prelude.{ℕ, ◌-◌, ◌≤◌, ◌≡◌, ◌↔◌, ◌≢◌, ◌⊎◌, List, ◌∷◌, length, take, drop}
use Rattle.words.specs.Beginnings.{Parts, Lacks}
use Rattle.words.specs.Words.{zeros}
use Rattle.written.specs.Written.{Out, OUT-ROOM}
use Rattle.book.specs.Form.{DONE, judged, form_of, book_of, book_names}
use Rattle.grammar.specs.Derivations.{Lawful}
use Rattle.sheets.specs.Grammar.{Rule, Sheet, IsSheet}
use Rattle.sheets.specs.Nodes.{rule_names, all_words, sheet_book}
use Rattle.sheets.specs.Kinds.{ByFirstAppearance}
use Rattle.sheets.specs.Meaning.{SheetMeans}
use Rattle.sheets.specs.Made.{SHEET, KINDLESS}

-- bytes are the book of a sheet: of good form, with exactly the sheet's nodes, the kinds named in the order of their
-- first appearance; and it derives exactly the runs that the sheet means
pub record BookOfSheet (first : Rule) (further : List Rule) (bytes : List ℕ) : Type 0 where
  pub formed : form_of bytes ≡ judged DONE 0
  pub book_is : book_of bytes ≡ sheet_book first further
  pub names_are : ByFirstAppearance (rule_names (first ∷ further)) (all_words (first ∷ further)) (book_names bytes)
  pub derives : (run : List ℕ) → Lawful (book_of bytes) run ↔ SheetMeans first further run

-- a book is made of a text that is a sheet: the bytes that the answer counts are it, and zeros stand behind them
pub record BookMade (text : List ℕ) (room : ℕ) (o : Out) : Type 0 where
  pub first : Rule
  pub further : List Rule
  pub sheet : Sheet text first further
  pub place_is : o.answer.place ≡ 0
  pub fits : o.answer.size ≤ room
  pub book : BookOfSheet first further (take o.answer.size o.bytes)
  pub behind : drop o.answer.size o.bytes ≡ zeros (room - o.answer.size)

-- every answer is 0, 21 or one of 26 to 29, the buffer keeps its length, and a refusal leaves it zero
pub record MakeAnswers (room : ℕ) (o : Out) : Type 0 where
  pub listed : (o.answer.number ≡ DONE) ⊎ ((o.answer.number ≡ OUT-ROOM)
      ⊎ ((SHEET ≤ o.answer.number) × (o.answer.number ≤ KINDLESS)))
  pub whole : length o.bytes ≡ room
  pub refused_zero : o.answer.number ≢ DONE → (o.bytes ≡ zeros room) × (o.answer.size ≡ 0)

-- a text is no sheet, which shows at a place: there is the first byte at which no sheet begins so, or it is the length,
-- where more is due
abbrev pub NoSheetAt : List ℕ → ℕ → Type 0
NoSheetAt text i = Parts IsSheet text i ⊎ (Lacks IsSheet text × (i ≡ length text))
