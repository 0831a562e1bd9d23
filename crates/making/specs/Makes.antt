-- What making a book of a text answers, and what asking for the place of a node does.
use Rattle.std.specs.Prelude.{ℕ, cond, List, [], ◌∷◌, ltb, eqb, length, get_or}
use Rattle.words.specs.Beginnings.{Parts, Lacks}
use Rattle.written.specs.Written.{written, Out, refused_with, handed}
use Rattle.written.specs.declared.Written.{Written}
use Rattle.book.specs.Form.{DONE, NODE}
use Rattle.book.specs.Encode.{named_bytes}
use Rattle.sheets.specs.Grammar.{Rule, Sheet, IsSheet}
use Rattle.sheets.specs.Nodes.{kind_names, sizes, sheet_book, rules_places}
use Rattle.sheets.specs.Made.{SHEET, TWICE, BIG, KINDLESS, repeats, repeated_at, too_big}

-- what a sheet's rules come to: the first of 27, 28 and 29 with its place, or what is made of them
unfoldable pub judged_by : {A : Type 0} → (ℕ → ℕ → A) → A → List Rule → A
judged_by refused made rules =
    cond (repeats [] rules) (refused TWICE (repeated_at [] rules))
    (cond (too_big rules) (refused BIG 0)
    (cond (eqb (length (kind_names rules)) 0) (refused KINDLESS 0) made))

-- what a text comes to: 26 at the first byte at which no sheet begins so, or at the length where more is due; or what
-- its rules come to
pub data Answers (text : List ℕ) {A : Type 0} (refused : ℕ → ℕ → A) (made : Rule → List Rule → A) : A → Type 0 where
  wrong_at : {i : ℕ} → Parts IsSheet text i → Answers text refused made (refused SHEET i)
  more_due : Lacks IsSheet text → Answers text refused made (refused SHEET (length text))
  judged : {first : Rule} {further : List Rule}
      → Sheet text first further
      → Answers text refused made (judged_by refused (made first further) (first ∷ further))

-- the book with names of a first rule and further ones, where there is room for it, else 21
abbrev pub made_of : ℕ → Rule → List Rule → Out
made_of room first further = handed (named_bytes (sheet_book first further) (kind_names (first ∷ further))) room

-- what making a book of a text with so much room answers, and what the book's buffer then holds
abbrev pub Makes : List ℕ → ℕ → Out → Type 0
Makes text room = Answers text (λ number place. refused_with number place room) (made_of room)

-- the place of the text from which a node comes, or 4 with the number of nodes
abbrev pub place_of : ℕ → Rule → List Rule → Written
place_of node first further =
    cond (ltb node (sizes (first ∷ further)))
    (written DONE 0 (get_or (rules_places (first ∷ further)) node 0))
    (written NODE 0 (sizes (first ∷ further)))

-- what asking for the place of a node of a text's book answers
abbrev pub Places : List ℕ → ℕ → Written → Type 0
Places text node = Answers text (λ number place. written number 0 place) (place_of node)
