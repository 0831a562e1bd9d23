-- Worked lines: what the program writes of a sheet, in its own words.
use Rattle.std.specs.Prelude.{ℕ, ◌≡◌, List, [], ◌∷◌}
use Prim.Native.String.{String}
use Rattle.book.specs.Form.{DONE}
use Rattle.sheets.specs.Made.{SHEET, TWICE, BIG, KINDLESS}
use Rattle.verdict.specs.Judges.{BARREN, UNUSED}
use Rattle.compiler.specs.declared.Compiled.{Compiled}
use Rattle.compiler.specs.Compiles.{answer}
use Rattle.lines.specs.Text.{text}
use Rattle.said.specs.Said.{said_lines}
use Rattle.shown.specs.Shown.{refusal_line}

-- a case: a sheet with the number and place of its refusal; or a sheet with what the compiler says of its book and the
-- place of the node; each with what is written
pub data Case : Type 0 where
  refusal : String → ℕ → ℕ → String → Case
  compiled : String → Compiled → ℕ → String → Case

-- what it means that a case holds
abbrev pub Holds : Case → Type 0
Holds (refusal sheet number place lines) = refusal_line (text sheet) number place ≡ text lines
Holds (compiled sheet said place lines) = said_lines [] (text sheet) said place ≡ text lines

-- every case of a list holds
pub data Each : List Case → Type 0 where
  no_more : Each []
  and : {one : Case} {others : List Case} → Holds one → Each others → Each (one ∷ others)

-- no sheet at all, one that ends too early, a byte that has no place there, a name that comes again, too many nodes, no
-- kind; a book that passes, a node that is not used, in the second line, and a start that takes no run
unfoldable pub table : List Case
table =
    refusal "" SHEET 0 "refused 26 line 1 column 1: a rule's name is due\n"
    ∷ refusal "a =\n" SHEET 4 "refused 26 line 2 column 1: a word, `empty` or `(` is due\n"
    ∷ refusal "a = x* *;" SHEET 7 "refused 26 line 1 column 8: a word, `empty`, `(`, `|` or `;` is due\n"
    ∷ refusal "empty = x;" SHEET 5 "refused 26 line 1 column 6: a letter is due\n"
    ∷ refusal "a = x;\na = y;\n" TWICE 7 "refused 27 line 2 column 1: this name comes again\n"
    ∷ refusal "" BIG 0 "refused 28: over 512 nodes or 64 kinds\n"
    ∷ refusal "a = empty;" KINDLESS 0 "refused 29: no event kind\n"
    ∷ compiled "" (answer DONE 0 138 0 0) 0 "passes, a plan of 138 bytes\n"
    ∷ compiled "a = x;\n b = y;\n" (answer UNUSED 1 0 0 0) 12 "refused 22 node 1 line 2 column 6\n b = y;\n     ^\n"
    ∷ compiled "a = x a;" (answer BARREN 2 0 0 0) 6 "refused 5 node 2 line 1 column 7\na = x a;\n      ^\n"
    ∷ []
