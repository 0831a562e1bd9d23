-- What the compiler says of a sheet's book, in words: that it passes, or where on the sheet it is refused.
use Rattle.std.specs.Prelude.{ℕ, ◌+◌, ◌*◌, Bool, ◌&&◌, not, cond, List, [], ◌++◌, eqb}
use Rattle.words.specs.Lists.{lists_from}
use Rattle.kinds.specs.Kinds.{has?}
use Rattle.book.specs.Form.{DONE, book_of}
use Rattle.verdict.specs.Judges.{CONFLICT}
use Rattle.compiler.specs.declared.Compiled.{Compiled}
use Rattle.lines.specs.Text.{text}
use Rattle.prints.specs.Digits.{spaced}
use Rattle.lines.specs.Lines.{refused, line_feed}
use Rattle.marks.specs.Marks.{place_text, mark_lines}
use Rattle.told.specs.Told.{name_text}

-- the line of a book that passes: the size of its plan
unfoldable pub passes_line : ℕ → List ℕ
passes_line size = text "passes, a plan of" ++ spaced size ++ text " bytes\n"

-- number and node of a refusal, line and column of the place from which the node comes
unfoldable pub where_text : List ℕ → Compiled → ℕ → List ℕ
where_text sheet answer place =
    refused ++ spaced answer.number ++ text " node" ++ spaced answer.place ++ place_text sheet place

module _ (bytes : List ℕ) where
  -- the names of the kinds in a set, a space before each
  abbrev pub clash_name : ℕ → ℕ → List ℕ
  clash_name clash kind = cond (has? clash kind) (name_text bytes kind) []

  unfoldable pub clash_names : ℕ → List ℕ
  clash_names clash = lists_from (clash_name clash) (book_of bytes).kinds 0

  -- a conflict: whether both sides can take nothing, and the names of the kinds that clash, with a comma between
  unfoldable pub clash_text : Bool → ℕ → List ℕ
  clash_text both clash =
      text ":" ++ cond both (text " both sides can take nothing") []
      ++ cond (both && not (eqb clash 0)) (text ",") []
      ++ clash_names clash

  -- what more is said of a refusal
  abbrev pub more_text : Compiled → List ℕ
  more_text answer = cond (eqb answer.number CONFLICT) (clash_text (eqb answer.both 1) answer.clash) []

  -- the lines of a refusal: what it is and where, and of a conflict what clashes; then the line of the sheet, with a
  -- mark under that place
  unfoldable pub refused_lines : List ℕ → Compiled → ℕ → List ℕ
  refused_lines sheet answer place =
      where_text sheet answer place ++ more_text answer ++ line_feed ++ mark_lines sheet place

  -- what is written, where the place of the node is this
  unfoldable pub said_lines : List ℕ → Compiled → ℕ → List ℕ
  said_lines sheet answer place =
      cond (eqb answer.number DONE) (passes_line answer.size) (refused_lines sheet answer place)

-- the most bytes that this takes, for a sheet of so many bytes
abbrev pub said_room : ℕ → ℕ
said_room size = 2 * size + 1200
