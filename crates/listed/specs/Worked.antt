-- Worked lines: what the listing program writes, in the documents' digits.
use Rattle.std.specs.Prelude.{ℕ, ◌≡◌, List, [], ◌∷◌}
use Prim.Native.String.{String}
use Rattle.names.specs.Names.{NAMES}
use Rattle.book.specs.Form.{DONE}
use Rattle.compiler.specs.declared.Compiled.{Compiled}
use Rattle.verdict.specs.Judges.{BARREN, CONFLICT, UNUSED}
use Rattle.compiler.specs.Compiles.{answer}
use Rattle.reader.specs.declared.Reading.{Reading}
use Rattle.running.specs.Running.{DEEP, UNKNOWN, UNEXPECTED, END}
use Rattle.reader.specs.Numbers.{NO-ROOM, answered}
use Rattle.reader.specs.Reads.{outcome}
use Rattle.lines.specs.Text.{text}
use Rattle.listed.specs.Listing.{compiled_line, reading_lines, Lists}

-- a case: an input; a book's refusal; or a run of so many events, its answer and its tree; each with what is written
pub data Case : Type 0 where
  given : List ℕ → String → Case
  compiled : Compiled → String → Case
  read : ℕ → Reading → List ℕ → String → Case

-- what it means that a case holds
abbrev pub Holds : Case → Type 0
Holds (given input lines) = Lists input (text lines)
Holds (compiled answer lines) = compiled_line answer ≡ text lines
Holds (read events answer tree lines) = reading_lines events (outcome answer tree) ≡ text lines

-- every case of a list holds
pub data Each : List Case → Type 0 where
  no_more : Each []
  and : {one : Case} {others : List Case} → Holds one → Each others → Each (one ∷ others)

-- no input, half a length, lengths of 4,184 and 4,185 without their books; books that are refused; the rinse book's
-- worked runs; more records than 8,192; all 64 kinds
unfoldable pub table : List Case
table =
    given [] "input too short\n"
    ∷ given (0 ∷ []) "input too short\n"
    ∷ given (88 ∷ 16 ∷ []) "input too short\n"
    ∷ given (89 ∷ 16 ∷ []) "input too long\n"
    ∷ compiled (answer 3 5 0 0 0) "refused 3 5 0\n"
    ∷ compiled (answer NAMES 63 0 0 0) "refused 19 63 0\n"
    ∷ compiled (answer BARREN 0 0 0 0) "refused 5 0 0\n"
    ∷ compiled (answer UNUSED 1 0 0 0) "refused 22 1 0\n"
    ∷ compiled (answer CONFLICT 2 0 0 1) "refused 6 2 1 0\n"
    ∷ compiled (answer CONFLICT 2 0 1 0) "refused 6 2 0 1\n"
    ∷ compiled (answer CONFLICT 4 0 0 2) "refused 6 4 2 0\n"
    ∷ compiled (answer CONFLICT 511 0 1 18446744073709551615) "refused 6 511 18446744073709551615 1\n"
    ∷ read 3 (answered DONE 3 8 0) (8 ∷ 0 ∷ 7 ∷ 6 ∷ 5 ∷ 1 ∷ 32772 ∷ 2 ∷ []) "accept 3 8\n8\n0\n7\n6\n5\n1\n-4\n2\n"
    ∷ read 2 (answered DONE 2 5 0) (8 ∷ 0 ∷ 7 ∷ 32774 ∷ 2 ∷ 0 ∷ 0 ∷ []) "accept 2 5\n8\n0\n7\n-6\n2\n"
    ∷ read 3 (answered DEEP 1 0 0) [] "refused 11 1 0\n"
    ∷ read 2 (answered UNKNOWN 1 0 6) [] "refused 12 1 6\n"
    ∷ read 2 (answered UNEXPECTED 1 0 6) [] "refused 13 1 6\n"
    ∷ read 3 (answered END 3 0 6) [] "refused 14 3 6\n"
    ∷ read 4096 (answered NO-ROOM 0 8193 0) [] "refused 16 0 8193\n"
    ∷ read 0 (answered END 0 0 18446744073709551615) [] "refused 14 0 18446744073709551615\n"
    ∷ []
