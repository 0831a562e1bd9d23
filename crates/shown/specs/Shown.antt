-- What the program `sheet` writes for its input, a sheet.
use Rattle.std.specs.Prelude.{ℕ, ◌+◌, ◌≤◌, ◌<◌, ◌≡◌, ◌≢◌, Bool, true, false, ◌&&◌, ◌||◌, cond, List, [], ◌++◌, leb, eqb, length, take, drop}
use Rattle.written.specs.declared.Written.{Written}
use Rattle.written.specs.Written.{Out, taken}
use Rattle.book.specs.Form.{DONE}
use Rattle.sheets.specs.Made.{SHEET, TWICE, BIG, KINDLESS}
use Rattle.syntax.specs.Machine.{name_due, wrong, read_sheet}
use Rattle.making.specs.Makes.{Makes, Places}
use Rattle.compiler.specs.declared.Compiled.{Compiled}
use Rattle.compiler.specs.Compiles.{Compiles}
use Rattle.lines.specs.Text.{text}
use Rattle.prints.specs.declared.Page.{Page}
use Rattle.prints.specs.Digits.{spaced}
use Rattle.prints.specs.Pages.{Added}
use Rattle.lines.specs.Lines.{refused, line_feed, input_too_long}
use Rattle.listed.specs.Listing.{longest_book, plan_room, ReadInto}
use Rattle.marks.specs.Marks.{place_text}
use Rattle.stands.specs.Stands.{stood, stand_of, due_text}
use Rattle.told.specs.Told.{NamedBook, book_lines, book_room}
use Rattle.said.specs.Said.{said_lines, said_room}

-- the longest sheet, and the bytes that decide: that many and one more
abbrev pub sheet_room : ℕ
sheet_room = 65536

abbrev pub input_room : ℕ
input_room = sheet_room + 1

-- the output that always suffices
abbrev pub out_room : ℕ
out_room = book_room + said_room sheet_room

-- why a sheet is refused: at 26 what is due where it goes wrong
unfoldable pub reason_text : List ℕ → ℕ → List ℕ
reason_text sheet number =
    cond (eqb number SHEET) (text ": " ++ due_text (stand_of (stood sheet (name_due []) 0)))
    (cond (eqb number TWICE) (text ": this name comes again")
    (cond (eqb number BIG) (text ": over 512 nodes or 64 kinds")
    (cond (eqb number KINDLESS) (text ": no event kind") [])))

-- 26 and 27 with line and column
unfoldable pub where_placed : List ℕ → ℕ → ℕ → List ℕ
where_placed sheet number place = cond (eqb number SHEET || eqb number TWICE) (place_text sheet place) []

-- a sheet's refusal, one line
unfoldable pub refusal_line : List ℕ → ℕ → ℕ → List ℕ
refusal_line sheet number place =
    refused ++ spaced number ++ where_placed sheet number place ++ reason_text sheet number ++ line_feed

-- the lines of a book, then what the compiler says of it, where the node's place on the sheet is this
unfoldable pub book_text : List ℕ → List ℕ → Compiled → ℕ → List ℕ
book_text sheet book answer place = book_lines book ++ said_lines book sheet answer place

-- what the program writes for a sheet
pub data Shows (sheet : List ℕ) : List ℕ → Type 0 where
  too_long : sheet_room < length sheet → Shows sheet input_too_long
  sheet_refused : {out : Out}
      → length sheet ≤ sheet_room
      → Makes sheet longest_book out
      → out.answer.number ≢ DONE
      → Shows sheet (refusal_line sheet out.answer.number out.answer.place)
  book-said : {out : Out} {answer : Compiled} {plan : List ℕ} {from : Written}
      → length sheet ≤ sheet_room
      → Makes sheet longest_book out
      → out.answer.number ≡ DONE
      → Compiles (taken out) plan_room answer plan
      → Places sheet answer.place from
      → Shows sheet (book_text sheet (taken out) answer from.place)

-- the place of 26 is where the sheet goes wrong
pub record Wrong (sheet : List ℕ) (number place : ℕ) : Type 0 where
  pub at_place : number ≡ SHEET → read_sheet sheet ≡ wrong place

-- what is lent to compile a book and to tell it, of a sheet that is not too long
pub record BookLent (sheet book plan : List ℕ) : Type 0 where
  pub short : length sheet ≤ sheet_room
  pub formed : NamedBook book
  pub cells : length plan ≡ plan_room

-- what is told of a book and what the compiler says of it is added to a page, and has room in an output that always
-- suffices
pub record AddedBook (sheet book : List ℕ) (before after : Page) : Type 0 where
  pub answer : Compiled
  pub plan : List ℕ
  pub from : Written
  pub compiled : Compiles book plan_room answer plan
  pub placed : Places sheet answer.place from
  pub short : length (book_text sheet book answer from.place) ≤ out_room
  pub told : Added before after (book_text sheet book answer from.place)

-- the buffers lent, each of its size
pub record Lent (book plan : List ℕ) : Type 0 where
  pub bytes : length book ≡ longest_book
  pub cells : length plan ≡ plan_room

-- what the program writes for a sheet is added to a page, and has room in an output that always suffices
pub record AddedShow (sheet : List ℕ) (before after : Page) : Type 0 where
  pub bytes : List ℕ
  pub shows : Shows sheet bytes
  pub short : length bytes ≤ out_room
  pub added : Added before after bytes

-- the front of an output, so many bytes, is what the program writes for an input, and the rest is as it was
pub record Shown (input before after : List ℕ) (count : ℕ) : Type 0 where
  pub within : count ≤ length after
  pub shows : Shows input (take count after)
  pub rest : drop count after ≡ drop count before

-- the lengths of all the lent buffers suffice; so many bytes of the input's were read
abbrev pub suffices : ℕ → ℕ → ℕ → ℕ → ℕ → Bool
suffices buffer size out book plan =
    leb input_room buffer && leb size buffer && leb out_room out && eqb book longest_book && eqb plan plan_room

-- what `show` does: where the buffers suffice, what the program writes for every input whose first bytes were read;
-- else it writes nothing
pub record Answers (buffer : List ℕ) (size : ℕ) (out book plan after : List ℕ) (count : ℕ) : Type 0 where
  pub shown : suffices (length buffer) size (length out) (length book) (length plan) ≡ true
      → (input : List ℕ)
      → ReadInto input buffer size
      → Shown input out after count
  pub nothing : suffices (length buffer) size (length out) (length book) (length plan) ≡ false
      → (count ≡ 0) × (after ≡ out)
