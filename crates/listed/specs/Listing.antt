-- What the listing program writes for its input: the book's length, the book, then the events.
use Rattle.std.specs.Prelude.{ℕ, ◌+◌, ◌≤◌, ◌≡◌, ◌≢◌, Bool, true, false, cond, ◌&&◌, List, ltb, leb, eqb, length, take, drop}
use Rattle.words.specs.Words.{u16_at}
use Rattle.book.specs.Form.{DONE}
use Rattle.verdict.specs.Judges.{CONFLICT}
use Rattle.compiler.specs.declared.Compiled.{Compiled}
use Rattle.compiler.specs.Compiles.{Compiles}
use Rattle.reader.specs.declared.Reading.{Reading}
use Rattle.reader.specs.Numbers.{NO-ROOM}
use Rattle.reader.specs.Reads.{Outcome, read_of}
use Rattle.prints.specs.declared.Page.{Page}
use Rattle.prints.specs.Pages.{Added}
use Rattle.listed.specs.declared.LengthError.{LengthError}
use Rattle.listed.specs.declared.LengthError.TheVariants.{TooLong as LongError, TooShort as ShortError}
use Rattle.lines.specs.Lines.{accepted_room, input_too_long, input_too_short}
use Rattle.lines.specs.Lines.{refused_line, conflict_line, accepted_lines}

-- the longest book, and the room for events
abbrev pub longest_book : ℕ
longest_book = 4184

abbrev pub event_room : ℕ
event_room = 4096

-- the bytes that decide: the length, the longest book, the events and one event more
abbrev pub input_room : ℕ
input_room = 2 + longest_book + event_room + 1

-- the buffers: the plan's, which holds the largest plan, the holding slots and the tree's records
abbrev pub plan_room : ℕ
plan_room = 37406

abbrev pub slot_room : ℕ
slot_room = 512

abbrev pub tree_room : ℕ
tree_room = 8192

-- the output's, which holds the lines of all those records
abbrev pub out_room : ℕ
out_room = accepted_room tree_room

-- the book's length, the book and the run that an input has
unfoldable pub book_size : List ℕ → ℕ
book_size input = u16_at input 0

unfoldable pub book_in : List ℕ → List ℕ
book_in input = take (book_size input) (drop 2 input)

unfoldable pub run_in : List ℕ → List ℕ
run_in input = drop (2 + book_size input) input

-- what an input can be: too long, too short or whole
pub data Shape : Type 0 where
  TooLong : Shape
  TooShort : Shape
  Whole : Shape

-- what stands against an input, as its shape
abbrev pub shape_by : LengthError → Shape
shape_by LongError = TooLong
shape_by ShortError = TooShort

-- whether an input is too long, too short or whole
unfoldable pub shape_of : List ℕ → Shape
shape_of input =
    cond (ltb (length input) 2)
    TooShort
    (cond (ltb longest_book (book_size input))
    TooLong
    (cond (ltb (length input) (2 + book_size input))
    TooShort
    (cond (ltb (2 + book_size input + event_room) (length input)) TooLong Whole)))

-- what is written for a book that is refused: at a conflict the third value is the set of kinds, and after it comes
-- the flag; else the third value is 0
unfoldable pub compiled_line : Compiled → List ℕ
compiled_line answer =
    cond (eqb answer.number CONFLICT)
    (conflict_line answer.number answer.place answer.clash answer.both)
    (refused_line answer.number answer.place 0)

-- the third value of a reading's refusal: the records at NO ROOM, else the kinds expected
unfoldable pub third_of : Reading → ℕ
third_of answer = cond (eqb answer.number NO-ROOM) answer.records answer.expected

-- what is written for a run of so many events that was read
unfoldable pub reading_lines : ℕ → Outcome → List ℕ
reading_lines events read =
    cond (eqb read.reading.number DONE)
    (accepted_lines events read.reading.records (take read.reading.records read.tree))
    (refused_line read.reading.number read.reading.place (third_of read.reading))

-- what the program writes for an input
pub data Lists (input : List ℕ) : List ℕ → Type 0 where
  too_long : shape_of input ≡ TooLong → Lists input input_too_long
  too_short : shape_of input ≡ TooShort → Lists input input_too_short
  book-refused : {answer : Compiled} {plan : List ℕ}
      → shape_of input ≡ Whole
      → Compiles (book_in input) plan_room answer plan
      → answer.number ≢ DONE
      → Lists input (compiled_line answer)
  run_read : {answer : Compiled} {plan : List ℕ}
      → shape_of input ≡ Whole
      → Compiles (book_in input) plan_room answer plan
      → answer.number ≡ DONE
      → Lists input
      (reading_lines (length (run_in input)) (read_of (take answer.size plan) (run_in input) slot_room tree_room))

-- an input that is whole, taken apart: its book and its run
pub record Parted (input book run : List ℕ) : Type 0 where
  pub whole : shape_of input ≡ Whole
  pub book_is : book ≡ book_in input
  pub run_is : run ≡ run_in input

-- the buffers lent to compile a book and read a run, each of its size
pub record Lent (plan held tree : List ℕ) : Type 0 where
  pub cells : length plan ≡ plan_room
  pub slots : length held ≡ slot_room
  pub records : length tree ≡ tree_room

-- what the program writes for an input is added to a page, and has room in an output that always suffices
pub record AddedListing (input : List ℕ) (before after : Page) : Type 0 where
  pub bytes : List ℕ
  pub lists : Lists input bytes
  pub short : length bytes ≤ out_room
  pub added : Added before after bytes

-- the front of an output, so many bytes, is what the program writes for an input, and the rest is as it was
pub record Listed (input before after : List ℕ) (count : ℕ) : Type 0 where
  pub within : count ≤ length after
  pub lists : Lists input (take count after)
  pub rest : drop count after ≡ drop count before

-- a buffer begins with so many bytes that were read of an input: all of it, or as much as fills the buffer
pub record ReadInto (input buffer : List ℕ) (size : ℕ) : Type 0 where
  pub front : take size buffer ≡ take (length buffer) input

-- the lengths of all the lent buffers suffice; so many bytes of the input's were read
abbrev pub suffices : ℕ → ℕ → ℕ → ℕ → ℕ → ℕ → Bool
suffices buffer size out plan held tree =
    leb input_room buffer && leb size buffer && leb out_room out && eqb plan plan_room && eqb held slot_room
    && eqb tree tree_room

-- what `list` does: where the buffers suffice, what the program writes for every input whose first bytes were read;
-- else it writes nothing
pub record Answers (buffer : List ℕ) (size : ℕ) (out plan held tree after : List ℕ) (count : ℕ) : Type 0 where
  pub listed : suffices (length buffer) size (length out) (length plan) (length held) (length tree) ≡ true
      → (input : List ℕ)
      → ReadInto input buffer size
      → Listed input out after count
  pub nothing : suffices (length buffer) size (length out) (length plan) (length held) (length tree) ≡ false
      → (count ≡ 0) × (after ≡ out)
