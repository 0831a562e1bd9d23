-- What compiling comes to, by document 01's table of answers: what judging says, and where a book passes, 7 or the
-- plan.
use Rattle.std.specs.Prelude.{ℕ, ◌-◌, ◌≤◌, ◌<◌, ◌≢◌, List, ◌++◌}
use Rattle.words.specs.Words.{zeros}
use Rattle.book.specs.Book.{Book}
use Rattle.book.specs.Form.{DONE, book_of}
use Rattle.verdict.specs.declared.Verdict.{Verdict}
use Rattle.verdict.specs.Judges.{judgement, Judges}
use Rattle.running.specs.Cells.{Marks, Marked}
use Rattle.plan.specs.Form.{plan_size}
use Rattle.writer.specs.Bytes.{plan_bytes}
use Rattle.compiler.specs.declared.Compiled.{Compiled}

-- the answer's number, after those of judging
abbrev pub PLAN-ROOM : ℕ
PLAN-ROOM = 7

-- an answer: number, place, size, and of a conflict the flag and the set
abbrev pub answer : ℕ → ℕ → ℕ → ℕ → ℕ → Compiled
answer number place size both clash =
    record { number = number; place = place; size = size; both = both; clash = clash }

-- the size of a book's plan
abbrev pub size_of : Book → ℕ
size_of book = plan_size book.count book.kinds

-- what compiling a book with so much plan room answers, and what the plan buffer then holds
pub data Compiles (bytes : List ℕ) (room : ℕ) : Compiled → List ℕ → Type 0 where
  refused : {v : Verdict}
      → Judges bytes v
      → v.number ≢ DONE
      → Compiles bytes room (answer v.number v.place 0 v.both v.clash) (zeros room)
  no_room : Judges bytes (judgement DONE 0 0 0)
      → room < size_of (book_of bytes)
      → Compiles bytes room (answer PLAN-ROOM 0 (size_of (book_of bytes)) 0 0) (zeros room)
  done : {marks : Marks}
      → Judges bytes (judgement DONE 0 0 0)
      → size_of (book_of bytes) ≤ room
      → Marked (book_of bytes).node marks
      → Compiles bytes
      room
      (answer DONE 0 (size_of (book_of bytes)) 0 0)
      (plan_bytes (book_of bytes) marks ++ zeros (room - size_of (book_of bytes)))
