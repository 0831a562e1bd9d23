-- What asking for a sample run comes to: what judging says, and where a book passes, 24, 25 or the run.
use Rattle.std.specs.Prelude.{ℕ, ◌≤◌, ◌<◌, ◌≢◌, List, length}
use Rattle.book.specs.Form.{DONE, book_of}
use Rattle.grammar.specs.Derivations.{Lawful}
use Rattle.verdict.specs.declared.Verdict.{Verdict}
use Rattle.verdict.specs.Judges.{judgement, Judges}
use Rattle.written.specs.declared.Written.{Written}
use Rattle.written.specs.Written.{Out, refused_with, handed_over}
use Rattle.sampling.specs.Sample.{Sample}

-- the answers' numbers, after those of judging
abbrev pub RUN-LONG : ℕ
RUN-LONG = 24

abbrev pub RUN-ROOM : ℕ
RUN-ROOM = 25

-- an answer with what the buffer then holds
abbrev pub out : Written → List ℕ → Out
out answer bytes = record { answer = answer; bytes = bytes }

-- what asking for a sample of bytes as a book answers, with so much room, and what the buffer then holds
pub data Samples (bytes : List ℕ) (room : ℕ) : Out → Type 0 where
  refused : {v : Verdict}
      → Judges bytes v
      → v.number ≢ DONE
      → Samples bytes room (refused_with v.number v.place room)
  too_long : Judges bytes (judgement DONE 0 0 0)
      → ((run : List ℕ) → Lawful (book_of bytes) run → 65535 < length run)
      → Samples bytes room (refused_with RUN-LONG 0 room)
  no_room : {run : List ℕ}
      → Judges bytes (judgement DONE 0 0 0)
      → Sample (book_of bytes) run
      → length run ≤ 65535
      → room < length run
      → Samples bytes room (refused_with RUN-ROOM 0 room)
  done : {run : List ℕ}
      → Judges bytes (judgement DONE 0 0 0)
      → Sample (book_of bytes) run
      → length run ≤ 65535
      → length run ≤ room
      → Samples bytes room (handed_over run room)
