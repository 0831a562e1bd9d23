-- What a written run is, and what every answer leaves.
use Rattle.std.specs.Prelude.{ℕ, ◌≤◌, ◌≡◌, ◌⊎◌, List, length}
use Rattle.written.specs.Written.{Out, handed_over, taken, Settled}
use Rattle.book.specs.Form.{DONE, book_of}
use Rattle.verdict.specs.declared.Verdict.{Verdict}
use Rattle.verdict.specs.Judges.{judgement, Judges}
use Rattle.meaning.specs.Meaning.{Accepts}
use Rattle.unread.specs.Unreads.{TREE, RUN-ROOM, MOST-EVENTS}

-- every answer is the book's own refusal, with its place, or done, or one of 23 to 25, and the buffer is settled
pub record UnreadAnswers (bytes : List ℕ) (room : ℕ) (o : Out) : Type 0 where
  pub listed : ((v : Verdict) × Judges bytes v × (o.answer.number ≡ v.number) × (o.answer.place ≡ v.place))
      ⊎ ((o.answer.number ≡ DONE) ⊎ ((TREE ≤ o.answer.number) × (o.answer.number ≤ RUN-ROOM)))
  pub settles : Settled room o

-- a run is written: the book passes, the records are the tree of the run that the answer counts, by the start, and of
-- no other; it has at most 65,535 events, and zeros stand behind it
pub record RunWritten (bytes records : List ℕ) (room : ℕ) (o : Out) : Type 0 where
  pub passes : Judges bytes (judgement DONE 0 0 0)
  pub accepts : Accepts (book_of bytes) (taken o) records
  pub only : (other : List ℕ) → Accepts (book_of bytes) other records → other ≡ taken o
  pub few : length (taken o) ≤ MOST-EVENTS
  pub fits : length (taken o) ≤ room
  pub hands : o ≡ handed_over (taken o) room
