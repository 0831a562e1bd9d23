-- What is so of an answer to asking for a sample: which numbers there are, and of the run that is given.
use Rattle.std.specs.Prelude.{ℕ, ◌≤◌, ◌<◌, ◌≡◌, ◌≢◌, ◌⊎◌, List, length, take, get_or}
use Rattle.book.specs.Book.{Book}
use Rattle.grammar.specs.Derivations.{Lawful}
use Rattle.written.specs.Written.{Out, Settled}
use Rattle.sample.specs.Samples.{RUN-LONG, RUN-ROOM}

-- the answer is 0, one of the book's own refusals, 24 or 25, and the buffer is left as it should be
pub record SampleAnswers (room : ℕ) (o : Out) : Type 0 where
  pub listed : (o.answer.number ≤ 6) ⊎ ((o.answer.number ≡ 19) ⊎ ((o.answer.number ≡ 22)
      ⊎ ((o.answer.number ≡ RUN-LONG) ⊎ (o.answer.number ≡ RUN-ROOM))))
  pub settled : Settled room o

-- the run that is given is lawful, no lawful run is shorter, and of the lawful runs as short it has the lower kind at
-- the first place where two differ
pub record SampleGiven (b : Book) (run : List ℕ) : Type 0 where
  pub lawful : Lawful b run
  pub shortest : (other : List ℕ) → Lawful b other → length run ≤ length other
  pub lowest : (other : List ℕ) → Lawful b other → length other ≡ length run
      → (i : ℕ) → take i run ≡ take i other → get_or run i 0 ≢ get_or other i 0 → get_or run i 0 < get_or other i 0
