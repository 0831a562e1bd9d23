-- What writing the run of a tree comes to: the book's own refusals, 23 to 25, or done with the run.
use Rattle.std.specs.Prelude.{ℕ, ◌≡◌, cond, ◌≢◌, List, ltb, length, Result, MatchResult}
use Rattle.std.proofs.lemmas.List.Edits.{sets}
use Rattle.written.specs.Written.{Out, refused_with, handed_over}
use Rattle.book.specs.Book.{Book}
use Rattle.book.specs.Form.{DONE, book_of}
use Rattle.verdict.specs.declared.Verdict.{Verdict}
use Rattle.verdict.specs.Judges.{judgement, Judges}
use Rattle.meaning.specs.Meaning.{Accepts}
use Rattle.trees.specs.Trees.{events, Wrong}

-- the answers' numbers, after those of judging
abbrev pub TREE : ℕ
TREE = 23

abbrev pub RUN-LONG : ℕ
RUN-LONG = 24

abbrev pub RUN-ROOM : ℕ
RUN-ROOM = 25

-- the most events of a run
abbrev pub MOST-EVENTS : ℕ
MOST-EVENTS = 65535

-- a tree's run handed over: 24 if it has too many events, 25 if there is no room for them, else the run
unfoldable pub run_handed : List ℕ → ℕ → Out
run_handed run room =
    cond (ltb MOST-EVENTS (length run)) (refused_with RUN-LONG 0 room)
    (cond (ltb room (length run)) (refused_with RUN-ROOM 0 room) (handed_over run room))

-- what writing the run of records, as a tree of bytes as a book, answers, and what it leaves of a buffer of so much
-- room: the book's own refusal; 23 where the records go wrong; or, where they are the tree of a run that the start
-- derives, what handing that run over comes to
pub data Unreads (bytes records : List ℕ) (room : ℕ) : Out → Type 0 where
  refused : {v : Verdict}
      → Judges bytes v
      → v.number ≢ DONE
      → Unreads bytes records room (refused_with v.number v.place room)
  no_tree : {i : ℕ}
      → Judges bytes (judgement DONE 0 0 0)
      → Wrong (book_of bytes) records i
      → Unreads bytes records room (refused_with TREE i room)
  a_tree : {run : List ℕ}
      → Judges bytes (judgement DONE 0 0 0)
      → Accepts (book_of bytes) run records
      → Unreads bytes records room (run_handed run room)

-- records are a tree, which has so many events, and these stand in a run as far as it has room for them
pub record Read (b : Book) (records before : List ℕ) (many : ℕ) (after : List ℕ) : Type 0 where
  pub accepts : Accepts b (events b.node records) records
  pub counted : many ≡ length (events b.node records)
  pub stand : after ≡ sets before 0 (events b.node records)

-- what reading a tree comes to, with a run before and after it: it is one, with its events, or the place where it is wrong
pub record Comes (b : Book) (records before : List ℕ) (result : Result ℕ ℕ) (after : List ℕ) : Type 0 where
  pub told : MatchResult result (λ many. Read b records before many after) (λ place. Wrong b records place)
  pub kept : length after ≡ length before
