-- The end of a reading: an accepted run's records and zeros after them, or a tree that is cleared.
use Rattle.std.specs.Prelude.{ℕ, ◌-◌, cond, List, ◌++◌, leb, eqb, length, take}
use Rattle.words.specs.Words.{zeros}
use Rattle.book.specs.Form.{DONE}
use Rattle.reader.specs.declared.Reading.{Reading}
use Rattle.reader.specs.Numbers.{NO-ROOM, answered}
use Rattle.reader.specs.Reads.{Outcome, outcome, bare}

-- the answer settled, by the records of a run that was accepted: the tree's rest cleared, or all of it
unfoldable pub settled_of : Reading → List ℕ → Outcome
settled_of answer tree =
    cond (eqb answer.number DONE)
    (cond (leb answer.records (length tree))
    (outcome answer (take answer.records tree ++ zeros (length tree - answer.records)))
    (bare (length tree) (answered NO-ROOM 0 answer.records 0)))
    (bare (length tree) answer)
