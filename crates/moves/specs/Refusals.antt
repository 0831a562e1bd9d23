-- What a move comes to: the size of the bytes that it has written, or what stands against it.
use Rattle.std.specs.Prelude.{ℕ, ◌≡◌, Result, MatchResult, List}
use Rattle.names.specs.Names.{NAMES}
use Rattle.written.specs.Written.{OUT-ROOM, Out, written, out, refused_with}
use Rattle.book.specs.Errors.{judged_by}
use Rattle.moves.specs.Moves.{KEPT}
use Rattle.moves.specs.declared.MoveError.{MoveError}
use Rattle.moves.specs.declared.MoveError.TheVariants.{Form, House, Kept, OutRoom}

-- the refusal, by number and place
abbrev pub refused_by : MoveError → ℕ → Out
refused_by (Form error) room = refused_with (judged_by error).number (judged_by error).place room
refused_by (House n) room = refused_with NAMES n room
refused_by Kept room = refused_with KEPT 0 room
refused_by OutRoom room = refused_with OUT-ROOM 0 room

-- a result with what its buffer, of so much room, then holds is an answer with the bytes of the buffer
abbrev pub Moved : Out → Result ℕ MoveError → ℕ → List ℕ → Type 0
Moved is moved room bytes = MatchResult moved (λ size. is ≡ out (written 0 size 0) bytes) (λ error. is ≡ refused_by error room)
