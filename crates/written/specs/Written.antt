-- What a call that writes bytes answers, and what its buffer then holds.
use Rattle.std.specs.Prelude.{ℕ, ◌-◌, ◌≡◌, cond, List, ◌++◌, ◌≢◌, leb, length, take, drop}
use Rattle.words.specs.Words.{zeros}
use Rattle.written.specs.declared.Written.{Written}

-- number 21
abbrev pub OUT-ROOM : ℕ
OUT-ROOM = 21

-- an answer: number, size, place
abbrev pub written : ℕ → ℕ → ℕ → Written
written number size place = record { number = number; size = size; place = place }

-- an answer with the bytes of the buffer
pub record Out : Type 0 where
  pub answer : Written
  pub bytes : List ℕ

abbrev pub out : Written → List ℕ → Out
out answer bytes = record { answer = answer; bytes = bytes }

-- a refusal: size 0, and a buffer of zeros
abbrev pub refused_with : ℕ → ℕ → ℕ → Out
refused_with number place room = record { answer = written number 0 place; bytes = zeros room }

-- bytes, and zeros behind them
abbrev pub with_zeros : List ℕ → ℕ → List ℕ
with_zeros bytes room = bytes ++ zeros (room - length bytes)

-- done: bytes with their size
abbrev pub handed_over : List ℕ → ℕ → Out
handed_over bytes room = record { answer = written 0 (length bytes) 0; bytes = with_zeros bytes room }

-- bytes handed over where there is room for them, else 21
unfoldable pub handed : List ℕ → ℕ → Out
handed bytes room = cond (leb (length bytes) room) (handed_over bytes room) (refused_with OUT-ROOM 0 room)

-- the bytes that a call has written: so many of its buffer as its answer says
abbrev pub taken : Out → List ℕ
taken out = take out.answer.size out.bytes

-- a call's answer and buffer are these
pub record Hands (out : Out) (answer : Written) (bytes : List ℕ) : Type 0 where
  pub answer_is : answer ≡ out.answer
  pub bytes_are : bytes ≡ out.bytes

-- a buffer of so much room as it should be left: whole, zeros behind what is written, all zeros at a refusal
pub record Settled (room : ℕ) (out : Out) : Type 0 where
  pub whole : length out.bytes ≡ room
  pub rest_zero : drop out.answer.size out.bytes ≡ zeros (room - out.answer.size)
  pub refused_zero : out.answer.number ≢ 0 → (out.answer.size ≡ 0) × (out.bytes ≡ zeros room)
