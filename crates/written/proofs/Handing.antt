-- Bytes that are handed over, or for which there is no room; what a refusal leaves.
use mathlib.Core.Path.{◌≡◌, refl, sym, ap, subst, ◌∙◌}
use mathlib.Core.Bool.{Bool, true, false}
use mathlib.Core.List.{List}
use mathlib.Core.Logic.{◌⊎◌, inl, inr}
use Prim.Native.Nat.{ℕ, ◌-◌, ◌≤◌, ◌<◌}
use native.Mathlib.Omega.{arith}
use borrow.Author.Tests.{leb-true, leb-false, le-leb, lt-leb}
use lib.Dec.{leb}
use lib.ListN.{length, length-append, length-replicate}
use lib.Seq.{take_at, drop_at}
use Rattle.words.specs.Words.{zeros}
use Rattle.written.specs.Written.{OUT-ROOM, Out, out, refused_with, handed_over, handed, taken, Hands, Settled}
use Rattle.written.specs.declared.Written.{Written}

-- a cleared buffer is as long as it was, and is zeros
pub clear_long : {buffer : List ℕ} (room : ℕ) → buffer ≡ zeros room → length buffer ≡ room
clear_long room is = ap length is ∙ length-replicate room 0

pub clear_is : {buffer : List ℕ} (room : ℕ) → buffer ≡ zeros room → buffer ≡ zeros (length buffer)
clear_is room is = is ∙ ap zeros (sym (clear_long room is))

-- bytes by the room that there is
module _ (bytes : List ℕ) (room : ℕ) where
  pub no_room : room < length bytes → handed bytes room ≡ refused_with OUT-ROOM 0 room
  unfolding handed
  no_room short = rw (lt-leb (length bytes) room short)

  pub room_enough_lem : length bytes ≤ room → handed bytes room ≡ handed_over bytes room
  unfolding handed
  room_enough_lem fits = rw (le-leb (length bytes) room fits)

  -- done is said only where there was room
  pub done_room : (handed bytes room).answer.number ≡ 0 → length bytes ≤ room
  unfolding handed
  done_room done = go (leb (length bytes) room) refl
    where
      go : (t : Bool) → leb (length bytes) room ≡ t → length bytes ≤ room
      go true is = leb-true _ _ is
      go false is =
          let answer : OUT-ROOM ≡ 0 = sym (ap (λ (o : Out). o.answer.number) (no_room (leb-false _ _ is))) ∙ done in
          absurd (omega arith)

  -- what is handed over is taken as it is
  pub taken_over : taken (handed_over bytes room) ≡ bytes
  taken_over = take_at bytes (zeros (room - length bytes)) (length bytes) refl

-- a call's answer and buffer, by what the call comes to
pub hands_as : {out other : Out} {answer : Written} {bytes : List ℕ} → other ≡ out → Hands out answer bytes → Hands other answer bytes
hands_as {out} {other} is h =
    record {
      answer_is = h.answer_is ∙ sym (ap (λ (o : Out). o.answer) is);
      bytes_are = h.bytes_are ∙ sym (ap (λ (o : Out). o.bytes) is);
    }

-- and what it comes to is that answer with that buffer
pub handed_is : {o : Out} {answer : Written} {bytes : List ℕ} → Hands o answer bytes → o ≡ out answer bytes
handed_is h = λ i. record { answer = sym h.answer_is i; bytes = sym h.bytes_are i }

-- a refusal, and bytes that are handed over, leave the buffer as it should be
pub refused_settles : (number place room : ℕ) → Settled room (refused_with number place room)
refused_settles number place room =
    let none : room - 0 ≡ room = omega arith in
    record { whole = length-replicate room 0; rest_zero = rw none; refused_zero = λ refused. (refl, refl) }

pub handed_settles : (bytes : List ℕ) (room : ℕ) → Settled room (handed bytes room)
handed_settles bytes room = go (leb (length bytes) room) refl
  where
    over : length bytes ≤ room → Settled room (handed_over bytes room)
    over fits =
        record {
          whole = length-append bytes (zeros (room - length bytes)) ∙ omega (arith, fits, length-replicate {A = ℕ} (room - length bytes) 0);
          rest_zero = drop_at bytes (zeros (room - length bytes)) (length bytes) refl;
          refused_zero = λ refused. absurd (refused refl);
        }

    go : (t : Bool) → leb (length bytes) room ≡ t → Settled room (handed bytes room)
    go true is = let fits = leb-true _ _ is in subst (Settled room) (sym (room_enough_lem bytes room fits)) (over fits)
    go false is = subst (Settled room) (sym (no_room bytes room (leb-false _ _ is))) (refused_settles OUT-ROOM 0 room)

-- handing over answers done or 21
pub handed_listed : (bytes : List ℕ) (room : ℕ) → ((handed bytes room).answer.number ≡ 0) ⊎ ((handed bytes room).answer.number ≡ OUT-ROOM)
handed_listed bytes room = go (leb (length bytes) room) refl
  where
    go : (t : Bool) → leb (length bytes) room ≡ t
        → ((handed bytes room).answer.number ≡ 0) ⊎ ((handed bytes room).answer.number ≡ OUT-ROOM)
    go true is = inl (ap (λ (o : Out). o.answer.number) (room_enough_lem bytes room (leb-true _ _ is)))
    go false is = inr (ap (λ (o : Out). o.answer.number) (no_room bytes room (leb-false _ _ is)))
