-- An event taken leaves parts that are nodes; an event and the end write few records.
use mathlib.Core.Path.{◌≡◌, ap}
use mathlib.Core.Bool.{Bool, true, false, cond}
use mathlib.Core.List.{List}
use Prim.Native.Nat.{ℕ, zero, suc, ◌+◌, ◌*◌, ◌-◌, ◌≤◌, ◌<◌}
use native.Mathlib.Omega.{arith}
use lib.Dec.{ltb}
use lib.ListN.{length, get_or, set}
use Rattle.book.specs.Form.{DONE}
use Rattle.running.specs.Running.{Plan, with_slots, emptied, StepOf, taken, event, UNKNOWN, END}
use Rattle.running.specs.Stages.{Part, nodes_of, bare_step}
use Rattle.running.proofs.Stages.{event_bare, nodes_length}
use Rattle.running.proofs.Records.{Within, taken-within, refused-within, within_more, event_within}
use Rattle.reader.specs.Machine.{After, SlotsHold, stands, node_in, stack, take_of, event_of, finish_of}
use Rattle.reader.proofs.Slots.{stack-length}
use Rattle.reader.proofs.Refusals.{Numbered, numbered_taken, numbered_refused, event_numbered}
use Rattle.reader.proofs.Simulation.{Stepped, as_taken, as_refused, Bounded, take_same}

-- the parts held are nodes, and records and parts are fewer than a number
pub record Safe (nodes slots most : ℕ) (s : After) : Type 0 where
  pub parts : SlotsHold nodes slots s.held s.spot.count
  pub records : s.spot.written + s.spot.count < most

-- a taken event within a bound
within-taken : {most : ℕ} {held records : List ℕ} → Within most (taken held records) → length records + length held < most
within-taken (taken-within held records few) = few

-- an event taken
module _ (p : Plan) (slots : ℕ) (b : Bounded p) (k count written : ℕ) (held tree : List ℕ) (h : SlotsHold p.count slots held count) where
  stack-within : (c : ℕ) → Within (c + 2 * p.count - 1) (event p (with_slots slots) k (nodes_of (stack held c)))
  unfolding stack event
  stack-within zero = refused-within
  stack-within (suc c) =
      within_more _ (omega (arith, stack-length held c, nodes_length (stack held c)))
      (event_within p (with_slots slots) k (node_in (get_or held c 0)) (nodes_of (stack held c)))

  counted : {step : StepOf Part} {s : After} {most : ℕ} → Numbered step → Stepped p.count slots tree written step s → Within most (bare_step step)
      → s.spot.number ≡ DONE → Safe p.count slots (written + most) s
  unfolding bare_step
  counted {s = s} numbered_taken (as_taken {held = then} {records = records} t) few is =
      let fewer = within-taken few in
      record {
        parts = t.safe;
        records = omega (arith, fewer, nodes_length then, t.length_is, ap length t.parts, stack-length s.held s.spot.count);
      }
  counted (numbered_refused number low high) (as_refused e) few is = absurd (omega arith)

  pub event_safe : (event_of p k count written held tree).spot.number ≡ DONE
      → Safe p.count slots (written + (count + 2 * p.count - 1)) (event_of p k count written held tree)
  unfolding event_of
  event_safe =
      by_kind (ltb k p.kinds) (take_of p k count written held tree)
      (counted (event_numbered p (with_slots slots) k (stack held count)) (take_same p slots b k count written held tree h)
      (rw (event_bare p (with_slots slots) k (stack held count)) (stack-within count)))
    where
      unknown : After
      unknown = stands UNKNOWN true count written held tree

      by_kind : (known : Bool) (s : After) {most : ℕ} → (s.spot.number ≡ DONE → Safe p.count slots most s)
          → (cond known s unknown).spot.number ≡ DONE → Safe p.count slots most (cond known s unknown)
      by_kind true s safe is = safe is
      by_kind false s safe is = absurd (omega arith)

-- the end writes a record for each part held, at most
pub finish_few : (p : Plan) (count written : ℕ) (held tree : List ℕ) → (finish_of p count written held tree).spot.written ≤ written + count
unfolding finish_of
finish_few p zero written held tree = omega arith
finish_few p (suc count) written held tree = by_null (p.null n) _ (finish_few p count (suc written) held (set tree written (emptied n)))
  where
    n : ℕ
    n = node_in (get_or held count 0)

    by_null : (null : Bool) (s : After) → s.spot.written ≤ suc written + count
        → (cond null s (stands END true count written held tree)).spot.written ≤ written + suc count
    by_null true s few = omega arith
    by_null false s few = omega arith
