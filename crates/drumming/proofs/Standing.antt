-- How a drum stands: its parts, its counts, zeros in its unused slots; it is neither idle nor stale.
use mathlib.Core.Path.{◌≡◌, refl, sym, ◌∙◌}
use mathlib.Core.Bool.{true, false, ◌&&◌, ◌||◌}
use mathlib.Core.List.{List}
use Prim.Native.Nat.{ℕ, zero, suc, ◌+◌, ◌-◌, ◌≤◌, ◌<◌}
use native.Mathlib.Omega.{arith}
use borrow.Author.Tests.{eqb-true, eq-eqb, lt-ltb, le-ltb}
use lib.Dec.{ltb, eqb}
use lib.ListN.{length, get_or, take}
use lib.Seq.{length-take-le}
use Rattle.words.specs.Words.{zeros}
use Rattle.words.proofs.FirstBad.{every_good}
use Rattle.words.proofs.Lists.{get_d_second}
use Rattle.words.proofs.Tests.{both, fails}
use Rattle.book.specs.Form.{DONE, judged}
use Rattle.drums.specs.declared.Drum.{Drum}
use Rattle.drums.specs.Drums.{IDLE, drum_slots, most_events, most_records, idle_drum, idle, nodes_held, drum_judged}
use Rattle.drums.specs.Sound.{Sound}
use Rattle.drums.proofs.Parts.{cleared}
use Rattle.drums.proofs.Tests.{drum_idle, drum_done}

-- zeros, also past their end
pub zeros_zero : (m n : ℕ) → get_or (zeros m) n 0 ≡ 0
zeros_zero zero zero = refl
zeros_zero zero (suc n) = refl
zeros_zero (suc m) zero = refl
zeros_zero (suc m) (suc n) = zeros_zero m n

-- the slots past those held are zero
pub cleared_zero : (slots : List ℕ) (held : ℕ) → held ≤ length slots → (i : ℕ) → held ≤ i → get_or (cleared slots held) i 0 ≡ 0
cleared_zero slots held within i past =
    get_d_second (take held slots) (zeros (drum_slots - held)) i (i - held) (omega (arith, length-take-le held slots within))
    ∙ zeros_zero (drum_slots - held) (i - held)

-- an idle drum
idle-idle : idle idle_drum ≡ true
unfolding idle
idle-idle = every_good (λ i. eqb (get_or (zeros drum_slots) i 0) 0) drum_slots (λ i below. eq-eqb _ 0 (zeros_zero drum_slots i))

pub idle-judged : (nodes : ℕ) → judged IDLE 0 ≡ drum_judged nodes idle_drum
idle-judged nodes = drum_idle idle_drum nodes {test = idle idle_drum} refl idle-idle

-- a drum that holds a part or has events is not idle
pub busy : (d : Drum) → 0 < d.held + d.events → idle d ≡ false
unfolding idle
busy d some =
    fails (idle d)
    (λ e.
    let counts = (both (eqb d.held 0 && eqb d.events 0 && eqb d.records 0 && eqb d.due 0) _ e).0 in
    let three = (both (eqb d.held 0 && eqb d.events 0 && eqb d.records 0) _ counts).0 in
    let two = (both (eqb d.held 0 && eqb d.events 0) _ three).0 in
    let (held, events) = both (eqb d.held 0) _ two in
    let none : d.held ≡ 0 = eqb-true _ _ held in
    let no-event : d.events ≡ 0 = eqb-true _ _ events in
    omega (arith, some, none, no-event))

-- nor stale where its counts are within their bounds and its parts are nodes
pub sound_judged : (nodes : ℕ) (d : Drum) → Sound nodes d → 0 < d.held + d.events → drum_judged nodes d ≡ judged DONE 0
unfolding nodes_held
sound_judged nodes d s some =
    sym (drum_done d nodes {test = idle d} refl (busy d some) near {held = nodes_held nodes d.slots d.held} refl all)
  where
    near : (ltb drum_slots d.held || ltb most_events d.events || ltb most_records d.records) ≡ false
    near =
        rw (
          le-ltb drum_slots d.held s.parts.few,
          le-ltb most_events d.events s.few_events,
          le-ltb most_records d.records s.few_records,
        )

    all : nodes_held nodes d.slots d.held ≡ true
    all = every_good _ d.held (λ i below. lt-ltb _ nodes (s.parts.below i below))
