-- The parts that a drum holds and its slots: parts held in front, zeros after them.
use mathlib.Core.Path.{◌≡◌, refl, sym, ap, ap₂, ◌∙◌}
use mathlib.Core.List.{List, [], ◌∷◌, ◌++◌}
use Prim.Native.Nat.{ℕ, zero, suc, ◌-◌, ◌≤◌, ◌<◌}
use native.Mathlib.Omega.{arith}
use borrow.Rule.Slice.PartMut.{mid_of, put_mid}
use lib.ListN.{length, get_or, set, take, length-append, length-replicate, get_or-append}
use lib.Seq.{length-take-le, get_or-take, take-suc}
use Rattle.words.specs.Words.{zeros}
use Rattle.book.specs.Form.{DONE}
use Rattle.running.specs.Running.{Plan}
use Rattle.running.specs.Stages.{part}
use Rattle.plan.specs.Form.{plan_count}
use Rattle.reader.specs.declared.Reading.{Reading}
use Rattle.reader.specs.Numbers.{answered}
use Rattle.reader.specs.Machine.{slot_of, node_in, label_in, stack, SlotsHold}
use Rattle.reader.specs.Ready.{Ready}
use Rattle.reader.proofs.Settles.{rest_cleared}
use Rattle.reader.proofs.Slots.{stack-length}
use Rattle.reader.proofs.Stops.{started}
use Rattle.drums.specs.declared.Drum.{Drum}
use Rattle.drums.specs.Drums.{drum_slots, slots_of, due_of, standing, stepped, goes_on, opened}
use Rattle.drums.specs.Sound.{Sound}

-- a slot is its node and its label
slot_is : (slot : ℕ) → slot_of (node_in slot) (label_in slot) ≡ slot
slot_is slot = omega arith

-- the slots of the parts held in the first so many slots are these slots
slots_front : (slots : List ℕ) (held : ℕ) → held ≤ length slots → slots_of (stack slots held) ≡ take held slots
unfolding slots_of stack
slots_front slots zero within = refl
slots_front slots (suc held) within =
    ap₂ (λ (l : List ℕ) (n : ℕ). l ++ (n ∷ [])) (slots_front slots held (omega arith)) (slot_is (get_or slots held 0))
    ∙ sym (take-suc slots held 0 (omega arith))

-- slots alike in front hold the same parts
stack_alike : (slots other : List ℕ) (held : ℕ) → ((i : ℕ) → i < held → get_or slots i 0 ≡ get_or other i 0)
    → stack slots held ≡ stack other held
unfolding stack
stack_alike slots other zero alike = refl
stack_alike slots other (suc held) alike =
    ap₂ ◌∷◌ (ap (λ (slot : ℕ). part (node_in slot) (label_in slot)) (alike held (omega arith)))
    (stack_alike slots other held (λ i below. alike i (omega arith)))

-- slots with those past the parts held set to zero
abbrev pub cleared : List ℕ → ℕ → List ℕ
cleared slots held = take held slots ++ zeros (drum_slots - held)

module _ {nodes held : ℕ} {slots : List ℕ} (h : SlotsHold nodes drum_slots slots held) where
  within : held ≤ length slots
  within = omega (arith, h.few, h.long)

  in_front : (i : ℕ) → i < held → get_or (cleared slots held) i 0 ≡ get_or slots i 0
  in_front i below =
      get_or-append (take held slots) (zeros (drum_slots - held)) 0 i (omega (arith, length-take-le held slots within))
      ∙ get_or-take held slots i 0 below

  -- they hold the same parts
  pub cleared_parts : stack (cleared slots held) held ≡ stack slots held
  cleared_parts = stack_alike (cleared slots held) slots held in_front

  pub cleared_hold : SlotsHold nodes drum_slots (cleared slots held) held
  cleared_hold =
      record {
        long =
            length-append (take held slots) (zeros (drum_slots - held))
            ∙ omega (arith, length-take-le held slots within, length-replicate {A = ℕ} (drum_slots - held) 0, h.few);
        few = h.few;
        below = λ i under. rw (in_front i under) (h.below i under);
        labels = λ i under. rw (in_front i under) (h.labels i under);
      }

  -- where the rest is filled with zeros, so are they
  pub filled_is : {rest : List ℕ} → rest ≡ zeros (length (mid_of held (drum_slots - held) slots))
      → put_mid held (drum_slots - held) slots rest ≡ cleared slots held
  filled_is {rest} is = rw h.long at (rest_cleared slots rest held within (rw h.long is))

  pub after_hold : {after : List ℕ} → after ≡ cleared slots held → SlotsHold nodes (length after) after held
  after_hold is = rw (is, cleared_hold.long) cleared_hold

  -- a drum stands with them
  pub standing_is : (p : Plan) (events records : ℕ)
      → standing p events records (stack slots held)
      ≡ record { slots = cleared slots held; held = held; events = events; records = records; due = due_of p (stack slots held) }
  unfolding standing
  standing_is p events records =
      λ i.
      record {
        slots = slots_front slots held within i ++ zeros (drum_slots - stack-length slots held i);
        held = stack-length slots held i;
        events = events;
        records = records;
        due = due_of p (stack slots held);
      }

  -- and goes on
  pub goes_on_is : (p : Plan) (events records due : ℕ) {after : List ℕ} {reading : Reading} → after ≡ cleared slots held
      → due ≡ due_of p (stack after held) → reading ≡ answered DONE events records 0
      → stepped reading (record { slots = after; held = held; events = events; records = records; due = due })
      ≡ goes_on p events records (stack slots held)
  goes_on_is p events records due {after} zero-after sums answers =
      (λ i. stepped (answers i)
      (record { slots = zero-after i; held = held; events = events; records = records; due = sums_so i }))
      ∙ sym (ap (stepped (answered DONE events records 0)) (standing_is p events records))
    where
      sums_so : due ≡ due_of p (stack slots held)
      sums_so = sums ∙ ap (due_of p) (ap (λ (l : List ℕ). stack l held) zero-after ∙ cleared_parts)

-- the start alone in the slots
module _ (first : ℕ) where
  bare_slot : slot_of first 0 ≡ first
  bare_slot = omega arith

  pub start_held : {nodes : ℕ} → nodes ≤ 512 → first < nodes → SlotsHold nodes drum_slots (set (zeros drum_slots) 0 first) 1
  start_held few below = rw bare_slot at (started (zeros drum_slots) few below (omega arith))

  pub opened_is : (p : Plan) → first ≡ p.start → first < 65536 → goes_on p 0 0 (stack (set (zeros drum_slots) 0 first) 1) ≡ opened p
  unfolding opened stack
  opened_is p is small = λ i. goes_on p 0 0 (part (node i) (label i) ∷ [])
    where
      node : node_in first ≡ p.start
      node = omega (arith, is)

      label : label_in first ≡ 0
      label = omega arith

-- a drum that is not stale is ready for a step
module _ {nodes : ℕ} {d : Drum} (s : Sound nodes d) where
  pub whole_parts : SlotsHold nodes (length d.slots) d.slots d.held
  whole_parts = rw s.parts.long s.parts

  pub small_place : d.events < 65536
  small_place = omega (arith, s.few_events)

  pub sound_ready : {plan : List ℕ} → nodes ≡ plan_count plan → Ready plan d.held d.records d.slots
  sound_ready is = record { parts = rw is at whole_parts; few_records = omega (arith, s.parts.few, s.few_records) }
