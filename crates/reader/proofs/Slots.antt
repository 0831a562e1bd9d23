-- Parts held in slots, as the list of held parts: a node in the low half of a slot, its label in the high half.
use mathlib.Core.Path.{◌≡◌, refl, ap, ap₂, ◌∙◌}
use mathlib.Core.List.{List, ◌∷◌}
use Prim.Native.Nat.{ℕ, zero, suc, ◌-◌, ◌≤◌, ◌<◌}
use native.Mathlib.Omega.{arith}
use native.Mathlib.Decide.{ℕ_discrete}
use lib.ListN.{length, get_or, set, length-set}
use lib.Seq.{get_or-set_same, get_or-set_other}
use Rattle.running.specs.Stages.{part, stage_of}
use Rattle.reader.specs.Machine.{slot_of, node_in, label_in, stack, SlotsHold}

-- what stands in a slot that is made of a node and a label
pub node_in_slot : (node label : ℕ) → node < 65536 → node_in (slot_of node label) ≡ node
node_in_slot node label small = omega arith

pub label_in_slot : (node label : ℕ) → node < 65536 → label_in (slot_of node label) ≡ label
label_in_slot node label small = omega arith

pub stack-length : (held : List ℕ) (count : ℕ) → length (stack held count) ≡ count
unfolding stack
stack-length held zero = refl
stack-length held (suc count) = ap suc (stack-length held count)

-- the label of the part held last stands in the slot below the count
pub stage_last : (held : List ℕ) (count : ℕ) → (count ≡ 0 → ⊥) → stage_of (stack held count) ≡ label_in (get_or held (count - 1) 0)
unfolding stack stage_of
stage_last held zero some = absurd (some refl)
stage_last held (suc count) some = let q : suc count - 1 ≡ count = omega arith in rw q

-- a store above the parts held leaves them
pub stack-kept : (held : List ℕ) (count at value : ℕ) → count ≤ at → stack (set held at value) count ≡ stack held count
unfolding stack
stack-kept held zero at value above = refl
stack-kept held (suc count) at value above =
    ap₂ ◌∷◌ (ap (λ (slot : ℕ). part (node_in slot) (label_in slot)) (get_or-set_other held at count value 0 (omega arith)))
    (stack-kept held count at value (omega arith))

-- a part held in the next slot stands in front
pub stack_held : (held : List ℕ) (count node label : ℕ) → count < length held → node < 65536
    → stack (set held count (slot_of node label)) (suc count) ≡ part node label ∷ stack held count
unfolding stack
stack_held held count node label free small =
    let same = get_or-set_same held count (slot_of node label) 0 free in
    ap₂ ◌∷◌
    (ap (λ (slot : ℕ). part (node_in slot) (label_in slot)) same
    ∙ (λ i. part (node_in_slot node label small i) (label_in_slot node label small i)))
    (stack-kept held count count (slot_of node label) (omega arith))

module _ {nodes slots : ℕ} {held : List ℕ} {count : ℕ} (h : SlotsHold nodes slots held count) where
  -- one part more
  pub held_more : (node label : ℕ) → node < nodes → node < 65536 → label < 65536 → count < slots
      → SlotsHold nodes slots (set held count (slot_of node label)) (suc count)
  held_more node label good small fits free =
      record {
        long = length-set held count (slot_of node label) ∙ h.long;
        few = free;
        below = λ i under. node_at i under (ℕ_discrete i count);
        labels = λ i under. label_at i under (ℕ_discrete i count);
      }
    where
      inside : count < length held
      inside = omega (arith, h.long)

      node_at : (i : ℕ) → i < suc count → Dec (i ≡ count) → node_in (get_or (set held count (slot_of node label)) i 0) < nodes
      node_at i under (yes e) =
          rw (e, get_or-set_same held count (slot_of node label) 0 inside, node_in_slot node label small) good
      node_at i under (no ne) = rw (get_or-set_other held count i (slot_of node label) 0 ne) (h.below i (omega (arith, ne)))

      label_at : (i : ℕ) → i < suc count → Dec (i ≡ count) → label_in (get_or (set held count (slot_of node label)) i 0) < 65536
      label_at i under (yes e) =
          rw (e, get_or-set_same held count (slot_of node label) 0 inside, label_in_slot node label small) fits
      label_at i under (no ne) = rw (get_or-set_other held count i (slot_of node label) 0 ne) (h.labels i (omega (arith, ne)))

-- one part less
pub held_less : {nodes slots : ℕ} {held : List ℕ} {count : ℕ} → SlotsHold nodes slots held (suc count) → SlotsHold nodes slots held count
held_less h =
    record {
      long = h.long;
      few = omega (arith, h.few);
      below = λ i under. h.below i (omega arith);
      labels = λ i under. h.labels i (omega arith);
    }
