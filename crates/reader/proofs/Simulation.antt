-- The machine on slots and a tree comes to what running a plan comes to: the held list is the slots' stack, the records are those stored.
use mathlib.Core.Path.{◌≡◌, refl, sym, ◌∙◌}
use mathlib.Core.Bool.{Bool, true, false, false≢true, cond}
use mathlib.Core.List.{List, [], ◌∷◌}
use Prim.Native.Nat.{ℕ, zero, suc, ◌+◌, ◌≤◌, ◌<◌}
use native.Mathlib.Omega.{arith}
use borrow.Author.Tests.{ltb-true}
use lib.Dec.{ltb, eqb}
use lib.ListN.{length, get_or, set}
use lib.Seq.{sets}
use Rattle.book.specs.Form.{DONE}
use Rattle.running.specs.Running.{Plan, with_slots, Move, refuse, take_event, go_left, hold_right, skip_left, go_right, move_of, emptied}
use Rattle.running.specs.Running.{StepOf, taken, refused, noted, take_off, DEEP, UNKNOWN, UNEXPECTED}
use Rattle.running.specs.Stages.{Part, part, inside, staged_visit, staged_walk, staged_event}
use Rattle.plan.specs.Form.{plan_from, Runnable}
use Rattle.plan.proofs.Runnable.{few_nodes, left_node, right_node, tag_label}
use Rattle.reader.specs.Machine.{After, SlotsHold, Go, stands, slot_of, node_in, label_in, stack, visit_of, off_of, walk_of, take_of, event_of}
use Rattle.reader.proofs.Slots.{stack-length, stack_held, held_more, held_less}

module _ (nodes slots : ℕ) where
  -- an event taken: the parts held are those in the slots, the records are stored from where the tree was written up to
  pub record SameTaken (tree : List ℕ) (written : ℕ) (held : List Part) (records : List ℕ) (s : After) : Type 0 where
    pub number : s.spot.number ≡ DONE
    pub parts : held ≡ stack s.held s.spot.count
    pub safe : SlotsHold nodes slots s.held s.spot.count
    pub length_is : s.spot.written ≡ written + length records
    pub tree_is : s.tree ≡ sets tree written records

  -- nothing written yet
  same_none : (tree : List ℕ) (written count : ℕ) (held : List ℕ) → SlotsHold nodes slots held count
      → SameTaken tree written (stack held count) [] (stands DONE false count written held tree)
  same_none tree written count held h = record { number = refl; parts = refl; safe = h; length_is = omega arith; tree_is = refl }

  -- a record written first
  same_noted : {tree : List ℕ} {written : ℕ} {held : List Part} {records : List ℕ} {s : After} (r : ℕ)
      → SameTaken (set tree written r) (suc written) held records s → SameTaken tree written held (r ∷ records) s
  same_noted r t =
      record { number = t.number; parts = t.parts; safe = t.safe; length_is = omega (arith, t.length_is); tree_is = t.tree_is }

  -- what one event comes to, in both machines
  pub data Stepped (tree : List ℕ) (written : ℕ) : StepOf Part → After → Type 0 where
    as_taken : {held : List Part} {records : List ℕ} {s : After} → SameTaken tree written held records s → Stepped tree written (taken held records) s
    as_refused : {number : ℕ} {s : After} → s.spot.number ≡ number → Stepped tree written (refused number) s

  pub stepped_noted : {tree : List ℕ} {written : ℕ} {step : StepOf Part} {s : After} (r : ℕ)
      → Stepped (set tree written r) (suc written) step s → Stepped tree written (noted r step) s
  unfolding noted
  stepped_noted r (as_taken t) = as_taken (same_noted r t)
  stepped_noted r (as_refused e) = as_refused e

-- a plan whose nodes, not too many, go only to nodes, and whose tags are labels
pub record Bounded (p : Plan) : Type 0 where
  pub few : p.count ≤ 512
  pub left_below : (n : ℕ) → p.left n < p.count
  pub right_below : (n : ℕ) → p.right n < p.count
  pub tag_small : (n : ℕ) → p.tag n < 65536

-- a runnable plan is such a plan
pub bounded : {bytes : List ℕ} {count kinds : ℕ} → Runnable bytes count kinds → Bounded (plan_from bytes count kinds)
unfolding plan_from
bounded runs =
    record { few = few_nodes runs; left_below = left_node runs; right_below = right_node runs; tag_small = tag_label runs }

-- the label inside a node is small where that around it is
pub inside_small : {p : Plan} → Bounded p → (n outer : ℕ) → outer < 65536 → inside (p.tag n) outer < 65536
inside_small {p} b n outer small = by_tag (eqb (p.tag n) 0)
  where
    by_tag : (none : Bool) → cond none outer (p.tag n) < 65536
    by_tag true = small
    by_tag false = b.tag_small n

module _ (p : Plan) (slots : ℕ) (b : Bounded p) where
  -- two ways to go on from a node that come to the same
  abbrev Same : (ℕ → ℕ → List Part → StepOf Part) → Go → Type 0
  Same go goes =
      (n outer count written : ℕ) (held tree : List ℕ) → outer < 65536 → SlotsHold p.count slots held count
      → Stepped p.count slots tree written (go n outer (stack held count)) (goes n outer count written held tree)

  module _ (go : ℕ → ℕ → List Part → StepOf Part) (goes : Go) (same : Same go goes) where
    visit-same : (m : Move) (label l r count written : ℕ) (held tree : List ℕ) → label < 65536 → r < p.count
        → SlotsHold p.count slots held count
        → Stepped p.count slots tree written (staged_visit m (λ n h. go n label h) (with_slots slots) label l r (stack held count))
        (visit_of m goes label l r count written held tree)
    unfolding staged_visit visit_of
    visit-same refuse label l r count written held tree fits good h = as_refused refl
    visit-same take_event label l r count written held tree fits good h = as_taken (same_none p.count slots tree written count held h)
    visit-same go_left label l r count written held tree fits good h = same l label count written held tree fits h
    visit-same hold_right label l r count written held tree fits good h = rw (stack-length held count, h.long) (by_slot (ltb count slots) refl)
      where
        by_slot : (free : Bool) → ltb count slots ≡ free
            → Stepped p.count slots tree written (cond free (go l label (part r label ∷ stack held count)) (refused DEEP))
            (cond free (goes l label (suc count) written (set held count (slot_of r label)) tree) (stands DEEP false count written held tree))
        by_slot true e =
            let inside : count < slots = ltb-true count slots e in
            let free : count < length held = omega (arith, h.long) in
            let small : r < 65536 = omega (arith, b.few) in
            rw (← stack_held held count r label free small)
            (same l label (suc count) written (set held count (slot_of r label)) tree fits (held_more h r label good small fits inside))
        by_slot false e = as_refused refl
    visit-same skip_left label l r count written held tree fits good h =
        stepped_noted p.count slots (emptied l) (same r label count (suc written) held (set tree written (emptied l)) fits h)
    visit-same go_right label l r count written held tree fits good h = same r label count written held tree fits h

  module _ (k : ℕ) where
    pub walk_same : (left : ℕ) → Same (staged_walk p (with_slots slots) k left) (walk_of p k left)
    unfolding staged_walk walk_of
    walk_same zero n outer count written held tree fits h = as_refused refl
    walk_same (suc left) n outer count written held tree fits h =
        stepped_noted p.count slots n
        (visit-same (staged_walk p (with_slots slots) k left) (walk_of p k left) (walk_same left)
        (move_of (p.cell n k)) (inside (p.tag n) outer) (p.left n) (p.right n) count (suc written) held (set tree written n)
        (inside_small b n outer fits) (b.right_below n) h)

    off_same : (none null : Bool) {tree : List ℕ} {written : ℕ} {walked passed : StepOf Part} {walks passes refuses : After}
        → Stepped p.count slots tree written walked walks → Stepped p.count slots tree written passed passes
        → Stepped p.count slots tree written (refused UNEXPECTED) refuses
        → Stepped p.count slots tree written (cond none (cond null passed (refused UNEXPECTED)) walked)
        (cond none (cond null passes refuses) walks)
    off_same true true walked passed refuses = passed
    off_same true false walked passed refuses = refuses
    off_same false null walked passed refuses = walked

    -- an event of a known kind
    pub take_same : (count written : ℕ) (held tree : List ℕ) → SlotsHold p.count slots held count
        → Stepped p.count slots tree written (staged_event p (with_slots slots) k (stack held count)) (take_of p k count written held tree)
    unfolding staged_event take_of take_off off_of stack
    take_same zero written held tree h = as_refused refl
    take_same (suc count) written held tree h =
        let slot = get_or held count 0 in
        let n = node_in slot in
        off_same (eqb (p.cell n k) 0) (p.null n)
        (walk_same p.count n (label_in slot) count written held tree (h.labels count (omega arith)) (held_less h))
        (stepped_noted p.count slots (emptied n) (take_same count (suc written) held (set tree written (emptied n)) (held_less h)))
        (as_refused refl)

-- the slots are intact where an event is said to leave them so: it was refused before any walk
module _ (p : Plan) (k : ℕ) where
  visit_overwrites : (m : Move) (goes : Go)
      → ((n outer count written : ℕ) (held tree : List ℕ) → (goes n outer count written held tree).spot.intact ≡ false)
      → (label l r count written : ℕ) (held tree : List ℕ) → (visit_of m goes label l r count written held tree).spot.intact ≡ false
  unfolding visit_of
  visit_overwrites refuse goes not label l r count written held tree = refl
  visit_overwrites take_event goes not label l r count written held tree = refl
  visit_overwrites go_left goes not label l r count written held tree = not l label count written held tree
  visit_overwrites hold_right goes not label l r count written held tree =
      by_slot (ltb count (length held)) _ (not l label (suc count) written (set held count (slot_of r label)) tree)
    where
      by_slot : (free : Bool) (s : After) → s.spot.intact ≡ false
          → (cond free s (stands DEEP false count written held tree)).spot.intact ≡ false
      by_slot true s is = is
      by_slot false s is = refl
  visit_overwrites skip_left goes not label l r count written held tree = not r label count (suc written) held (set tree written (emptied l))
  visit_overwrites go_right goes not label l r count written held tree = not r label count written held tree

  walk_overwrites : (left n outer count written : ℕ) (held tree : List ℕ)
      → (walk_of p k left n outer count written held tree).spot.intact ≡ false
  unfolding walk_of
  walk_overwrites zero n outer count written held tree = refl
  walk_overwrites (suc left) n outer count written held tree =
      visit_overwrites (move_of (p.cell n k)) (walk_of p k left) (walk_overwrites left) (inside (p.tag n) outer) (p.left n) (p.right n)
      count (suc written) held (set tree written n)

  take_intact : (count written : ℕ) (held tree : List ℕ) → (take_of p k count written held tree).spot.intact ≡ true
      → (take_of p k count written held tree).held ≡ held
  unfolding take_of off_of
  take_intact zero written held tree = λ is. refl
  take_intact (suc count) written held tree =
      let slot = get_or held count 0 in
      let n = node_in slot in
      by_cell (eqb (p.cell n k) 0) (p.null n) _ _ (walk_overwrites p.count n (label_in slot) count written held tree)
      (take_intact count (suc written) held (set tree written (emptied n)))
    where
      by_cell : (none null : Bool) (walked passed : After) → walked.spot.intact ≡ false
          → (passed.spot.intact ≡ true → passed.held ≡ held)
          → let s = cond none (cond null passed (stands UNEXPECTED true count written held tree)) walked in
          s.spot.intact ≡ true → s.held ≡ held
      by_cell true true walked passed not rest is = rest is
      by_cell true false walked passed not rest is = refl
      by_cell false null walked passed not rest is = absurd (false≢true (sym not ∙ is))

  pub event_intact : (count written : ℕ) (held tree : List ℕ) → (event_of p k count written held tree).spot.intact ≡ true
      → (event_of p k count written held tree).held ≡ held
  unfolding event_of
  event_intact count written held tree = by_kind (ltb k p.kinds) _ (take_intact count written held tree)
    where
      by_kind : (known : Bool) (s : After) → (s.spot.intact ≡ true → s.held ≡ held)
          → let t = cond known s (stands UNKNOWN true count written held tree) in
          t.spot.intact ≡ true → t.held ≡ held
      by_kind true s same is = same is
      by_kind false s same is = refl
