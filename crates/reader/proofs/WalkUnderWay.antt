-- A walk under way: what is left of it comes to the whole walk's end, and how each cell goes on or ends it.
use mathlib.Core.Path.{◌≡◌, ap, ◌∙◌}
use mathlib.Core.Bool.{false}
use mathlib.Core.List.{List}
use Prim.Native.Nat.{ℕ, suc, ◌+◌, ◌*◌, ◌≤◌, ◌<◌}
use native.Mathlib.Numerals.{add-one}
use native.Mathlib.Omega.{arith}
use borrow.Author.Tests.{lt-ltb, le-ltb}
use lib.ListN.{length, set, length-set}
use Rattle.book.specs.Form.{DONE}
use Rattle.running.specs.Running.{Plan, move_of, refuse, take_event, go_left, hold_right, skip_left, go_right, emptied, DEEP, UNEXPECTED, RUNAWAY}
use Rattle.running.specs.Stages.{inside}
use Rattle.reader.specs.Machine.{After, stands, slot_of, visit_of, walk_of}
use Rattle.reader.proofs.Simulation.{Bounded, inside_small}

module _ (p : Plan) (k : ℕ) (goal : After) (slots room bound : ℕ) where
  -- a walk with so many visits left, at a node: what is left comes to the goal, and the state is sound
  pub record Walking (left n outer count written : ℕ) (held tree : List ℕ) : Type 0 where
    pub rest : walk_of p k left n outer count written held tree ≡ goal
    pub label_small : outer < 65536
    pub node_below : n < p.count
    pub few : count ≤ slots
    pub held_long : length held ≡ slots
    pub tree_long : length tree ≡ room
    pub small : written + count + 2 * left ≤ bound

  -- a node visited, its record written, with so many visits left after it: its cell comes to the goal, and the state is sound
  pub record Visiting (left n outer count written : ℕ) (held tree : List ℕ) : Type 0 where
    pub rest : visit_of (move_of (p.cell n k)) (walk_of p k left) (inside (p.tag n) outer) (p.left n) (p.right n) count written held tree
        ≡ goal
    pub label_small : outer < 65536
    pub few : count ≤ slots
    pub held_long : length held ≡ slots
    pub tree_long : length tree ≡ room
    pub small : written + count + 2 * left < bound

module _ {p : Plan} {k : ℕ} {goal : After} {slots room bound : ℕ} where
  module _ {left n outer count written : ℕ} {held tree : List ℕ} (w : Walking p k goal slots room bound left n outer count written held tree) where
    -- no visit left
    pub walk_ends : left ≤ 0 → stands RUNAWAY false count written held tree ≡ goal
    unfolding walk_of
    walk_ends none = let z : left ≡ 0 = omega arith in rw z at w.rest

    -- the visit of the node
    pub visits : {left' : ℕ} → left ≡ suc left' → {tree' : List ℕ} → tree' ≡ set tree written n
        → Visiting p k goal slots room bound left' n outer count (written + 1) held tree'
    unfolding walk_of
    visits one noted =
        record {
          rest = rw (noted, add-one written) (rw one at w.rest);
          label_small = w.label_small;
          few = w.few;
          held_long = w.held_long;
          tree_long = ap length noted ∙ simp length-set w.tree_long;
          small = omega (arith, w.small);
        }

  module _ {left n outer count written : ℕ} {held tree : List ℕ}
      (v : Visiting p k goal slots room bound left n outer count written held tree) where
    pub visit_takes : move_of (p.cell n k) ≡ take_event → stands DONE false count written held tree ≡ goal
    unfolding visit_of
    visit_takes is = rw is at v.rest

    pub visit_refuses : move_of (p.cell n k) ≡ refuse → stands UNEXPECTED false count written held tree ≡ goal
    unfolding visit_of
    visit_refuses is = rw is at v.rest

    pub visit_deep : move_of (p.cell n k) ≡ hold_right → length held ≤ count → stands DEEP false count written held tree ≡ goal
    unfolding visit_of
    visit_deep is full = rw (is, le-ltb count (length held) full) at v.rest

    -- the walk goes on at a node
    goes_on : (m label : ℕ) → m < p.count → label < 65536 → walk_of p k left m label count written held tree ≡ goal
        → Walking p k goal slots room bound left m label count written held tree
    goes_on m label below fits rest =
        record {
          rest = rest;
          label_small = fits;
          node_below = below;
          few = v.few;
          held_long = v.held_long;
          tree_long = v.tree_long;
          small = omega (arith, v.small);
        }

    -- the label inside the node
    module _ (b : Bounded p) {label : ℕ} (Label-is : label ≡ inside (p.tag n) outer) where
      fits : label < 65536
      fits = rw Label-is (inside_small b n outer v.label_small)

      pub goes_left : {m : ℕ} → move_of (p.cell n k) ≡ go_left → m ≡ p.left n → Walking p k goal slots room bound left m label count written held tree
      unfolding visit_of
      goes_left is goes = goes_on _ _ (rw goes (b.left_below n)) fits (rw (goes, Label-is) (rw is at v.rest))

      pub goes_right : {m : ℕ} → move_of (p.cell n k) ≡ go_right → m ≡ p.right n → Walking p k goal slots room bound left m label count written held tree
      unfolding visit_of
      goes_right is goes = goes_on _ _ (rw goes (b.right_below n)) fits (rw (goes, Label-is) (rw is at v.rest))

      pub holds_right : {m slot : ℕ} → move_of (p.cell n k) ≡ hold_right → count < length held → m ≡ p.left n → slot ≡ slot_of (p.right n) label
          → Walking p k goal slots room bound left m label (count + 1) written (set held count slot) tree
      unfolding visit_of
      holds_right is free goes holds =
          record {
            rest = rw (goes, holds, Label-is, add-one count) (rw (is, lt-ltb count (length held) free) at v.rest);
            label_small = fits;
            node_below = rw goes (b.left_below n);
            few = omega (arith, v.held_long);
            held_long = simp length-set v.held_long;
            tree_long = v.tree_long;
            small = omega (arith, v.small);
          }

      pub skips_left : {l m : ℕ} {tree' : List ℕ} → move_of (p.cell n k) ≡ skip_left → l ≡ p.left n → m ≡ p.right n → tree' ≡ set tree written (emptied l)
          → Walking p k goal slots room bound left m label count (written + 1) held tree'
      unfolding visit_of
      skips_left is skips goes noted =
          record {
            rest = rw (noted, goes, skips, Label-is, add-one written) (rw is at v.rest);
            label_small = fits;
            node_below = rw goes (b.right_below n);
            few = v.few;
            held_long = v.held_long;
            tree_long = ap length noted ∙ simp length-set v.tree_long;
            small = omega (arith, v.small);
          }
