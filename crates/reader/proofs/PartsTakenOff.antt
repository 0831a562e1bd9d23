-- Parts being taken off, at an event or at the end: what is left comes to the goal, and how each part goes on or ends it.
use mathlib.Core.Path.{◌≡◌, ap, ◌∙◌}
use mathlib.Core.Bool.{true, false}
use mathlib.Core.List.{List}
use Prim.Native.Nat.{ℕ, suc, ◌+◌, ◌-◌, ◌≤◌, ◌<◌}
use native.Mathlib.Numerals.{add-one}
use native.Mathlib.Omega.{arith}
use lib.Dec.{eqb}
use lib.ListN.{length, get_or, set, length-set}
use Rattle.book.specs.Form.{DONE}
use Rattle.running.specs.Running.{Plan, emptied, UNEXPECTED, END}
use Rattle.reader.specs.Machine.{After, SlotsHold, stands, node_in, label_in, off_of, walk_of, take_of, finish_of}
use Rattle.reader.proofs.Slots.{held_less}

-- parts taken off by a machine with so many held and records written: what is left comes to the goal, and the state is sound
pub record Taking (machine : ℕ → ℕ → List ℕ → List ℕ → After) (goal : After) (nodes slots room bound parts records : ℕ)
    (held tree : List ℕ) : Type 0 where
  pub rest : machine parts records held tree ≡ goal
  pub safe : SlotsHold nodes slots held parts
  pub tree_long : length tree ≡ room
  pub small : records + parts ≤ bound

-- the part held last: its node and its label
abbrev pub last_at : List ℕ → ℕ → ℕ
last_at held parts = node_in (get_or held (parts - 1) 0)

abbrev pub last_label : List ℕ → ℕ → ℕ
last_label held parts = label_in (get_or held (parts - 1) 0)

module _ {machine : ℕ → ℕ → List ℕ → List ℕ → After} {goal : After} {nodes slots room bound parts records : ℕ} {held tree : List ℕ}
    (w : Taking machine goal nodes slots room bound parts records held tree) (some : 0 < parts) where
  -- it is a node
  pub last_below : last_at held parts < nodes
  last_below = w.safe.below (parts - 1) (omega arith)

  pub label_small : last_label held parts < 65536
  label_small = w.safe.labels (parts - 1) (omega arith)

  -- its slot stands in the slots
  pub last_inside : parts - 1 < length held
  last_inside = omega (arith, w.safe.long, w.safe.few)

  -- one part fewer
  one_more : parts ≡ suc (parts - 1)
  one_more = omega arith

  pub fewer : SlotsHold nodes slots held (parts - 1)
  fewer = held_less (rw one_more at w.safe)

  -- it is passed
  passed : {tree' : List ℕ} → tree' ≡ set tree records (emptied (last_at held parts)) → machine (parts - 1) (records + 1) held tree' ≡ goal
      → Taking machine goal nodes slots room bound (parts - 1) (records + 1) held tree'
  passed noted rest =
      record { rest = rest; safe = fewer; tree_long = ap length noted ∙ simp length-set w.tree_long; small = omega (arith, w.small) }

-- at an event
module _ (p : Plan) (k : ℕ) {goal : After} {nodes slots room bound parts records : ℕ} {held tree : List ℕ}
    (w : Taking (take_of p k) goal nodes slots room bound parts records held tree) where
  -- no part is left
  pub take_none : parts ≤ 0 → stands UNEXPECTED true parts records held tree ≡ goal
  unfolding take_of
  take_none none = let z : parts ≡ 0 = omega arith in rw z (rw z at w.rest)

  module _ (some : 0 < parts) where
    last : ℕ
    last = last_at held parts

    taking : off_of (p.cell last k) (p.null last) (walk_of p k p.count last (last_label held parts) (parts - 1) records held tree)
        (take_of p k (parts - 1) (records + 1) held (set tree records (emptied last))) (stands UNEXPECTED true (parts - 1) records held tree)
        ≡ goal
    unfolding take_of last
    taking = rw (add-one records) (rw (one_more w some) at w.rest)

    pub take_walks : eqb (p.cell (last_at held parts) k) 0 ≡ false
        → walk_of p k p.count (last_at held parts) (last_label held parts) (parts - 1) records held tree ≡ goal
    unfolding off_of last
    take_walks walks = rw walks at taking

    pub take_refuses : eqb (p.cell (last_at held parts) k) 0 ≡ true → p.null (last_at held parts) ≡ false
        → stands UNEXPECTED true (parts - 1) records held tree ≡ goal
    unfolding off_of last
    take_refuses is null = rw (is, null) at taking

    pub take_passes : eqb (p.cell (last_at held parts) k) 0 ≡ true → p.null (last_at held parts) ≡ true
        → {tree' : List ℕ} → tree' ≡ set tree records (emptied (last_at held parts))
        → Taking (take_of p k) goal nodes slots room bound (parts - 1) (records + 1) held tree'
    unfolding off_of last
    take_passes is null noted = passed w some noted (rw noted (rw (is, null) at taking))

-- at the end
module _ (p : Plan) {goal : After} {nodes slots room bound parts records : ℕ} {held tree : List ℕ}
    (w : Taking (finish_of p) goal nodes slots room bound parts records held tree) where
  -- no part is left
  pub finish_none : parts ≤ 0 → stands DONE true parts records held tree ≡ goal
  unfolding finish_of
  finish_none none = let z : parts ≡ 0 = omega arith in rw z (rw z at w.rest)

  module _ (some : 0 < parts) where
    pub finish_refuses : p.null (last_at held parts) ≡ false → stands END true (parts - 1) records held tree ≡ goal
    unfolding finish_of
    finish_refuses null = rw null at (rw (one_more w some) at w.rest)

    pub finish_passes : p.null (last_at held parts) ≡ true → {tree' : List ℕ} → tree' ≡ set tree records (emptied (last_at held parts))
        → Taking (finish_of p) goal nodes slots room bound (parts - 1) (records + 1) held tree'
    unfolding finish_of
    finish_passes null noted = passed w some noted (rw (noted, add-one records) (rw null at (rw (one_more w some) at w.rest)))
