-- Reading a tree with slots for the parts due last, and looking back for the others.
use Rattle.std.specs.Prelude.{ℕ, ◌+◌, ◌-◌, cond, List, ltb, eqb, length, get_or, set}
use Rattle.book.specs.Book.{Book}
use Rattle.book.specs.declared.Node.{Node}
use Rattle.book.specs.declared.Node.TheVariants.{Fail, Empty, Token, Either, Then, Tagged, Ref}
use Rattle.trees.specs.declared.Due.{Due}
use Rattle.trees.specs.declared.Due.TheVariants.{Nothing, Part, Taking, OneOf, Both}
use Rattle.trees.specs.Trees.{is_emptied}
use Rattle.trees.specs.Back.{due_at}
use Rattle.turns.specs.declared.Spot.{Spot}

abbrev pub spot_of : Due → ℕ → ℕ → ℕ → Spot
spot_of due kept lost events = record { due = due; kept = kept; lost = lost; events = events }

-- what is due now, with all else as it was
abbrev pub with_due : Spot → Due → Spot
with_due spot due = spot_of due spot.kept spot.lost spot.events

-- a part is whole: the part kept last is due; where none is kept, nothing, or what is found by looking back
unfoldable pub next_of : Book → List ℕ → ℕ → Spot → List ℕ → Spot
next_of b records at spot slots =
    cond (ltb 0 spot.kept) (spot_of (Part (get_or slots (spot.kept - 1) 0)) (spot.kept - 1) spot.lost spot.events)
    (cond (eqb spot.lost 0) (spot_of Nothing 0 0 spot.events)
    (spot_of (due_at b records at) 0 (spot.lost - 1) spot.events))

-- behind an empty record, where this was due
unfoldable pub lapse_of : Book → List ℕ → ℕ → Spot → Due → List ℕ → Spot
lapse_of b records at spot Nothing slots = next_of b records at spot slots
lapse_of b records at spot (Part n) slots = next_of b records at spot slots
lapse_of b records at spot (Taking n) slots = next_of b records at spot slots
lapse_of b records at spot (OneOf l r) slots = next_of b records at spot slots
lapse_of b records at spot (Both l r) slots = with_due spot (Taking r)

-- a spot with its slots
pub record Left : Type 0 where
  pub spot : Spot
  pub slots : List ℕ

abbrev pub left : Spot → List ℕ → Left
left spot slots = record { spot = spot; slots = slots }

-- a part more is kept; where all slots are in use they begin anew
unfoldable pub hold_of : Spot → ℕ → List ℕ → Left
hold_of spot r slots =
    cond (ltb spot.kept (length slots))
    (left (spot_of spot.due (spot.kept + 1) spot.lost spot.events) (set slots spot.kept r))
    (left (spot_of spot.due 1 (spot.lost + spot.kept) spot.events) (set slots 0 r))

-- the right of a then is kept behind its left
unfoldable pub keep_of : Spot → Due → List ℕ → Left
keep_of spot Nothing slots = left spot slots
keep_of spot (Part n) slots = left spot slots
keep_of spot (Taking n) slots = left spot slots
keep_of spot (OneOf l r) slots = left spot slots
keep_of spot (Both l r) slots = hold_of spot r slots

-- a spot with the run
pub record Met : Type 0 where
  pub spot : Spot
  pub run : List ℕ

abbrev pub met : Spot → List ℕ → Met
met spot run = record { spot = spot; run = run }

-- behind the record of a token, which takes an event
unfoldable pub event_of : Book → List ℕ → ℕ → ℕ → Spot → List ℕ → List ℕ → Met
event_of b records at kind spot slots run =
    met (next_of b records at (spot_of spot.due spot.kept spot.lost (spot.events + 1)) slots)
    (set run spot.events kind)

-- behind the record of a node that takes an event
unfoldable pub open_of : Book → List ℕ → ℕ → Node → Spot → List ℕ → List ℕ → Met
open_of b records at Fail spot slots run = met (next_of b records at spot slots) run
open_of b records at Empty spot slots run = met (next_of b records at spot slots) run
open_of b records at (Token k) spot slots run = event_of b records at k spot slots run
open_of b records at (Either l r) spot slots run = met (with_due spot (OneOf l r)) run
open_of b records at (Then l r) spot slots run = met (with_due spot (Both l r)) run
open_of b records at (Tagged l t) spot slots run = met (with_due spot (Taking l)) run
open_of b records at (Ref l) spot slots run = met (with_due spot (Taking l)) run

-- a spot with its slots and the run
pub record Came : Type 0 where
  pub spot : Spot
  pub slots : List ℕ
  pub run : List ℕ

abbrev pub came : Spot → List ℕ → List ℕ → Came
came spot slots run = record { spot = spot; slots = slots; run = run }

abbrev pub came_of : Met → List ℕ → Came
came_of m slots = came m.spot slots m.run

-- behind the record at a place
unfoldable pub turn_of : Book → List ℕ → ℕ → Spot → List ℕ → List ℕ → Came
turn_of b records at spot slots run =
    cond (is_emptied (get_or records at 0)) (came (lapse_of b records (at + 1) spot spot.due slots) slots run)
    (came_of (open_of b records (at + 1) (b.node (get_or records at 0)) (keep_of spot spot.due slots).spot
    (keep_of spot spot.due slots).slots run)
    (keep_of spot spot.due slots).slots)
