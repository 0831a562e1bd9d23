-- The machine on slots and a tree, by the same steps as the code. Storing past the end of a list changes nothing, so
-- the tree's room appears nowhere.
use Rattle.std.specs.Prelude.{ℕ, zero, suc, ◌+◌, ◌*◌, ◌/◌, ◌%◌, ◌≤◌, ◌<◌, ◌≡◌, Bool, true, false, cond, List, [], ◌∷◌, ltb, eqb, length, get_or, set}
use Rattle.book.specs.Form.{DONE}
use Rattle.running.specs.Running.{Plan, Move, refuse, take_event, go_left, hold_right, skip_left, go_right, move_of}
use Rattle.running.specs.Running.{emptied, expected, DEEP, UNKNOWN, UNEXPECTED, END, RUNAWAY}
use Rattle.running.specs.Stages.{Part, part, inside, stage_of, nodes_of}
use Rattle.reader.specs.Numbers.{answered, told}
use Rattle.reader.specs.Reads.{Outcome, outcome}

-- how the machine stands: the answer's number, 0 where it may go on; whether the slots still have the parts held before;
-- the parts held; the records written
pub record Spot : Type 0 where
  pub number : ℕ
  pub intact : Bool
  pub count : ℕ
  pub written : ℕ

-- how the machine stands, with its slots and its tree
pub record After : Type 0 where
  pub spot : Spot
  pub held : List ℕ
  pub tree : List ℕ

abbrev pub after : Spot → List ℕ → List ℕ → After
after spot held tree = record { spot = spot; held = held; tree = tree }

abbrev pub stands : ℕ → Bool → ℕ → ℕ → List ℕ → List ℕ → After
stands number intact count written held tree =
    after (record { number = number; intact = intact; count = count; written = written }) held tree

-- a holding slot: a node in the low half of 32 bits, a label in the high half
abbrev pub slot_of : ℕ → ℕ → ℕ
slot_of node label = label * 65536 + node

abbrev pub node_in : ℕ → ℕ
node_in slot = slot % 65536

abbrev pub label_in : ℕ → ℕ
label_in slot = slot / 65536

-- the parts held in the first so many slots, the one held last in front
unfoldable pub stack : List ℕ → ℕ → List Part
stack held zero = []
stack held (suc count) = let slot = get_or held count 0 in part (node_in slot) (label_in slot) ∷ stack held count

-- parts held in the first so many of the slots, each a node below a count of nodes, with a label
pub record SlotsHold (nodes slots : ℕ) (held : List ℕ) (count : ℕ) : Type 0 where
  pub long : length held ≡ slots
  pub few : count ≤ slots
  pub below : (i : ℕ) → i < count → node_in (get_or held i 0) < nodes
  pub labels : (i : ℕ) → i < count → label_in (get_or held i 0) < 65536

-- how a walk goes on from a node with a label around it, with so many parts held and records written, the slots and
-- the tree
abbrev pub Go : Type 0
Go = ℕ → ℕ → ℕ → ℕ → List ℕ → List ℕ → After

-- what a move does at a node with this label inside it, left and right
unfoldable pub visit_of : Move → Go → ℕ → ℕ → ℕ → ℕ → ℕ → List ℕ → List ℕ → After
visit_of refuse go label l r count written held tree = stands UNEXPECTED false count written held tree
visit_of take_event go label l r count written held tree = stands DONE false count written held tree
visit_of go_left go label l r count written held tree = go l label count written held tree
visit_of hold_right go label l r count written held tree =
    cond (ltb count (length held)) (go l label (suc count) written (set held count (slot_of r label)) tree)
    (stands DEEP false count written held tree)
visit_of skip_left go label l r count written held tree =
    go r label count (suc written) held (set tree written (emptied l))
visit_of go_right go label l r count written held tree = go r label count written held tree

-- a part taken off: its walk where its cell is not 0, else it is passed where it is nullable, or the event is refused
unfoldable pub off_of : ℕ → Bool → After → After → After → After
off_of cell null walked passed refused = cond (eqb cell 0) (cond null passed refused) walked

module _ (p : Plan) (k : ℕ) where
  -- the walk from a node, with so many visits left
  unfoldable pub walk_of : ℕ → Go
  walk_of zero n outer count written held tree = stands RUNAWAY false count written held tree
  walk_of (suc left) n outer count written held tree =
      visit_of (move_of (p.cell n k)) (walk_of left) (inside (p.tag n) outer) (p.left n) (p.right n)
      count (suc written) held (set tree written n)

  -- taking parts off until one walks
  unfoldable pub take_of : ℕ → ℕ → List ℕ → List ℕ → After
  take_of zero written held tree = stands UNEXPECTED true zero written held tree
  take_of (suc count) written held tree =
      let slot = get_or held count 0 in
      let n = node_in slot in
      off_of (p.cell n k) (p.null n) (walk_of p.count n (label_in slot) count written held tree)
      (take_of count (suc written) held (set tree written (emptied n)))
      (stands UNEXPECTED true count written held tree)

  -- one event: a kind that is not known is refused before any part is taken off
  unfoldable pub event_of : ℕ → ℕ → List ℕ → List ℕ → After
  event_of count written held tree =
      cond (ltb k p.kinds) (take_of count written held tree) (stands UNKNOWN true count written held tree)

-- where the events of a run stop: the refusal's number, 0 at their end; whether the slots still have the parts held
-- before the event refused; its place, or the run's length; the parts held and the records written before it
pub record Stop : Type 0 where
  pub number : ℕ
  pub intact : Bool
  pub at : ℕ
  pub count : ℕ
  pub written : ℕ

-- where the events of a run stop, with the slots and the tree
pub record Passed : Type 0 where
  pub stop : Stop
  pub held : List ℕ
  pub tree : List ℕ

abbrev pub stopped_at : Stop → List ℕ → List ℕ → Passed
stopped_at stop held tree = record { stop = stop; held = held; tree = tree }

abbrev pub stops_at : ℕ → Bool → ℕ → ℕ → ℕ → List ℕ → List ℕ → Passed
stops_at number intact at count written held tree =
    stopped_at (record { number = number; intact = intact; at = at; count = count; written = written }) held tree

-- on from where the machine stands after an event at a place, or the stop there, with so many parts held and records
-- written before
unfoldable pub on_of : After → ℕ → ℕ → ℕ → (ℕ → ℕ → List ℕ → List ℕ → Passed) → Passed
on_of s at count written rest =
    cond (eqb s.spot.number DONE) (rest s.spot.count s.spot.written s.held s.tree)
    (stops_at s.spot.number s.spot.intact at count written s.held s.tree)

module _ (p : Plan) where
  -- the events of a run from a place on, with so many parts held and records written, until one is refused
  unfoldable pub pass_of : ℕ → List ℕ → ℕ → ℕ → List ℕ → List ℕ → Passed
  pass_of at [] count written held tree = stops_at DONE true at count written held tree
  pass_of at (k ∷ run) count written held tree =
      on_of (event_of p k count written held tree) at count written (λ c w h t. pass_of (suc at) run c w h t)

  -- the end: all held parts are taken off in turn
  unfoldable pub finish_of : ℕ → ℕ → List ℕ → List ℕ → After
  finish_of zero written held tree = stands DONE true zero written held tree
  finish_of (suc count) written held tree =
      let n = node_in (get_or held count 0) in
      cond (p.null n) (finish_of count (suc written) held (set tree written (emptied n)))
      (stands END true count written held tree)

  -- the end of a run, at a place: the run is accepted, or refused by the parts held before any was taken off
  unfoldable pub close_of : ℕ → ℕ → ℕ → List ℕ → List ℕ → Outcome
  close_of at count written held tree =
      let s = finish_of count written held tree in
      cond (eqb s.spot.number DONE) (outcome (answered DONE at s.spot.written 0) s.tree)
      (outcome (told s.spot.number at (stage_of (stack held count)) (expected p (nodes_of (stack held count))))
      s.tree)
