-- A turn with slots follows the reading: what is due is what the reading has due, and of the parts held behind it those held last stand
-- in the slots.
use Prim.Native.Nat.{ℕ, zero, suc, ◌+◌, ◌-◌, ◌≤◌, ◌<◌}
use native.Mathlib.Omega.{arith}
use native.Mathlib.Nat.{add-zero}
use mathlib.Core.Path.{◌≡◌, refl, sym, ap, ◌∙◌}
use mathlib.Core.Bool.{Bool, true, false}
use mathlib.Core.List.{List, [], ◌∷◌, ◌++◌}
use lib.Dec.{ltb, eqb}
use lib.ListN.{length, take, get_or, set, length-append, length-set}
use lib.Seq.{get_or-set_same, get_or-set_other, sets}
use borrow.Author.Tests.{ltb-true, lt-ltb, le-ltb, eq-eqb, ne_eqb}
use Rattle.book.specs.Book.{Book}
use Rattle.book.specs.declared.Node.{Node}
use Rattle.book.specs.declared.Node.TheVariants.{Fail, Empty, Token, Either, Then, Tagged, Ref}
use Rattle.trees.specs.declared.Due.{Due}
use Rattle.trees.specs.declared.Due.TheVariants.{Nothing, Part, Taking, OneOf, Both}
use Rattle.trees.specs.Trees.{is_emptied, own_events, events_at}
use Rattle.trees.specs.Machine.{Powers, state, next, opened, kept, lapsed, allows, behind, goes, read_tree}
use Rattle.trees.specs.Back.{due_at}
use Rattle.trees.proofs.ReadTrees.{read_on}
use Rattle.trees.proofs.LookedBack.{due_at_lem}
use Rattle.turns.specs.declared.Spot.{Spot}
use Rattle.turns.specs.Slots.{spot_of, next_of, lapse_of, Left, hold_of, keep_of, event_of, open_of, Came, turn_of}

-- the parts kept in the first so many slots, the one kept last in front
unfoldable pub stack : List ℕ → ℕ → List ℕ
stack slots zero = []
stack slots (suc n) = get_or slots n 0 ∷ stack slots n

-- parts held: those in the slots, and behind them as many as are not
pub record Keeps (held slots : List ℕ) (many lost : ℕ) : Type 0 where
  pub rest : List ℕ
  pub held_are : held ≡ stack slots many ++ rest
  pub lost_are : length rest ≡ lost
  pub few : many ≤ length slots

-- where the reading stands, at a spot
pub record Stands (b : Book) (powers : Powers) (records : List ℕ) (i : ℕ) (spot : Spot) (slots : List ℕ) : Type 0 where
  pub held : List ℕ
  pub reads_to : read_tree b powers (take i records) ≡ goes (state spot.due held)
  pub keeps : Keeps held slots spot.kept spot.lost

stack-length : (slots : List ℕ) (n : ℕ) → length (stack slots n) ≡ n
unfolding stack
stack-length slots zero = refl
stack-length slots (suc n) = ap suc (stack-length slots n)

stack_set : (slots : List ℕ) (n at value : ℕ) → n ≤ at → stack (set slots at value) n ≡ stack slots n
unfolding stack
stack_set slots zero at value past = refl
stack_set slots (suc n) at value past =
    let other = get_or-set_other slots at n value 0 (λ e. absurd (omega arith)) in
    rw (other, stack_set slots n at value (omega arith)) refl

-- as many are held as are kept and lost
pub keeps_length : {held slots : List ℕ} {many lost : ℕ} → Keeps held slots many lost → length held ≡ many + lost
keeps_length {slots = slots} {many} keeps =
    rw keeps.held_are
    (length-append (stack slots many) keeps.rest ∙ omega (arith, stack-length slots many, keeps.lost_are))

-- ---- a part more is kept

module _ {held slots : List ℕ} (spot : Spot) (keeps : Keeps held slots spot.kept spot.lost) (some : 0 < length slots) where
  -- what is left keeps
  abbrev LeftKeeps : List ℕ → Left → Type 0
  LeftKeeps parts l = Keeps parts l.slots l.spot.kept l.spot.lost

  hold_keeps : (r : ℕ) → LeftKeeps (r ∷ held) (hold_of spot r slots)
  unfolding hold_of stack
  hold_keeps r = go (ltb spot.kept (length slots)) refl
    where
      more : spot.kept + 1 ≡ suc spot.kept
      more = omega arith

      go : (t : Bool) → ltb spot.kept (length slots) ≡ t → LeftKeeps (r ∷ held) (hold_of spot r slots)
      go true e =
          let room = ltb-true spot.kept (length slots) e in
          rw e
          (record {
            rest = keeps.rest;
            held_are =
                rw (more, get_or-set_same slots spot.kept r 0 room, stack_set slots spot.kept spot.kept r (omega arith))
                (ap (λ (x : List ℕ). r ∷ x) keeps.held_are);
            lost_are = keeps.lost_are;
            few = omega (arith, room, length-set slots spot.kept r);
          })
      go false e =
          rw e
          (record {
            rest = held;
            held_are = rw (get_or-set_same slots 0 r 0 some) refl;
            lost_are = omega (arith, keeps_length keeps);
            few = omega (arith, some, length-set slots 0 r);
          })

  keep_keeps : (due : Due) → LeftKeeps (kept due held) (keep_of spot due slots)
  unfolding kept keep_of
  keep_keeps Nothing = keeps
  keep_keeps (Part n) = keeps
  keep_keeps (Taking n) = keeps
  keep_keeps (OneOf l r) = keeps
  keep_keeps (Both l r) = hold_keeps r

-- ---- events

-- keeping a part and going on to the next leave them
pub keep_events : (spot : Spot) (due : Due) (slots : List ℕ) → (keep_of spot due slots).spot.events ≡ spot.events
unfolding keep_of hold_of
keep_events spot Nothing slots = refl
keep_events spot (Part n) slots = refl
keep_events spot (Taking n) slots = refl
keep_events spot (OneOf l r) slots = refl
keep_events spot (Both l r) slots = go (ltb spot.kept (length slots)) refl
  where
    go : (t : Bool) → ltb spot.kept (length slots) ≡ t → (keep_of spot (Both l r) slots).spot.events ≡ spot.events
    go true e = rw e
    go false e = rw e

keep_long : (spot : Spot) (due : Due) (slots : List ℕ) → length (keep_of spot due slots).slots ≡ length slots
unfolding keep_of hold_of
keep_long spot Nothing slots = refl
keep_long spot (Part n) slots = refl
keep_long spot (Taking n) slots = refl
keep_long spot (OneOf l r) slots = refl
keep_long spot (Both l r) slots = go (ltb spot.kept (length slots)) refl
  where
    go : (t : Bool) → ltb spot.kept (length slots) ≡ t → length (keep_of spot (Both l r) slots).slots ≡ length slots
    go true e = rw e (length-set slots spot.kept r)
    go false e = rw e (length-set slots 0 r)

next_events : (b : Book) (records : List ℕ) (i : ℕ) (spot : Spot) (slots : List ℕ) → (next_of b records i spot slots).events ≡ spot.events
unfolding next_of
next_events b records i spot slots = go (ltb 0 spot.kept) (eqb spot.lost 0) refl refl
  where
    go : (some none : Bool) → ltb 0 spot.kept ≡ some → eqb spot.lost 0 ≡ none → (next_of b records i spot slots).events ≡ spot.events
    go true none e f = rw e
    go false true e f = rw (e, f)
    go false false e f = rw (e, f)

-- an empty record has none
lapse_events : (b : Book) (records : List ℕ) (i : ℕ) (spot : Spot) (due : Due) (slots : List ℕ)
    → (lapse_of b records i spot due slots).events ≡ spot.events
unfolding lapse_of
lapse_events b records i spot Nothing slots = next_events b records i spot slots
lapse_events b records i spot (Part n) slots = next_events b records i spot slots
lapse_events b records i spot (Taking n) slots = next_events b records i spot slots
lapse_events b records i spot (OneOf l r) slots = next_events b records i spot slots
lapse_events b records i spot (Both l r) slots = refl

-- the events of a record are written behind those before it, and counted
pub record Counts (spot now : Spot) (run after own : List ℕ) : Type 0 where
  pub run_is : after ≡ sets run spot.events own
  pub events_are : now.events ≡ spot.events + length own

no_events : (spot now : Spot) (run : List ℕ) → now.events ≡ spot.events → Counts spot now run run []
no_events spot now run same = record { run_is = refl; events_are = same ∙ sym (add-zero spot.events) }

open_counts : (b : Book) (records : List ℕ) (i : ℕ) (top : Node) (spot : Spot) (slots run : List ℕ)
    → Counts spot (open_of b records i top spot slots run).spot run (open_of b records i top spot slots run).run (own_events top)
unfolding open_of event_of own_events
open_counts b records i Fail spot slots run = no_events spot _ run (next_events b records i spot slots)
open_counts b records i Empty spot slots run = no_events spot _ run (next_events b records i spot slots)
open_counts b records i (Token k) spot slots run = record { run_is = refl; events_are = next_events b records i _ slots }
open_counts b records i (Either l r) spot slots run = no_events spot _ run refl
open_counts b records i (Then l r) spot slots run = no_events spot _ run refl
open_counts b records i (Tagged l t) spot slots run = no_events spot _ run refl
open_counts b records i (Ref l) spot slots run = no_events spot _ run refl

module _ (b : Book) (powers : Powers) (records : List ℕ) where
  -- ---- a part is whole

  -- the next is due
  next-stands : (i : ℕ) (spot : Spot) {held slots : List ℕ} → i ≤ length records → read_tree b powers (take i records) ≡ goes (next held)
      → Keeps held slots spot.kept spot.lost → Stands b powers records i (next_of b records i spot slots) slots
  unfolding next_of next stack due_at
  next-stands i spot {held} {slots} within is keeps = go spot.kept keeps.rest refl keeps.held_are keeps.lost_are
    where
      go : (many : ℕ) (rest : List ℕ) → spot.kept ≡ many → held ≡ stack slots spot.kept ++ rest
          → length rest ≡ spot.lost → Stands b powers records i (next_of b records i spot slots) slots
      go (suc many) rest many-are held_are rest-are =
          let less : suc many - 1 ≡ many = omega arith in
          rw (many-are, lt-ltb 0 (suc many) (omega arith), less)
          (record {
            held = stack slots many ++ rest;
            reads_to = rw (held_are, many-are) at is;
            keeps = record { rest = rest; held_are = refl; lost_are = rest-are; few = omega (arith, keeps.few, many-are) };
          })
      go zero [] many-are held_are rest-are =
          rw (many-are, le-ltb 0 0 (omega arith), eq-eqb spot.lost 0 (sym rest-are))
          (record {
            held = [];
            reads_to = rw (held_are, many-are) at is;
            keeps = record { rest = []; held_are = refl; lost_are = refl; few = omega arith };
          })
      go zero (n ∷ rest) many-are held_are rest-are =
          let found : read_tree b powers (take i records) ≡ goes (state (Part n) rest) = rw (held_are, many-are) at is in
          rw (many-are, le-ltb 0 0 (omega arith), ne_eqb spot.lost 0 (λ e. absurd (omega (arith, rest-are, e))))
          (record {
            held = rest;
            reads_to = rw (due_at_lem b powers records i within found) found;
            keeps = record { rest = rest; held_are = refl; lost_are = omega (arith, rest-are); few = omega arith };
          })

  -- behind an empty record, and behind that of a node
  lapse_stands : (i : ℕ) (spot : Spot) (due : Due) {held slots : List ℕ} → i ≤ length records
      → read_tree b powers (take i records) ≡ goes (lapsed due held) → Keeps held slots spot.kept spot.lost
      → Stands b powers records i (lapse_of b records i spot due slots) slots
  unfolding lapse_of lapsed
  lapse_stands i spot Nothing within is keeps = next-stands i spot within is keeps
  lapse_stands i spot (Part n) within is keeps = next-stands i spot within is keeps
  lapse_stands i spot (Taking n) within is keeps = next-stands i spot within is keeps
  lapse_stands i spot (OneOf l r) within is keeps = next-stands i spot within is keeps
  lapse_stands i spot (Both l r) within is keeps = record { held = _; reads_to = is; keeps = keeps }

  open_stands : (i : ℕ) (spot : Spot) (top : Node) (run : List ℕ) {held slots : List ℕ} → i ≤ length records
      → read_tree b powers (take i records) ≡ goes (opened top held) → Keeps held slots spot.kept spot.lost
      → Stands b powers records i (open_of b records i top spot slots run).spot slots
  unfolding open_of event_of opened
  open_stands i spot Fail run within is keeps = next-stands i spot within is keeps
  open_stands i spot Empty run within is keeps = next-stands i spot within is keeps
  open_stands i spot (Token k) run within is keeps =
      next-stands i (spot_of spot.due spot.kept spot.lost (spot.events + 1)) within is keeps
  open_stands i spot (Either l r) run within is keeps = record { held = _; reads_to = is; keeps = keeps }
  open_stands i spot (Then l r) run within is keeps = record { held = _; reads_to = is; keeps = keeps }
  open_stands i spot (Tagged l t) run within is keeps = record { held = _; reads_to = is; keeps = keeps }
  open_stands i spot (Ref l) run within is keeps = record { held = _; reads_to = is; keeps = keeps }

  -- ---- a turn

  -- where it leads: the reading stands one record further, and the record's events are written and counted
  pub record Turned (i : ℕ) (spot : Spot) (slots run : List ℕ) (c : Came) : Type 0 where
    pub stands : Stands b powers records (suc i) c.spot c.slots
    pub counts : Counts spot c.spot run c.run (events_at b.node (get_or records i 0))
    pub long : length c.slots ≡ length slots

  pub turn_leads : (i : ℕ) (spot : Spot) (slots run : List ℕ) → Stands b powers records i spot slots → 0 < length slots
      → i < length records → allows powers spot.due (get_or records i 0) ≡ true → Turned i spot slots run (turn_of b records i spot slots run)
  unfolding turn_of behind events_at
  turn_leads i spot slots run s some below may = go (is_emptied (get_or records i 0)) refl
    where
      more : i + 1 ≡ suc i
      more = omega arith

      on : read_tree b powers (take (suc i) records) ≡ goes (behind b.node spot.due s.held (get_or records i 0))
      on = read_on b powers records i below s.reads_to may

      kept_spot : Spot
      kept_spot = (keep_of spot spot.due slots).spot

      kept_slots : List ℕ
      kept_slots = (keep_of spot spot.due slots).slots

      go : (t : Bool) → is_emptied (get_or records i 0) ≡ t → Turned i spot slots run (turn_of b records i spot slots run)
      go true e =
          rw (e, more)
          (record {
            stands = lapse_stands (suc i) spot spot.due below (rw e at on) s.keeps;
            counts = rw e (no_events spot _ run (lapse_events b records (suc i) spot spot.due slots));
            long = refl;
          })
      go false e =
          let counts = open_counts b records (suc i) (b.node (get_or records i 0)) kept_spot kept_slots run in
          rw (e, more)
          (record {
            stands =
                open_stands (suc i) kept_spot (b.node (get_or records i 0)) run below (rw e at on)
                (keep_keeps spot s.keeps some spot.due);
            counts = rw e
                (record {
                  run_is = rw (keep_events spot spot.due slots) at counts.run_is;
                  events_are = rw (keep_events spot spot.due slots) at counts.events_are;
                });
            long = keep_long spot spot.due slots;
          })
