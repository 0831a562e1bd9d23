-- Reading a tree under way: the reading stands at a record, and the events before it are counted and written.
use Prim.Native.Nat.{ℕ, zero, suc, ◌+◌, ◌≤◌, ◌<◌, ◌^◌}
use native.Mathlib.Omega.{arith}
use native.Mathlib.Decide.{dec_lt}
use native.Mathlib.Nat.{add-zero, add-suc, suc-add, zero-add}
use mathlib.Core.Path.{◌≡◌, refl, sym, ap, ◌∙◌}
use mathlib.Core.Bool.{Bool, true, false}
use mathlib.Core.List.{List, [], ◌∷◌, ◌++◌, append_assoc, append-nil}
use lib.ListN.{length, take, get_or, set, length-append}
use lib.Seq.{sets, length-sets, length-take-le, take-suc, take_all}
use Rattle.book.specs.Book.{Book}
use Rattle.book.specs.declared.Node.{Node}
use Rattle.book.specs.declared.Node.TheVariants.{Fail, Empty, Token, Either, Then, Tagged, Ref}
use Rattle.grammar.specs.Passing.{Passes}
use Rattle.trees.specs.declared.Due.{Due}
use Rattle.trees.specs.declared.Due.TheVariants.{Nothing, Part, Taking, OneOf, Both}
use Rattle.trees.specs.Trees.{is_emptied, own_events, events_at, events, Wrong, wrong_at, more_due}
use Rattle.trees.specs.Machine.{Powers, PowersOf, State, state, next, opened, kept, lapsed, allows, behind, goes, reads, read_tree}
use Rattle.trees.proofs.ReadTrees.{read_before}
use Rattle.trees.proofs.Places.{wrong_parts, due_lacks, nothing_due_tree}
use Rattle.due.specs.Due.{DueBelow}
use Rattle.due.proofs.Inside.{read_inside, records_below, allowed_below}
use Rattle.turns.specs.declared.Spot.{Spot}
use Rattle.turns.specs.Slots.{spot_of, came, turn_of}
use Rattle.turns.proofs.Turning.{stack, Stands, keeps_length, turn_leads}
use Rattle.unread.specs.Unreads.{Read}

-- ---- events of records

module _ (node : ℕ → Node) where
  own_few : (top : Node) → length (own_events top) ≤ 1
  unfolding own_events
  own_few Fail = omega arith
  own_few Empty = omega arith
  own_few (Token k) = omega arith
  own_few (Either l r) = omega arith
  own_few (Then l r) = omega arith
  own_few (Tagged l t) = omega arith
  own_few (Ref l) = omega arith

  few_at : (given : ℕ) → length (events_at node given) ≤ 1
  unfolding events_at
  few_at given = go (is_emptied given) refl
    where
      go : (t : Bool) → is_emptied given ≡ t → length (events_at node given) ≤ 1
      go true e = rw e (omega arith)
      go false e = rw e (own_few (node given))

  -- at most one for each record
  few_events : (records : List ℕ) → length (events node records) ≤ length records
  unfolding events
  few_events [] = omega arith
  few_events (given ∷ more) =
      omega (arith, few_events more, few_at given, length-append (events_at node given) (events node more))

  events_append : (xs ys : List ℕ) → events node (xs ++ ys) ≡ events node xs ++ events node ys
  unfolding events
  events_append [] ys = refl
  events_append (given ∷ more) ys =
      ap (λ (e : List ℕ). events_at node given ++ e) (events_append more ys)
      ∙ sym (append_assoc (events_at node given) (events node more) (events node ys))

  -- one record more
  events_more : (records : List ℕ) (i : ℕ) → i < length records
      → events node (take (suc i) records) ≡ events node (take i records) ++ events_at node (get_or records i 0)
  unfolding events
  events_more records i below =
      rw (take-suc records i 0 below)
      (events_append (take i records) (get_or records i 0 ∷ [])
      ∙ ap (λ (e : List ℕ). events node (take i records) ++ e) (append-nil (events_at node (get_or records i 0))))

-- stores one after the other
pub sets-append : (xs ys l : List ℕ) (i : ℕ) → sets l i (xs ++ ys) ≡ sets (sets l i xs) (i + length xs) ys
sets-append [] ys l i = ap (λ (n : ℕ). sets l n ys) (sym (add-zero i))
sets-append (x ∷ xs) ys l i =
    sets-append xs ys (set l i x) (suc i) ∙ ap (λ (n : ℕ). sets (sets (set l i x) (suc i) xs) n ys) (suc-add i (length xs) ∙ sym (add-suc i (length xs)))

-- ---- parts held: at most one for each record

next_few : (held : List ℕ) → length (next held).held ≤ length held
unfolding next
next_few [] = omega arith
next_few (n ∷ held) = omega arith

opened_few : (top : Node) (held : List ℕ) → length (opened top held).held ≤ length held
unfolding opened
opened_few Fail held = next_few held
opened_few Empty held = next_few held
opened_few (Token k) held = next_few held
opened_few (Either l r) held = omega arith
opened_few (Then l r) held = omega arith
opened_few (Tagged l t) held = omega arith
opened_few (Ref l) held = omega arith

kept_few : (due : Due) (held : List ℕ) → length (kept due held) ≤ suc (length held)
unfolding kept
kept_few Nothing held = omega arith
kept_few (Part n) held = omega arith
kept_few (Taking n) held = omega arith
kept_few (OneOf l r) held = omega arith
kept_few (Both l r) held = omega arith

lapsed_few : (due : Due) (held : List ℕ) → length (lapsed due held).held ≤ length held
unfolding lapsed
lapsed_few Nothing held = next_few held
lapsed_few (Part n) held = next_few held
lapsed_few (Taking n) held = next_few held
lapsed_few (OneOf l r) held = next_few held
lapsed_few (Both l r) held = omega arith

behind_few : (node : ℕ → Node) (due : Due) (held : List ℕ) (given : ℕ) → length (behind node due held given).held ≤ suc (length held)
unfolding behind
behind_few node due held given = go (is_emptied given) refl
  where
    go : (t : Bool) → is_emptied given ≡ t → length (behind node due held given).held ≤ suc (length held)
    go true e = rw e (omega (arith, lapsed_few due held))
    go false e = rw e (omega (arith, opened_few (node given) (kept due held), kept_few due held))

held_few : (b : Book) (powers : Powers) (records : List ℕ) (i : ℕ) {s : State} → i ≤ length records
    → read_tree b powers (take i records) ≡ goes s → length s.held ≤ i
unfolding read_tree reads
held_few b powers records zero {s} within is =
    let same : state (Part b.start) [] ≡ s = cc in rw (sym same) (omega arith)
held_few b powers records (suc i) {s} within is =
    let f = read_before b powers records i (omega arith) is in
    let ih = held_few b powers records i (omega arith) f.reads_to in
    rw f.stepped (omega (arith, ih, behind_few b.node f.stood.due f.stood.held (get_or records i 0)))

-- ---- under way

pub record UnderWay (b : Book) (powers : Powers) (records before : List ℕ) (at : ℕ) (spot : Spot) (slots after : List ℕ) : Type 0 where
  pub within : at ≤ length records
  pub some_slot : 0 < length slots
  pub stands : Stands b powers records at spot slots
  pub counted : spot.events ≡ length (events b.node (take at records))
  pub written : after ≡ sets before 0 (events b.node (take at records))

pub begun : (b : Book) (powers : Powers) (records before slots : List ℕ) {start : ℕ} → start ≡ b.start → 0 < length slots
    → UnderWay b powers records before 0 (spot_of (Part start) 0 0 0) slots before
unfolding read_tree reads events stack
begun b powers records before slots is some =
    record {
      within = omega arith;
      some_slot = some;
      stands =
          record {
            held = [];
            reads_to = rw is refl;
            keeps = record { rest = []; held_are = refl; lost_are = refl; few = omega arith };
          };
      counted = refl;
      written = refl;
    }

module _ {b : Book} {powers : Powers} {records before : List ℕ} {at : ℕ} {spot : Spot} {slots after : List ℕ}
    (way : UnderWay b powers records before at spot slots after) where
  -- a turn
  pub on : {now : Spot} {slots' after' : List ℕ} → at < length records → allows powers spot.due (get_or records at 0) ≡ true
      → came now slots' after' ≡ turn_of b records at spot slots after → UnderWay b powers records before (at + 1) now slots' after'
  on {now} {slots'} {after'} below may is =
      let t = turn_leads b powers records at spot slots after way.stands way.some_slot below may in
      let turned = rw (sym is) at t in
      let one_more : at + 1 ≡ suc at = omega arith in
      let own = events_at b.node (get_or records at 0) in
      let earlier = events b.node (take at records) in
      rw one_more
      (record {
        within = below;
        some_slot = omega (arith, turned.long, way.some_slot);
        stands = turned.stands;
        counted =
            rw (events_more b.node records at below)
            (turned.counts.events_are ∙ omega (arith, way.counted, length-append earlier own));
        written =
            rw (events_more b.node records at below)
            (turned.counts.run_is
            ∙ rw (way.written, way.counted)
            (sym (rw (zero-add (length earlier)) at (sets-append earlier own before 0))));
      })

  -- the run is as long as it was
  pub written_long : length after ≡ length before
  written_long = ap length way.written ∙ length-sets before 0 (events b.node (take at records))

  -- what a turn is called with
  pub parts_small : at < 2 ^ 63 → spot.lost + spot.kept + 1 < 2 ^ 64
  parts_small few =
      omega (arith, keeps_length way.stands.keeps, held_few b powers records at way.within way.stands.reads_to)

  pub events_small : at < 2 ^ 63 → spot.events + 1 < 2 ^ 64
  events_small few = omega (arith, way.counted, few_events b.node (take at records), length-take-le at records way.within)

-- of a book that passes, whose facts tell what the nodes can do
module _ {b : Book} (passes : Passes b) {powers : Powers} (known : PowersOf b.node powers) {records before : List ℕ} {at : ℕ} {spot : Spot}
    {slots after : List ℕ} (way : UnderWay b powers records before at spot slots after) where
  -- what is due is of the book
  pub due_below : DueBelow b.count spot.due
  due_below = (read_inside passes.well_formed powers records at way.within way.stands.reads_to).due_below

  -- and so are the records up to one that may stand
  pub looked_below : allows powers spot.due (get_or records at 0) ≡ true
      → (j : ℕ) → j < at + 1 → is_emptied (get_or records j 0) ≡ false → get_or records j 0 < b.count
  looked_below may j below given = go (dec_lt j at)
    where
      go : Dec (j < at) → get_or records j 0 < b.count
      go (yes earlier) =
          records_below passes.well_formed known records at way.within way.stands.reads_to j earlier given
      go (no here) =
          let same : j ≡ at = omega arith in
          rw same (allowed_below passes.well_formed known spot.due (get_or records at 0) may (rw same at given))

  -- a record that may not stand there
  pub stopped : at < length records → allows powers spot.due (get_or records at 0) ≡ false → Wrong b records at
  stopped below bars = wrong_at (wrong_parts passes known records at below way.stands.reads_to bars)

  -- the end of the records
  module _ (past : length records ≤ at) where
    all : take at records ≡ records
    all = take_all at records past

    read : read_tree b powers records ≡ goes (state spot.due way.stands.held)
    read = rw all at way.stands.reads_to

    pub ended : spot.due ≡ Nothing → Read b records before spot.events after
    ended none = record {
      accepts = nothing_due_tree passes known records read none;
      counted = rw all at way.counted;
      stand = rw all at way.written;
    }

    pub lacking : (spot.due ≡ Nothing → ⊥) → Wrong b records (length records)
    lacking some = more_due (due_lacks passes known records read some)
