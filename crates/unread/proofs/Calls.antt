-- What a reading under way gives the functions that it calls, by the facts of a book that passes.
use Prim.Native.Nat.{ℕ, ◌+◌, ◌≤◌, ◌<◌, ◌^◌}
use native.Mathlib.Omega.{arith}
use mathlib.Core.Path.{◌≡◌, refl, sym, ◌∙◌}
use mathlib.Core.Bool.{Bool, true, false, cond}
use mathlib.Core.List.{List}
use lib.ListN.{length, get_or}
use Rattle.std.specs.Prelude.{Ok, Err}
use Rattle.std.specs.Result.{MatchResult}
use Rattle.book.specs.Form.{DONE, book_of}
use Rattle.grammar.specs.Passing.{Passes}
use Rattle.verdict.specs.Judges.{judgement}
use Rattle.verdict.specs.Conflicts.{Leaves}
use Rattle.verdict.proofs.Passing.{passed}
use Rattle.trees.specs.Trees.{Wrong}
use Rattle.trees.specs.Machine.{PowersOf, allows}
use Rattle.due.specs.Due.{powers_in, Able, able, powers_of, is_nothing, DueBelow, Looked}
use Rattle.due.proofs.Able.{powers_are}
use Rattle.turns.specs.declared.Spot.{Spot}
use Rattle.turns.specs.Slots.{came, turn_of}
use Rattle.unread.specs.Unreads.{Read}
use Rattle.unread.proofs.Answered.{nothing_is, something}
use Rattle.unread.proofs.UnderWay.{UnderWay, on, parts_small, events_small, due_below, looked_below, stopped, ended, lacking}

abbrev pub Way : List ℕ → List ℕ → List ℕ → List ℕ → ℕ → Spot → List ℕ → List ℕ → Type 0
Way bytes table = UnderWay (book_of bytes) (powers_in (book_of bytes).count table)

module _ {bytes table : List ℕ} (left : Leaves bytes (judgement DONE 0 0 0) table)
    {records before : List ℕ} {at : ℕ} {spot : Spot} {slots after : List ℕ} (way : Way bytes table records before at spot slots after) where
  passes : Passes (book_of bytes)
  passes = (passed left.judges refl).by_rules

  powers : PowersOf (book_of bytes).node (powers_in (book_of bytes).count table)
  powers = powers_are (book_of bytes) passes.well_formed table (left.known refl).facts (left.known refl).narrow

  -- the end of the records
  pub comes_to : length records ≤ at
      → MatchResult (cond (is_nothing spot.due) (Ok spot.events) (Err (length records)))
      (λ many. Read (book_of bytes) records before many after) (λ place. Wrong (book_of bytes) records place)
  comes_to past = go (is_nothing spot.due) refl
    where
      go : (t : Bool) → is_nothing spot.due ≡ t
          → MatchResult (cond t (Ok spot.events) (Err (length records)))
          (λ many. Read (book_of bytes) records before many after) (λ place. Wrong (book_of bytes) records place)
      go true e = ended passes powers way past (nothing_is spot.due e)
      go false e = lacking passes powers way past (λ none. something spot.due none e)

  -- whether a record may stand is asked
  module _ {count : ℕ} {able-is : Able} (by : able-is ≡ able count table) (count_is : count ≡ (book_of bytes).count) where
    pub can_ask : DueBelow able-is.count spot.due
    can_ask = rw (by, count_is) (due_below passes powers way)

    module _ (below : at < length records) {given : ℕ} (given-is : given ≡ get_or records at 0) {t : Bool}
        (told : t ≡ allows (powers_of able-is) spot.due given) where
      tells : t ≡ allows (powers_in (book_of bytes).count table) spot.due (get_or records at 0)
      tells = rw (by, count_is, given-is) at told

      pub no_turn : t ≡ false → Wrong (book_of bytes) records at
      no_turn bars = stopped passes powers way below (sym tells ∙ bars)

      module _ (may : t ≡ true) where
        pub can_turn : length records < 2 ^ 63
            → (Looked (book_of bytes) records (at + 1) × DueBelow (book_of bytes).count spot.due)
            × ((spot.lost + spot.kept + 1 < 2 ^ 64) × (spot.events + 1 < 2 ^ 64))
        can_turn few = ((looked, due_below passes powers way), (parts_small way (omega arith), events_small way (omega arith)))
          where
            looked : Looked (book_of bytes) records (at + 1)
            looked = record { within = omega (arith, below); below = looked_below passes powers way (sym tells ∙ may) }

        -- where it leads
        pub turned : {now : Spot} {slots' after' : List ℕ} → came now slots' after' ≡ turn_of (book_of bytes) records at spot slots after
            → Way bytes table records before (at + 1) now slots' after'
        turned is = on way below (sym tells ∙ may) is
