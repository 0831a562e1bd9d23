-- The tests of a drum: idle, then stale.
use mathlib.Core.Path.{◌≡◌, refl, sym, ◌∙◌}
use mathlib.Core.Bool.{Bool, true, false, ◌&&◌, ◌||◌}
use mathlib.Core.List.{List}
use Prim.Native.Nat.{ℕ, ◌≤◌, ◌<◌, min}
use native.Mathlib.Omega.{arith}
use borrow.Author.Tests.{ltb-true, ltb-false}
use lib.Dec.{ltb, eqb}
use lib.ListN.{length, get_or}
use Rattle.words.specs.Lists.{every}
use Rattle.lengths.specs.Falling.{smaller}
use Rattle.std.proofs.lemmas.Bool.Decides.{nat_tests}
use Rattle.std.specs.Bool.{MatchBool}
use Rattle.std.specs.List.{AllWithin, HoldsAt}
use Rattle.words.proofs.FirstBad.{every_is, every_good}
use Rattle.words.proofs.Tests.{never, fails}
use Rattle.book.specs.Form.{DONE, judged}
use Rattle.reader.specs.Machine.{node_in, SlotsHold}
use Rattle.drums.specs.declared.Drum.{Drum}
use Rattle.drums.specs.Drums.{IDLE, STALE, drum_slots, most_events, most_records, idle, nodes_held, stale, drum_judged}
use Rattle.drums.specs.Sound.{Sound}

-- the library's smaller number
pub smaller_is : (a b : ℕ) → min a b ≡ smaller a b
smaller_is a b = grind (arith, nat_tests)

-- what `all` says of a list that a test is made of, number by number
pub every_by : (good : ℕ → Bool) (cells : List ℕ) (r : Bool) (Yes No : ℕ → Type 0) {count : ℕ} → count ≡ length cells
    → ((i : ℕ) → i < count → Yes (get_or cells i 0) → good i ≡ true) → ((i : ℕ) → i < count → No (get_or cells i 0) → good i ≡ false)
    → MatchBool r (AllWithin Yes cells 0 (length cells)) ((k : ℕ) × (k < length cells) × HoldsAt No cells k)
    → r ≡ every good count
every_by good cells true Yes No {count} long if-yes if-no met =
    sym (every_good good count (λ i below. if-yes i below (met i 0 (omega arith) (omega (arith, long, below)))))
every_by good cells false Yes No {count} long if-yes if-no met =
    let (k, below, fails-here) = met in
    let within : k < count = omega (arith, long, below) in
    sym (fails _ (λ all. never (sym (if-no k within (fails-here 0)) ∙ every_is good count all k within)))

-- so many slots hold nodes
pub nodes_hold : {nodes held : ℕ} (slots : List ℕ) → held ≤ length slots → ((i : ℕ) → i < held → get_or slots i 0 < 4294967296)
    → nodes_held nodes slots held ≡ true → SlotsHold nodes (length slots) slots held
unfolding nodes_held
nodes_hold {nodes} {held} slots within wide all =
    record {
      long = refl;
      few = within;
      below = λ i under. ltb-true _ _ (every_is (λ j. ltb (node_in (get_or slots j 0)) nodes) held all i under);
      labels = λ i under. omega (arith, wide i under);
    }

module _ (d : Drum) where
  abbrev counts_zero : Bool
  counts_zero = eqb d.held 0 && eqb d.events 0 && eqb d.records 0 && eqb d.due 0

  -- not idle by a count
  pub idle_not : counts_zero ≡ false → false ≡ idle d
  unfolding idle
  idle_not e = rw e

  -- or by the slots
  pub idle_by : counts_zero ≡ true → {zero-slots : Bool} {size : ℕ} → size ≡ drum_slots
      → zero-slots ≡ every (λ i. eqb (get_or d.slots i 0) 0) size → zero-slots ≡ idle d
  unfolding idle
  idle_by e long slots = rw (e, ← long) slots

  -- a count is over its bound
  abbrev far : Bool
  far = ltb drum_slots d.held || ltb most_events d.events || ltb most_records d.records

  -- its counts are within their bounds
  pub near_counts : far ≡ false → (d.held ≤ drum_slots) × (d.events ≤ most_events) × (d.records ≤ most_records)
  near_counts e =
      let (front, records) = neither (ltb drum_slots d.held || ltb most_events d.events) _ e in
      let (held, events) = neither (ltb drum_slots d.held) _ front in
      (ltb-false _ _ held, ltb-false _ _ events, ltb-false _ _ records)
    where
      neither : (a b : Bool) → (a || b) ≡ false → (a ≡ false) × (b ≡ false)
      neither true b e = never (sym e)
      neither false b e = (refl, e)

  module _ (nodes : ℕ) where
    pub drum_idle : {test : Bool} → test ≡ idle d → test ≡ true → judged IDLE 0 ≡ drum_judged nodes d
    unfolding drum_judged
    drum_idle is yes-idle = rw (← is, yes-idle)

    module _ {test : Bool} (is : test ≡ idle d) (no-idle : test ≡ false) where
      pub drum_far : far ≡ true → judged STALE 0 ≡ drum_judged nodes d
      unfolding drum_judged stale
      drum_far e = rw (← is, no-idle, e)

      module _ (near : far ≡ false) {held : Bool} (hold : held ≡ nodes_held nodes d.slots d.held) where
        pub drum_astray : held ≡ false → judged STALE 0 ≡ drum_judged nodes d
        unfolding drum_judged stale
        drum_astray e = rw (← is, no-idle, near, ← hold, e)

        pub drum_done : held ≡ true → judged DONE 0 ≡ drum_judged nodes d
        unfolding drum_judged stale
        drum_done e = rw (← is, no-idle, near, ← hold, e)

    pub sound_by : far ≡ false → SlotsHold nodes (length d.slots) d.slots d.held → length d.slots ≡ drum_slots → Sound nodes d
    sound_by e h long =
        let (held, events, records) = near_counts e in
        record { parts = rw long at h; few_events = events; few_records = records }
