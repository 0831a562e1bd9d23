-- A table's numbers, four a node: how many they are, what stands in them for a node, what a write of a node's facts sets, and a fresh
-- table's.
use Prim.Native.Nat.{ℕ, zero, suc, ◌+◌, ◌*◌, ◌/◌, ◌%◌, ◌^◌, ◌≤◌, ◌<◌}
use mathlib.Core.Path.{◌≡◌, refl, sym, ap, ◌∙◌}
use mathlib.Core.Bool.{Bool, true, false, not, ◌&&◌, ◌||◌}
use mathlib.Core.List.{List, [], ◌∷◌}
use mathlib.Core.Logic.{◌≢◌}
use native.Mathlib.Nat.{add-zero}
use Rattle.std.specs.Prelude.{eqb}
use native.Mathlib.Omega.{arith}
use lib.ListN.{length, get_or, set, replicate}
use lib.Seq.{get_or-set_same, get_or-set_other}
use native.Mathlib.Decide.{ℕ_discrete}
use Rattle.kinds.specs.Kinds.{joined}
use Rattle.rules.specs.declared.NodeFacts.{NodeFacts}
use Rattle.rules.specs.Facts.{flat, facts_at}
use Rattle.rules.specs.Growth.{Narrow, Blank, Joined}
use Rattle.rules.specs.Step.{fact_of, joined_facts, NarrowFacts, Given, PutAt}
use Rattle.rules.proofs.Growing.{blank-zeros, blank_less}
use Rattle.rules.proofs.Steps.{facts_put}

-- what is read beyond a table
abbrev pub nothing_known : NodeFacts
nothing_known = record { productive = 0; nullable = 0; first = 0; snf = 0 }

pub flat_length : (table : List NodeFacts) → length (flat table) ≡ 4 * length table
unfolding flat
flat_length [] = refl
flat_length (facts ∷ more) = omega (arith, flat_length more)

-- tables are as long as their numbers are
pub flat_longer : (before after : List NodeFacts) → length (flat after) ≡ length (flat before) → length after ≡ length before
flat_longer before after same = omega (arith, same, flat_length before, flat_length after)

-- four numbers on
four_on : (n : ℕ) → 4 * suc n ≡ suc (suc (suc (suc (4 * n))))
four_on n = omega arith

four_before : (at j : ℕ) → suc (suc (suc (suc at))) + j ≡ suc (suc (suc (suc (at + j))))
four_before at j = omega arith

-- what stands in the numbers for a node is the table's record of it
pub flat_at : (table : List NodeFacts) (n : ℕ) → facts_at (flat table) n ≡ get_or table n nothing_known
unfolding flat
flat_at [] n = refl
flat_at (facts ∷ more) zero = refl
flat_at (facts ∷ more) (suc n) = rw (four_on n, four_before (4 * n) 1, four_before (4 * n) 2, four_before (4 * n) 3) (flat_at more n)

-- a write of a node's facts sets its four numbers
pub flat_set : (table : List NodeFacts) (n : ℕ) (facts : NodeFacts)
    → flat (set table n facts)
    ≡ set (set (set (set (flat table) (4 * n) facts.productive) (4 * n + 1) facts.nullable) (4 * n + 2) facts.first) (4 * n + 3) facts.snf
unfolding flat
flat_set [] n facts = refl
flat_set (old ∷ more) zero facts = refl
flat_set (old ∷ more) (suc n) facts =
    rw (four_on n, four_before (4 * n) 1, four_before (4 * n) 2, four_before (4 * n) 3)
    (ap (λ (list : List ℕ). old.productive ∷ old.nullable ∷ old.first ∷ old.snf ∷ list) (flat_set more n facts))

-- the numbers for a node are its four facts
flat_each : (table : List NodeFacts) (n j : ℕ) → j < 4 → get_or (flat table) (4 * n + j) 0 ≡ fact_of (get_or table n nothing_known) j
flat_each table n zero below = rw add-zero (ap (λ (facts : NodeFacts). facts.productive) (flat_at table n))
flat_each table n (suc zero) below = ap (λ (facts : NodeFacts). facts.nullable) (flat_at table n)
flat_each table n (suc (suc zero)) below = ap (λ (facts : NodeFacts). facts.first) (flat_at table n)
flat_each table n (suc (suc (suc zero))) below = ap (λ (facts : NodeFacts). facts.snf) (flat_at table n)
flat_each table n (suc (suc (suc (suc more)))) below = absurd (omega arith)

-- the numbers of a table are its nodes' facts
pub flat_fact : (table : List NodeFacts) (i : ℕ) → get_or (flat table) i 0 ≡ fact_of (get_or table (i / 4) nothing_known) (i % 4)
flat_fact table i = rw (sym place) at (flat_each table (i / 4) (i % 4) (omega arith))
  where
    place : i ≡ 4 * (i / 4) + i % 4
    place = omega arith

-- the numbers of a table are narrow where its nodes' facts are
pub narrow_facts : (facts : NodeFacts) → facts.productive < 2 ^ 64 → facts.nullable < 2 ^ 64 → facts.first < 2 ^ 64 → facts.snf < 2 ^ 64
    → NarrowFacts facts
narrow_facts facts productive nullable first snf zero = productive
narrow_facts facts productive nullable first snf (suc zero) = nullable
narrow_facts facts productive nullable first snf (suc (suc zero)) = first
narrow_facts facts productive nullable first snf (suc (suc (suc more))) = snf

-- and stay so where narrow facts are written
pub flat_narrow : (table : List NodeFacts) (n : ℕ) (facts : NodeFacts) → n < length table → NarrowFacts facts → Narrow (flat table)
    → Narrow (flat (set table n facts))
flat_narrow table n facts inside narrow before i = rw (flat_fact (set table n facts) i) (at (ℕ_discrete (i / 4) n))
  where
    at : Dec (i / 4 ≡ n) → fact_of (get_or (set table n facts) (i / 4) nothing_known) (i % 4) < 2 ^ 64
    at (yes same) = rw (same, get_or-set_same table n facts nothing_known inside) (narrow (i % 4))
    at (no other) = rw (get_or-set_other table n (i / 4) facts nothing_known other, ← flat_fact table i) (before i)

-- a blank list is narrow
pub blank_narrow : {least : ℕ} {sets : List ℕ} → Blank least sets → Narrow sets
blank_narrow blank i = rw (blank.zeros i) (omega arith)

-- the numbers of a fresh table are zeros
pub flat_none : (count : ℕ) → flat (replicate count nothing_known) ≡ replicate (4 * count) 0
unfolding flat
flat_none zero = refl
flat_none (suc count) =
    rw (four_on count) (ap (λ (list : List ℕ). 0 ∷ 0 ∷ 0 ∷ 0 ∷ list) (flat_none count))

-- a fresh table is blank
pub flat_blank : (count : ℕ) → Blank (4 * count) (flat (replicate count nothing_known))
flat_blank count = rw (flat_none count) (blank-zeros (4 * count))

-- and to fewer nodes
pub flat_fresh : {count : ℕ} (room : ℕ) → count ≤ room → Blank (4 * count) (flat (replicate room nothing_known))
flat_fresh room enough = blank_less (omega (arith, enough)) (flat_blank room)

-- a blank table has room for the nodes
pub flat_room : {count : ℕ} (table : List NodeFacts) → Blank (4 * count) (flat table) → count ≤ length table
flat_room table blank = omega (arith, blank.long, flat_length table)

-- ---- a node's facts joined with more

-- four numbers are the same unless one of them differs
not_all : (a b c d : Bool) → not (a && (b && (c && d))) ≡ (not a || not b || not c || not d)
not_all true true true true = refl
not_all true true true false = refl
not_all true true false true = refl
not_all true true false false = refl
not_all true false true true = refl
not_all true false true false = refl
not_all true false false true = refl
not_all true false false false = refl
not_all false b c d = refl

-- a number is written where it is joined with more
joined_at : {before : List ℕ} {i more old new : ℕ} → get_or before i 0 ≡ old → new ≡ joined old more
    → Joined before (set before i new) i more (not (eqb new old))
joined_at {before} {i} was is = record { sets = ap (set before i) (rw was is); changed_is = rw (was, is) refl }

module _ (table : List NodeFacts) (n : ℕ) (new : NodeFacts) where
  abbrev one : List ℕ
  one = set (flat table) (4 * n) new.productive

  abbrev two : List ℕ
  two = set one (4 * n + 1) new.nullable

  abbrev three : List ℕ
  three = set two (4 * n + 2) new.first

  abbrev four : List ℕ
  four = set three (4 * n + 3) new.snf

  -- a place that was not written is as it was
  at_one : (m : ℕ) → m ≢ 4 * n → get_or one m 0 ≡ get_or (flat table) m 0
  at_one m differ = get_or-set_other (flat table) (4 * n) m _ 0 differ

  at_two : (m : ℕ) → m ≢ 4 * n → m ≢ 4 * n + 1 → get_or two m 0 ≡ get_or (flat table) m 0
  at_two m differ other = get_or-set_other one (4 * n + 1) m _ 0 other ∙ at_one m differ

  at_three : (m : ℕ) → m ≢ 4 * n → m ≢ 4 * n + 1 → m ≢ 4 * n + 2 → get_or three m 0 ≡ get_or (flat table) m 0
  at_three m differ other last = get_or-set_other two (4 * n + 2) m _ 0 last ∙ at_two m differ other

  abbrev old : NodeFacts
  old = get_or table n nothing_known

  module _ (more : NodeFacts) (is : new ≡ joined_facts old more) where
    productive_was : get_or (flat table) (4 * n) 0 ≡ old.productive
    productive_was = ap (λ (facts : NodeFacts). facts.productive) (flat_at table n)

    nullable_was : get_or one (4 * n + 1) 0 ≡ old.nullable
    nullable_was = at_one (4 * n + 1) (λ same. omega arith) ∙ ap (λ (facts : NodeFacts). facts.nullable) (flat_at table n)

    first_was : get_or two (4 * n + 2) 0 ≡ old.first
    first_was =
        at_two (4 * n + 2) (λ same. omega arith) (λ same. omega arith) ∙ ap (λ (facts : NodeFacts). facts.first) (flat_at table n)

    snf_was : get_or three (4 * n + 3) 0 ≡ old.snf
    snf_was =
        at_three (4 * n + 3) (λ same. omega arith) (λ same. omega arith) (λ same. omega arith)
        ∙ ap (λ (facts : NodeFacts). facts.snf) (flat_at table n)

    -- the four facts joined are put there
    pub record_put : {changed : Bool} → n < length table
        → changed ≡ not (eqb new.productive old.productive
        && (eqb new.nullable old.nullable && (eqb new.first old.first && eqb new.snf old.snf)))
        → PutAt (Given n more) more n (flat table) (flat (set table n new)) changed
    record_put inside differs =
        rw (
          flat_set table n new,
          differs,
          not_all (eqb new.productive old.productive) (eqb new.nullable old.nullable) (eqb new.first old.first) (eqb new.snf old.snf),
        )
        (facts_put (omega (arith, inside, flat_length table))
        (joined_at productive_was (ap (λ (facts : NodeFacts). facts.productive) is))
        (joined_at nullable_was (ap (λ (facts : NodeFacts). facts.nullable) is))
        (joined_at first_was (ap (λ (facts : NodeFacts). facts.first) is))
        (joined_at snf_was (ap (λ (facts : NodeFacts). facts.snf) is)))
