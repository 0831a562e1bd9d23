-- The first number at which a test fails: how a search for it goes on, and what its answer says.
use mathlib.Core.Path.{◌≡◌, refl, sym, ap, ◌∙◌}
use mathlib.Core.Bool.{Bool, true, false, cond}
use mathlib.Core.List.{List}
use Prim.Native.Nat.{ℕ, zero, suc, ◌+◌, ◌-◌, ◌≤◌, ◌<◌}
use native.Mathlib.Decide.{ℕ_discrete}
use native.Mathlib.Numerals.{add-one}
use native.Mathlib.Omega.{arith}
use borrow.Author.Tests.{leb-true, le-leb, lt-leb}
use lib.Dec.{leb}
use lib.ListN.{length, get_or}
use Rattle.std.specs.Bool.{MatchBool}
use Rattle.std.specs.List.{AllWithin, HoldsAt}
use Rattle.words.proofs.Tests.{never, fails}
use Rattle.words.specs.Lists.{first_bad, every}

module _ (good : ℕ → Bool) where
  -- a search that has come to n, of `count`, has so much left to do
  pub record Searched (count n : ℕ) : Type 0 where
    pub within : n ≤ count
    pub rest : first_bad good (count - n) n ≡ first_bad good count 0

  pub searched_none : (count : ℕ) → Searched count 0
  searched_none count = record { within = omega arith; rest = rw (sub_zero_is count) }
    where
      sub_zero_is : (m : ℕ) → m - 0 ≡ m
      sub_zero_is m = omega arith

  module _ {count n : ℕ} (s : Searched count n) where
    one_left : n < count → count - n ≡ suc (count - (n + 1))
    one_left below = omega arith

    pub searched_more : n < count → good n ≡ true → Searched count (n + 1)
    unfolding first_bad
    searched_more below yes-good =
        record {
          within = omega arith;
          rest = rw add-one (rw (one_left below, yes-good, add-one) at s.rest);
        }

    pub searched_bad : n < count → good n ≡ false → n ≡ first_bad good count 0
    unfolding first_bad
    searched_bad below not-Good = rw (one_left below, not-Good) at s.rest

    pub searched_all : count ≤ n → n ≡ first_bad good count 0
    unfolding first_bad
    searched_all past = rw (all_done) at s.rest
      where
        all_done : count - n ≡ 0
        all_done = omega arith

  -- where the search finds none, each number looked at is good
  first_good : (left n : ℕ) → n + left ≤ first_bad good left n → (m : ℕ) → n ≤ m → m < n + left → good m ≡ true
  unfolding first_bad
  first_good zero n past m from below = absurd (omega arith)
  first_good (suc left) n past m from below = go (good n) refl (λ p f b. first_good left (suc n) p m f b)
    where
      go : (b : Bool) → good n ≡ b → (suc n + left ≤ first_bad good left (suc n) → suc n ≤ m → m < suc n + left → good m ≡ true)
          → good m ≡ true
      go true is rest =
          let past_more : n + suc left ≤ first_bad good left (suc n) = rw is at past in
          elim (ℕ_discrete m n) [ yes same ↦ rw same is | no other ↦ rest (omega arith) (omega arith) (omega arith) ]
      go false is rest = let stopped : n + suc left ≤ n = rw is at past in absurd (omega arith)

  pub first_none : (count : ℕ) → count ≤ first_bad good count 0 → (n : ℕ) → n < count → good n ≡ true
  first_none count past n below = first_good count 0 (omega arith) n (omega arith) (omega arith)

  -- a search ends at its last number
  first_last : (left n : ℕ) → first_bad good left n ≤ n + left
  unfolding first_bad
  first_last zero n = omega arith
  first_last (suc left) n = go (good n) (first_last left (suc n))
    where
      go : (b : Bool) → first_bad good left (suc n) ≤ suc n + left → cond b (first_bad good left (suc n)) n ≤ n + suc left
      go true rest = omega arith
      go false rest = omega arith

  pub first_most : (count : ℕ) → first_bad good count 0 ≤ count
  first_most count = omega (arith, first_last count 0)

  -- where each number looked at is good, the search finds none
  none_found : (left n : ℕ) → ((m : ℕ) → n ≤ m → m < n + left → good m ≡ true) → first_bad good left n ≡ n + left
  unfolding first_bad
  none_found zero n each = omega arith
  none_found (suc left) n each =
      rw (each n (omega arith) (omega arith)) (none_found left (suc n) (λ m from below. each m (omega arith) (omega arith)) ∙ omega arith)

  pub first_past : (count : ℕ) → ((n : ℕ) → n < count → good n ≡ true) → first_bad good count 0 ≡ count
  first_past count each = none_found count 0 (λ m from below. each m (omega arith)) ∙ omega arith

  -- a search that finds a number stops before the count
  pub searched_within : {count n : ℕ} → Searched count n → n < count → good n ≡ false → every good count ≡ false
  unfolding every
  searched_within {count} {n} s below not-Good = rw (← searched_bad s below not-Good) (lt-leb count n below)

  -- a search that has come to the count finds none
  pub searched_every : {count n : ℕ} → Searched count n → count ≤ n → every good count ≡ true
  unfolding every
  searched_every {count} {n} s past = rw (← searched_all s past) (le-leb count n past)

  -- every number below a count passes the test
  pub every_is : (count : ℕ) → every good count ≡ true → (n : ℕ) → n < count → good n ≡ true
  unfolding every
  every_is count all = first_none count (leb-true _ _ all)

  pub every_good : (count : ℕ) → ((n : ℕ) → n < count → good n ≡ true) → every good count ≡ true
  unfolding every
  every_good count each = rw (first_past count each) (le-leb count count (omega arith))

-- tests that agree below a count find the same
module _ (good other : ℕ → Bool) where
  first_same : (left n : ℕ) → ((m : ℕ) → n ≤ m → m < n + left → good m ≡ other m) → first_bad good left n ≡ first_bad other left n
  unfolding first_bad
  first_same zero n agree = refl
  first_same (suc left) n agree =
      rw (agree n (omega arith) (omega arith), first_same left (suc n) (λ m from below. agree m (omega arith) (omega arith)))

  pub every-same : (count : ℕ) → ((n : ℕ) → n < count → good n ≡ other n) → every good count ≡ every other count
  unfolding every
  every-same count agree = ap (leb count) (first_same count 0 (λ m from below. agree m (omega arith)))

-- whether every element of a list passes, by what a look at each of them has shown
pub every_told : (good : ℕ → Bool) (xs : List ℕ) {test : Bool}
    → MatchBool test (AllWithin (λ x. good x ≡ true) xs 0 (length xs)) ((k : ℕ) × (k < length xs) × HoldsAt (λ x. good x ≡ false) xs k)
    → test ≡ every (λ i. good (get_or xs i 0)) (length xs)
every_told good xs {test = true} all = sym (every_good _ (length xs) (λ i below. all i 0 (omega arith) below))
every_told good xs {test = false} (k, below, bad) = sym (fails _ (λ all. never (sym (bad 0) ∙ every_is _ (length xs) all k below)))
