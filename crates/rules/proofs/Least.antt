-- The least set of numbers that a step keeps is decided, where the step gives only numbers below a bound: marks are kept in a list, and
-- the step is taken until it marks nothing more. What is decided so computes.
use Prim.Native.Nat.{ℕ, zero, suc, ◌+◌, ◌≤◌, ◌<◌}
use native.Mathlib.Nat.{add-zero, add-suc, suc-add, zero-add}
use native.Mathlib.Omega.{arith}
use native.Mathlib.Decide.{ℕ_discrete, dec_lt}
use mathlib.Core.Path.{◌≡◌, refl, sym, ap, ◌∙◌}
use mathlib.Core.Bool.{Bool, true, false, cond, ◌||◌}
use mathlib.Core.List.{List, [], ◌∷◌}
use mathlib.Core.Logic.{◌↔◌, ◌⊎◌, inl, inr, ⊎_elim}
use lib.ListN.{get_or}
use Rattle.words.proofs.Tests.{never, or_cases, or_left, or_right}

-- a test that says of each number whether something holds
pub record Decided (Of : ℕ → Type 0) : Type 0 where
  pub test : ℕ → Bool
  pub test_is : (i : ℕ) → (test i ≡ true) ↔ Of i

-- what a step does for a set of numbers below a bound: it gives only what is in the set, all below the bound, and a test that keeps what
-- the step gives has all of the set
pub record Ruled (Of : ℕ → Type 0) (bound : ℕ) (step : (ℕ → Bool) → ℕ → Bool) : Type 0 where
  pub sound : (t : ℕ → Bool) → ((i : ℕ) → t i ≡ true → Of i) → (i : ℕ) → step t i ≡ true → Of i
  pub within : (t : ℕ → Bool) (i : ℕ) → step t i ≡ true → i < bound
  pub complete : (t : ℕ → Bool) → ((i : ℕ) → step t i ≡ true → t i ≡ true) → (i : ℕ) → Of i → t i ≡ true

-- ---- lists of marks

-- whether a list marks a number
abbrev pub marked : List Bool → ℕ → Bool
marked marks i = get_or marks i false

-- the marks that a test gives so many numbers from one on
unfoldable pub filled : (ℕ → Bool) → ℕ → ℕ → List Bool
filled t zero n = []
filled t (suc left) n = t n ∷ filled t left (suc n)

module _ (t : ℕ → Bool) where
  filled_at : (left n i : ℕ) → i < left → marked (filled t left n) i ≡ t (n + i)
  unfolding filled
  filled_at zero n i below = absurd (omega arith)
  filled_at (suc left) n zero below = ap t (sym (add-zero n))
  filled_at (suc left) n (suc i) below = filled_at left (suc n) i (omega arith) ∙ ap t (suc-add n i ∙ sym (add-suc n i))

  filled_beyond : (left n i : ℕ) → left ≤ i → marked (filled t left n) i ≡ false
  unfolding filled
  filled_beyond zero n i beyond = refl
  filled_beyond (suc left) n zero beyond = absurd (omega arith)
  filled_beyond (suc left) n (suc i) beyond = filled_beyond left (suc n) i (omega arith)

  -- below the bound the marks are the test
  filled_is : (bound i : ℕ) → i < bound → marked (filled t bound 0) i ≡ t i
  filled_is bound i below = filled_at bound 0 i below ∙ ap t (zero-add i)

  -- what is marked passes the test
  filled_sound : (bound i : ℕ) → marked (filled t bound 0) i ≡ true → t i ≡ true
  filled_sound bound i e =
      elim (dec_lt i bound) [
        | yes below ↦ sym (filled_is bound i below) ∙ e
        | no beyond ↦ never (sym (filled_beyond bound 0 i (omega arith)) ∙ e)
      ]

-- how many numbers below a bound a test holds of
unfoldable pub size : (ℕ → Bool) → ℕ → ℕ
size t zero = 0
size t (suc n) = cond (t n) 1 0 + size t n

one_kept : (a b : Bool) → (a ≡ true → b ≡ true) → cond a 1 0 ≤ cond b 1 0
one_kept true b keeps = rw (keeps refl) (omega arith)
one_kept false b keeps = omega arith

module _ (t u : ℕ → Bool) where
  size-kept : (n : ℕ) → ((i : ℕ) → i < n → t i ≡ true → u i ≡ true) → size t n ≤ size u n
  unfolding size
  size-kept zero keeps = omega arith
  size-kept (suc n) keeps = omega (arith, one_kept (t n) (u n) (keeps n (omega arith)), size-kept n (λ i below. keeps i (omega arith)))

  pub size_more : (n i : ℕ) → ((i : ℕ) → i < n → t i ≡ true → u i ≡ true) → i < n → t i ≡ false → u i ≡ true → size t n < size u n
  unfolding size
  size_more zero i keeps below no-t yes-u = absurd (omega arith)
  size_more (suc n) i keeps below no-t yes-u =
      at (ℕ_discrete i n) (size-kept n (λ j inside. keeps j (omega arith)))
      (λ inside. size_more n i (λ j lower. keeps j (omega arith)) inside no-t yes-u)
    where
      at : Dec (i ≡ n) → size t n ≤ size u n → (i < n → size t n < size u n) → size t (suc n) < size u (suc n)
      at (yes e) kept lower = omega (arith, kept, ap (λ b. cond {A = ℕ} b 1 0) (rw e at no-t), ap (λ b. cond {A = ℕ} b 1 0) (rw e at yes-u))
      at (no f) kept lower = omega (arith, one_kept (t n) (u n) (keeps n (omega arith)), lower (omega arith))

pub size_bound : (t : ℕ → Bool) (n : ℕ) → size t n ≤ n
unfolding size
size_bound t zero = omega arith
size_bound t (suc n) = omega (arith, one_kept (t n) true (λ e. refl), size_bound t n)

-- ---- turns

-- a number below a bound that is in one test and not in another, or none
pub data Differ (s t : ℕ → Bool) (n : ℕ) : Type 0 where
  none : ((i : ℕ) → i < n → s i ≡ true → t i ≡ true) → Differ s t n
  some : (i : ℕ) → i < n → s i ≡ true → t i ≡ false → Differ s t n

unfoldable pub kept_or : (a b : Bool) → (a ≡ true → b ≡ true) ⊎ ((a ≡ true) × (b ≡ false))
kept_or false b = inl never
kept_or true true = inl (λ e. refl)
kept_or true false = inr (refl, refl)

unfoldable pub differ : (s t : ℕ → Bool) (n : ℕ) → Differ s t n
differ s t zero = none (λ i below. absurd (omega arith))
differ s t (suc n) = more (differ s t n)
  where
    more : Differ s t n → Differ s t (suc n)
    more (some i below in-s out-t) = some i (omega arith) in-s out-t
    more (none all) = ⊎_elim (λ kept. none (λ i below. at kept i below (ℕ_discrete i n))) (λ h. some n (omega arith) h.0 h.1) (kept_or (s n) (t n))
      where
        at : (s n ≡ true → t n ≡ true) → (i : ℕ) → i < suc n → Dec (i ≡ n) → s i ≡ true → t i ≡ true
        at kept i below (yes e) = rw e kept
        at kept i below (no f) = all i (omega arith)

module _ {Of : ℕ → Type 0} {bound : ℕ} {step : (ℕ → Bool) → ℕ → Bool} (ruled : Ruled Of bound step) where
  -- one turn: what is marked, and what the step gives by it
  unfoldable pub turned : List Bool → List Bool
  turned marks = filled (λ i. marked marks i || step (marked marks) i) bound 0

  module _ (marks : List Bool) (sound : (i : ℕ) → marked marks i ≡ true → Of i) where
    pub turned_sound : (i : ℕ) → marked (turned marks) i ≡ true → Of i
    unfolding turned
    turned_sound i e =
        ⊎_elim (sound i) (ruled.sound (marked marks) sound i) (or_cases _ _ (filled_sound (λ i. marked marks i || step (marked marks) i) bound i e))

    pub turned_keeps : (i : ℕ) → i < bound → (marked marks i || step (marked marks) i) ≡ true → marked (turned marks) i ≡ true
    unfolding turned
    turned_keeps i below e = filled_is (λ i. marked marks i || step (marked marks) i) bound i below ∙ e

    unfoldable pub settled : (size (marked marks) bound < size (marked (turned marks)) bound → Decided Of)
        → Differ (step (marked marks)) (marked marks) bound → Decided Of
    settled more (none kept) =
        record {
          test = marked marks;
          test_is = λ i. (sound i, ruled.complete (marked marks) (λ j e. kept j (ruled.within (marked marks) j e) e) i);
        }
    settled more (some i below given new) =
        more (size_more (marked marks) (marked (turned marks)) bound i (λ j inside e. turned_keeps j inside (or_left _ _ e)) below new
        (turned_keeps i below (or_right (marked marks i) _ given)))

  unfoldable pub settle : (left : ℕ) (marks : List Bool) → ((i : ℕ) → marked marks i ≡ true → Of i) → bound ≤ size (marked marks) bound + left
      → Decided Of
  settle zero marks sound enough =
      settled marks sound (λ grew. absurd (omega (arith, size_bound (marked (turned marks)) bound)))
      (differ (step (marked marks)) (marked marks) bound)
  settle (suc left) marks sound enough =
      settled marks sound (λ grew. settle left (turned marks) (turned_sound marks sound) (omega arith))
      (differ (step (marked marks)) (marked marks) bound)

  -- the least set that the step keeps is decided
  unfoldable pub decided : Decided Of
  decided = settle bound [] (λ i e. never e) (omega arith)
