-- Laws of least lengths that are cut: no run is shorter, there is one number only, and a length that is cut can be cut again lower.
use Prim.Native.Nat.{ℕ, ◌≤◌, ◌<◌}
use native.Mathlib.Omega.{arith}
use borrow.Author.Tests.{ltb-true, ltb-false}
use mathlib.Core.Path.{◌≡◌, refl}
use mathlib.Core.Bool.{Bool, true, false, cond}
use mathlib.Core.Logic.{◌⊎◌, inl, inr}
use lib.Dec.{ltb}
use Rattle.book.specs.declared.Node.{Node}
use Rattle.lengths.specs.Least.{NoneShorter, LeastCut, below_cap, at_cap}
use Rattle.lengths.specs.Falling.{smaller}

-- ---- the smaller of two numbers

pub smaller-left : (a b : ℕ) → smaller a b ≤ a
smaller-left a b = at (ltb a b) refl
  where
    at : (t : Bool) → ltb a b ≡ t → cond t a b ≤ a
    at true e = omega arith
    at false e = ltb-false a b e

pub smaller_right : (a b : ℕ) → smaller a b ≤ b
smaller_right a b = at (ltb a b) refl
  where
    at : (t : Bool) → ltb a b ≡ t → cond t a b ≤ b
    at true e = omega (arith, ltb-true a b e)
    at false e = omega arith

pub smaller_one : (a b : ℕ) → (smaller a b ≡ a) ⊎ (smaller a b ≡ b)
smaller_one a b = at (ltb a b)
  where
    at : (t : Bool) → (cond t a b ≡ a) ⊎ (cond t a b ≡ b)
    at true = inl refl
    at false = inr refl

-- ---- cut lengths

module _ {node : ℕ → Node} {at : Node} where
  pub cut_none_shorter : {cap m : ℕ} → LeastCut node at cap m → NoneShorter node at m
  cut_none_shorter (below_cap below least) = least.none_shorter
  cut_none_shorter (at_cap none) = none

  pub cut-within : {cap m : ℕ} → LeastCut node at cap m → m ≤ cap
  cut-within (below_cap below least) = omega arith
  cut-within (at_cap none) = omega arith

  pub least_cut_unique : {cap m n : ℕ} → LeastCut node at cap m → LeastCut node at cap n → m ≡ n
  least_cut_unique (below_cap below one) (below_cap low other) =
      let a = one.none_shorter other.run other.derived in
      let b = other.none_shorter one.run one.derived in
      omega (arith, a, b, one.long, other.long)
  least_cut_unique (below_cap below one) (at_cap none) = absurd (omega (arith, none one.run one.derived, one.long))
  least_cut_unique (at_cap none) (below_cap low other) = absurd (omega (arith, none other.run other.derived, other.long))
  least_cut_unique (at_cap none) (at_cap alike) = refl

  -- what is cut at a cap is cut at a lower one
  pub cut_lower : {cap m : ℕ} (low : ℕ) → low ≤ cap → LeastCut node at cap m → LeastCut node at low (smaller m low)
  cut_lower {cap} {m} low lower least = cases (ltb m low) refl
    where
      kept : {m : ℕ} → m < low → LeastCut node at cap m → LeastCut node at low m
      kept below (below_cap inside exact) = below_cap below exact
      kept below (at_cap none) = absurd (omega arith)

      cases : (t : Bool) → ltb m low ≡ t → LeastCut node at low (cond t m low)
      cases true e = kept (ltb-true m low e) least
      cases false e = at_cap (λ run d. omega (arith, cut_none_shorter least run d, ltb-false m low e))
