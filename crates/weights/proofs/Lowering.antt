-- Least measures where the measure is the weight, and least weights by those of the sides.
use Prim.Native.Nat.{ℕ, ◌≤◌, ◌<◌}
use native.Mathlib.Omega.{arith}
use native.Mathlib.Decide.{dec_lt}
use mathlib.Core.Path.{◌≡◌, subst}
use mathlib.Core.List.{List}
use lib.ListN.{replicate}
use Rattle.book.specs.declared.Node.{Node}
use Rattle.book.specs.declared.Node.TheVariants.{Fail}
use Rattle.lengths.specs.Falling.{measure_by, Some, NoMore, Leasts}
use Rattle.lengths.proofs.Kinded.{Kinded, kinded_fitting}
use Rattle.lengths.proofs.Lowering.{all_cap, all_cap_less, has_run, given_none_less}
use Rattle.weights.specs.Weight.{weight_of, CAP, weight_at, NoneLighter, Lightest, LightestCut, below_cap, at_cap, Weights}
use Rattle.weights.specs.Falling.{token, joined, weight_by, Fresh}
use Rattle.weights.specs.Laws.{weight_fits}

-- ---- tables

pub fresh_caps : (n : ℕ) → Fresh n (replicate n CAP)
fresh_caps n = all_cap CAP n

pub fresh_less : {less least : ℕ} {weights : List ℕ} → less ≤ least → Fresh least weights → Fresh less weights
fresh_less l fresh = all_cap_less l fresh

-- a table that has the least measures has the least weights
pub weights_are : {node : ℕ → Node} {weights : List ℕ} → Leasts CAP weight_of node weights → Weights node weights
weights_are {node} {weights} are = record { lightest_is = λ n. at n (dec_lt (weight_at weights n) CAP) }
  where
    at : (n : ℕ) → Dec (weight_at weights n < CAP) → LightestCut node (node n) (weight_at weights n)
    at n (yes below) =
        let own = are.some n below in
        below_cap below (record {
          run = own.run;
          derived = own.derived;
          weighs = omega (arith, own.small, are.none_less n own.run own.derived);
          none_lighter = are.none_less n;
        })
    at n (no cap) =
        let is : CAP ≡ weight_at weights n = omega (arith, are.capped n, cap) in
        subst (LightestCut node (node n)) is (at_cap (λ run d. omega (arith, are.none_less n run d, is)))

-- ---- the least weights by those of the sides

module _ {node : ℕ → Node} {weights : List ℕ} (are : Weights node weights) where
  pub weight_none_lighter : (n : ℕ) → NoneLighter node (node n) (weight_at weights n)
  weight_none_lighter n = none (are.lightest_is n)
    where
      none : {m : ℕ} → LightestCut node (node n) m → NoneLighter node (node n) m
      none (below_cap below least) = least.none_lighter
      none (at_cap capped) = capped

  pub weight_lightest : (n : ℕ) → weight_at weights n < CAP → Lightest node (node n) (weight_at weights n)
  weight_lightest n = some (are.lightest_is n)
    where
      some : {m : ℕ} → LightestCut node (node n) m → m < CAP → Lightest node (node n) m
      some (below_cap below least) inside = least
      some (at_cap capped) inside = absurd (omega arith)

  module _ {count : ℕ} (kinded : Kinded node) (beyond : (n : ℕ) → count ≤ n → node n ≡ Fail) where
    some : (n : ℕ) → weight_at weights n < CAP → Some weight_of node (node n) (weight_at weights n)
    some n below =
        let own = weight_lightest n below in
        record { run = own.run; derived = own.derived; small = omega (arith, own.weighs) }

    capped : (n : ℕ) → weight_at weights n ≤ CAP
    capped n = at (are.lightest_is n)
      where
        at : {m : ℕ} → LightestCut node (node n) m → m ≤ CAP
        at (below_cap below least) = omega arith
        at (at_cap none) = omega arith

    no_more : (n : ℕ) → NoMore CAP token joined node weights n
    no_more n = record { no_more = at (dec_lt (measure_by CAP token joined (node n) (weight_at weights)) CAP) }
      where
        at : Dec (measure_by CAP token joined (node n) (weight_at weights) < CAP)
            → weight_at weights n ≤ measure_by CAP token joined (node n) (weight_at weights)
        at (yes below) =
            let found = has_run weight_fits (kinded_fitting weight_fits node kinded) some (node n) (measure_by CAP token joined (node n) (weight_at weights)) (omega arith) below in
            omega (arith, weight_none_lighter n found.run found.derived, found.small)
        at (no cap) = omega (arith, capped n)

    -- a weight below the cap is what those of the sides give
    pub weight_by_sides : (n : ℕ) → weight_at weights n < CAP → weight_at weights n ≡ weight_by (node n) (weight_at weights)
    unfolding weight_by
    weight_by_sides n below =
        let own = weight_lightest n below in
        omega (
          arith,
          (no_more n).no_more,
          given_none_less weight_fits (kinded_fitting weight_fits node kinded) beyond (λ m inside. no_more m) own.derived,
          own.weighs,
        )
