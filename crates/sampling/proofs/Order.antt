-- Laws of the order of runs: it is kept by runs one after the other, it has one least run, and a lighter run comes before.
use Prim.Native.Nat.{ℕ, ◌≤◌, ◌<◌}
use native.Mathlib.Omega.{arith}
use mathlib.Core.Path.{◌≡◌, refl, ap}
use mathlib.Core.List.{List, [], ◌∷◌, ◌++◌}
use lib.ListN.{length, length-append}
use Rattle.weights.specs.Weight.{head_of, weight_of}
use Rattle.sampling.specs.Sample.{NoHigher, ends, same, lower}

pub no_higher_head : {xs ys : List ℕ} → NoHigher xs ys → head_of xs ≤ head_of ys
no_higher_head ends = omega arith
no_higher_head (same h) = omega arith
no_higher_head (lower l) = omega arith

pub no_higher_append : {xs ys : List ℕ} (us vs : List ℕ) → NoHigher xs ys → NoHigher us vs → NoHigher (xs ++ us) (ys ++ vs)
no_higher_append us vs ends g = g
no_higher_append us vs (same h) g = same (no_higher_append us vs h g)
no_higher_append us vs (lower l) g = lower l

-- two runs of which neither is higher are the same
pub no_higher_both : {xs ys : List ℕ} → NoHigher xs ys → NoHigher ys xs → xs ≡ ys
no_higher_both ends g = refl
no_higher_both (same {k = k} h) g = ap (λ (zs : List ℕ). k ∷ zs) (no_higher_both h (tail g (omega arith)))
  where
    tail : {j k : ℕ} {xs ys : List ℕ} → NoHigher (j ∷ xs) (k ∷ ys) → k ≤ j → NoHigher xs ys
    tail (same h) few = h
    tail (lower l) few = absurd (omega arith)
no_higher_both (lower l) g = absurd (omega (arith, back g, l))
  where
    back : {j k : ℕ} {xs ys : List ℕ} → NoHigher (k ∷ ys) (j ∷ xs) → k ≤ j
    back (same h) = omega arith
    back (lower m) = omega arith

-- runs of one length with different first kinds
pub lower_head : (xs ys : List ℕ) → length ys ≡ length xs → head_of xs < head_of ys → NoHigher xs ys
lower_head [] ys alike less = absurd (omega (arith, none ys alike))
  where
    none : (ys : List ℕ) → length ys ≡ 0 → head_of ys ≡ 0
    none [] e = refl
    none (y ∷ ys) e = absurd (omega arith)
lower_head (x ∷ xs) [] alike less = absurd (omega arith)
lower_head (x ∷ xs) (y ∷ ys) alike less = lower less

-- one run comes before another: it is shorter, or as long and no higher
pub record Before (run other : List ℕ) : Type 0 where
  pub shorter : length run ≤ length other
  pub lowers : length other ≡ length run → NoHigher run other

-- a lighter run comes before
pub lighter_before : (run other : List ℕ) → head_of run < 64 → head_of other < 64 → weight_of run < weight_of other → Before run other
lighter_before run other small low less = record {
  shorter = omega (arith, small, low, less);
  lowers = λ alike. lower_head run other alike (omega (arith, alike, less));
}

pub before-append : {xs ys us vs : List ℕ} → Before xs us → Before ys vs → Before (xs ++ ys) (us ++ vs)
before-append {xs} {ys} {us} {vs} p q = record {
  shorter = omega (arith, length-append xs ys, length-append us vs, p.shorter, q.shorter);
  lowers = λ alike.
      no_higher_append ys vs
      (p.lowers (omega (arith, length-append xs ys, length-append us vs, p.shorter, q.shorter, alike)))
      (q.lowers (omega (arith, length-append xs ys, length-append us vs, p.shorter, q.shorter, alike)));
}

-- nothing comes before the empty run
pub empty_before : (other : List ℕ) → Before [] other
empty_before other = record { shorter = omega arith; lowers = lowers other }
  where
    lowers : (other : List ℕ) → length other ≡ 0 → NoHigher [] other
    lowers [] e = ends
    lowers (k ∷ other) e = absurd (omega arith)
