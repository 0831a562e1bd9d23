-- Weights are a measure of runs: what a run followed by another weighs, by the weights of both.
use Prim.Native.Nat.{ℕ, ◌+◌, ◌*◌, ◌/◌, ◌≤◌, ◌<◌}
use native.Mathlib.Omega.{arith}
use borrow.Author.Tests.{ltb-true, ltb-false, lt-ltb, le-ltb}
use mathlib.Core.Path.{◌≡◌, refl}
use mathlib.Core.Bool.{Bool, true, false, cond}
use mathlib.Core.List.{List, [], ◌∷◌, ◌++◌}
use lib.Dec.{ltb}
use lib.ListN.{length-append}
use Rattle.lengths.specs.Measures.{MeasureLaws, FittingLaws, fitting_laws}
use Rattle.weights.specs.Weight.{CAP, head_of, weight_of}
use Rattle.weights.specs.Falling.{token, joined}

pub joined_light : (one other : ℕ) → one < 64 → joined one other ≡ other
joined_light one other light = rw (lt-ltb one 64 light) refl

pub joined_heavy : (one other : ℕ) → 64 ≤ one → joined one other ≡ one + other / 64 * 64
joined_heavy one other heavy = rw (le-ltb one 64 heavy) refl

pub weight_append : (xs ys : List ℕ) → head_of ys < 64 → weight_of (xs ++ ys) ≡ joined (weight_of xs) (weight_of ys)
weight_append [] ys small = refl
weight_append (k ∷ xs) ys small =
    let heavy = joined_heavy (weight_of (k ∷ xs)) (weight_of ys) (omega arith) in
    omega (arith, heavy, length-append xs ys, small)

-- weights one after the other grow with each
pub joined_grows : (a b c d : ℕ) → a ≤ c → b ≤ d → joined a b ≤ joined c d
joined_grows a b c d one other = at (ltb a 64) refl (ltb c 64) refl
  where
    at : (s : Bool) → ltb a 64 ≡ s → (t : Bool) → ltb c 64 ≡ t → cond s b (a + b / 64 * 64) ≤ cond t d (c + d / 64 * 64)
    at true e true f = other
    at true e false f = omega (arith, ltb-false c 64 f, other)
    at false e true f = absurd (omega (arith, ltb-false a 64 e, ltb-true c 64 f, one))
    at false e false f = omega (arith, one, other)

-- what is joined below the cap is of weights below it
joined_below : (one other : ℕ) → joined one other < CAP → (one < CAP) × (other < CAP)
joined_below one other below = at (ltb one 64) refl
  where
    at : (light : Bool) → ltb one 64 ≡ light → (one < CAP) × (other < CAP)
    at true e =
        let light = ltb-true one 64 e in
        (omega (arith, light), omega (arith, joined_light one other light, below))
    at false e =
        let is = joined_heavy one other (ltb-false one 64 e) in
        (omega (arith, is, below), omega (arith, is, below))

-- the weight of a run is a measure of it
pub weight_laws : MeasureLaws CAP token joined weight_of
weight_laws = record {
  empty_is = refl;
  token_is = λ k. omega arith;
  joined_is = weight_append;
  grows = joined_grows;
  below = joined_below;
}

-- the same as a measure that says which kinds it can tell: those below 64
pub weight_fits : FittingLaws CAP token joined weight_of
weight_fits = fitting_laws weight_laws
