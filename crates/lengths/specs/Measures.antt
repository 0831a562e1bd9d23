-- What a measure of runs has to meet, for the least measures of the runs that nodes derive to be found by their sides.
use Rattle.std.specs.Prelude.{ℕ, ◌+◌, ◌≤◌, ◌<◌, ◌≡◌, Bool, true, List, [], ◌∷◌, ◌++◌, ltb, length, get_or, refl}
use native.Mathlib.Omega.{arith}
use borrow.Author.Tests.{ltb-true, lt-ltb}
use lib.ListN.{length-append}

-- a measure of runs, by what a run of one kind measures and what one run followed by another does, where it is cut
pub record MeasureLaws (cap : ℕ) (token : ℕ → ℕ) (joined : ℕ → ℕ → ℕ) (size : List ℕ → ℕ) : Type 0 where
  -- the empty run measures nothing, and a run of one kind what its kind does
  pub empty_is : size [] ≡ 0
  pub token_is : (k : ℕ) → size (k ∷ []) ≡ token k
  -- a run followed by another, of a kind below 64 at its head, measures what the two come to
  pub joined_is : (xs ys : List ℕ) → get_or ys 0 0 < 64 → size (xs ++ ys) ≡ joined (size xs) (size ys)
  -- which grows with both, and is below the cap only where both are
  pub grows : (a b c d : ℕ) → a ≤ c → b ≤ d → joined a b ≤ joined c d
  pub below : (a b : ℕ) → joined a b < cap → (a < cap) × (b < cap)

-- the same of a measure that says which kinds it can tell
pub record FittingLaws (cap : ℕ) (token : ℕ → ℕ) (joined : ℕ → ℕ → ℕ) (size : List ℕ → ℕ) : Type 0 where
  -- the empty run measures nothing, and a run of one kind what its kind does
  pub empty_is : size [] ≡ 0
  pub token_is : (k : ℕ) → size (k ∷ []) ≡ token k
  -- the kinds that it can tell at the head of a run: all below 64, and it may be more
  pub fits : ℕ → Bool
  pub kinds_fit : (k : ℕ) → k < 64 → fits k ≡ true
  -- a run followed by another, of such a kind at its head, measures what the two come to
  pub joined_is : (xs ys : List ℕ) → fits (get_or ys 0 0) ≡ true → size (xs ++ ys) ≡ joined (size xs) (size ys)
  -- which grows with both, and is below the cap only where both are
  pub grows : (a b c d : ℕ) → a ≤ c → b ≤ d → joined a b ≤ joined c d
  pub below : (a b : ℕ) → joined a b < cap → (a < cap) × (b < cap)

-- every measure can tell the kinds below 64
unfoldable pub fitting_laws : {cap : ℕ} {token : ℕ → ℕ} {joined : ℕ → ℕ → ℕ} {size : List ℕ → ℕ}
    → MeasureLaws cap token joined size → FittingLaws cap token joined size
fitting_laws laws = record {
  empty_is = laws.empty_is;
  token_is = laws.token_is;
  fits = λ k. ltb k 64;
  kinds_fit = λ k below. lt-ltb k 64 below;
  joined_is = λ xs ys fits. laws.joined_is xs ys (ltb-true (get_or ys 0 0) 64 fits);
  grows = laws.grows;
  below = laws.below;
}

-- the length of a run, cut at 65,536
pub length_laws : MeasureLaws 65536 (λ kind. 1) (λ one other. one + other) length
length_laws = record {
  empty_is = refl;
  token_is = λ k. refl;
  joined_is = λ xs ys kind. length-append xs ys;
  grows = λ a b c d one other. omega (arith, one, other);
  below = λ a b under. (omega (arith, under), omega (arith, under));
}

-- the length of a run, cut at 65,536, whatever its kinds
unfoldable pub length_fits : FittingLaws 65536 (λ kind. 1) (λ one other. one + other) length
length_fits = record {
  empty_is = refl;
  token_is = λ k. refl;
  fits = λ k. true;
  kinds_fit = λ k below. refl;
  joined_is = λ xs ys kind. length-append xs ys;
  grows = λ a b c d one other. omega (arith, one, other);
  below = λ a b under. (omega (arith, under), omega (arith, under));
}
