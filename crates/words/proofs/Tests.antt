-- Tests that are joined by `&&` or `||`, and tests that cannot fail or cannot hold.
use mathlib.Core.Path.{◌≡◌, refl}
use mathlib.Core.Bool.{Bool, true, false, ◌&&◌, ◌||◌, false≢true}
use mathlib.Core.Logic.{◌⊎◌, inl, inr}

-- a test that fails does not hold
pub never {ℓ} : {A : Type ℓ} → false ≡ true → A
never e = absurd (false≢true e)

-- both of two joined tests hold
pub both : (a b : Bool) → (a && b) ≡ true → (a ≡ true) × (b ≡ true)
both true b e = (refl, e)
both false b e = never e

-- two tests that hold are joined
pub joined : (a b : Bool) → a ≡ true → b ≡ true → (a && b) ≡ true
joined a b p q = rw (p, q)

-- a test that cannot fail holds
pub holds : (test : Bool) → (test ≡ false → ⊥) → test ≡ true
holds true never = refl
holds false never = absurd (never refl)

-- a test that cannot hold fails
pub fails : (test : Bool) → (test ≡ true → ⊥) → test ≡ false
fails true never = absurd (never refl)
fails false never = refl

-- one of two tests holds
pub or_cases : (a b : Bool) → (a || b) ≡ true → (a ≡ true) ⊎ (b ≡ true)
or_cases true b e = inl refl
or_cases false b e = inr e

pub or_left : (a b : Bool) → a ≡ true → (a || b) ≡ true
or_left a b e = rw e

pub or_right : (a b : Bool) → b ≡ true → (a || b) ≡ true
or_right true b e = refl
or_right false b e = e
