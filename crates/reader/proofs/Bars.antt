-- A refusal's number is not that of done, and what it tells and leaves.
use mathlib.Core.Path.{◌≡◌, refl}
use mathlib.Core.Logic.{◌⊎◌, inl, inr}
use mathlib.Core.Bool.{true, false}
use Prim.Native.Nat.{ℕ}
use native.Mathlib.Omega.{arith}
use Rattle.book.specs.Form.{DONE}
use Rattle.std.specs.Result.{IsOk}
use Rattle.std.specs.declared.result.Result.{Result}
use Rattle.std.specs.declared.result.Result.TheVariants.{Ok, Err}
use Rattle.running.specs.Running.{tells}
use Rattle.reader.specs.Results.{number_of, intact_at, stop_of}
use Rattle.reader.specs.declared.Standing.{Standing}
use Rattle.reader.specs.declared.Stopped.{Stopped}
use Rattle.reader.specs.declared.Refusal.{Refusal}
use Rattle.reader.specs.declared.Refusal.TheVariants.{Deep, Unknown, Unexpected, Zero, End, Runaway}

pub not_done : (r : Refusal) → number_of r ≡ DONE → ⊥
not_done Deep is = omega arith
not_done Unknown is = omega arith
not_done Unexpected is = omega arith
not_done Zero is = omega arith
not_done End is = omega arith
not_done Runaway is = omega arith

-- a run whose stop has the number of done has passed all events
pub passed_all : (size : ℕ) (r : Result Standing Stopped) → (stop_of size r).number ≡ DONE → IsOk r
passed_all size (Ok s) is = refl
passed_all size (Err e) is = absurd (not_done e.refusal is)

-- a refusal that no walk met leaves the slots as they were, and tells the stage
pub whole : (r : Refusal) → (r ≡ Deep → ⊥) → (r ≡ Zero → ⊥) → (r ≡ Runaway → ⊥)
    → (intact_at r ≡ true) × (tells (number_of r) ≡ true)
whole Deep deep zero runaway = absurd (deep refl)
whole Unknown deep zero runaway = (refl, refl)
whole Unexpected deep zero runaway = (refl, refl)
whole Zero deep zero runaway = absurd (zero refl)
whole End deep zero runaway = (refl, refl)
whole Runaway deep zero runaway = absurd (runaway refl)

-- a refusal that tells nothing
pub silent : (r : Refusal) → (r ≡ Deep) ⊎ (r ≡ Runaway) → tells (number_of r) ≡ false
silent r (inl is) = rw is refl
silent r (inr is) = rw is refl
