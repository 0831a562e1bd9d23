-- `profile::held_within` meets its contract: each way out is a row of the table of answers.
use mathlib.Core.Logic.{inl, inr, ⊎_elim}
use native.Mathlib.Omega.{arith}
use Rattle.profile.specs.Profiles.{no_profile, deeper, fits}
use Rattle.profile.proofs.Rows.{profile_refused}
use Rattle.profile.proofs.held_within.Goals as goal

pub returns-then-slots-lt1 : goal.returns-then-slots-lt1
returns-then-slots-lt1 c = no_profile (⊎_elim (λ few. inl few) (λ many. inr many.1) c.then-slots-lt1.either)

pub returns-in_err-held : goal.returns-in_err-held
returns-in_err-held c =
    profile_refused _ _ c.in_err-held.field-0.0 c.from_residual.ensures.1 (omega arith) (omega arith) c.in_err-held.ensures

pub returns-then-slots-held : goal.returns-then-slots-held
returns-then-slots-held c = deeper (omega arith) (omega arith) c.in_ok-held.ensures c.if-slots-held.true

pub returns : goal.returns
returns c = fits (omega arith) (omega arith) c.in_ok-held.ensures c.if-slots-held.false
