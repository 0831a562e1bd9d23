-- An error that `?` hands on.
use mathlib.Core.Path.{◌≡◌}
use Rattle.std.specs.Prelude.{Result, MatchResult}
use Rattle.std.specs.Result.{IsErrAnd}
use Rattle.std.proofs.lemmas.Result.{err_from_is_err_and}

pub handed_on : {A E : Type 0} (r : Result A E) (Done : A → Type 0) (Wrong : E → Type 0) {e : E} → IsErrAnd r (λ x. x ≡ e) → Wrong e
    → MatchResult r Done Wrong
handed_on r Done Wrong is wrong = let p = err_from_is_err_and r is in rw (p.1, p.2) wrong
