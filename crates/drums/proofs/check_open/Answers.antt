-- `drums::check_open` meets its contract: the tests of the call, then those of the drum.
use mathlib.Core.Path.{refl, sym}
use Rattle.std.proofs.lemmas.Result.{err_from_is_err_and}
use Rattle.drums.proofs.Calls.{not_passed, past-kept, drum_kept, drum_on}
use Rattle.drums.proofs.check_open.Goals as goal

pub returns-in_err-judged : goal.returns-in_err-judged
returns-in_err-judged c =
    let p = err_from_is_err_and c.from_residual.result c.from_residual.ensures.1 in
    rw (p.1, p.2) (λ rest. past-kept (sym c.in_err-judged.ensures) _ _ (not_passed c.in_err-judged.field-0.0))

pub returns-in_err-check_drum : goal.returns-in_err-check_drum
returns-in_err-check_drum c =
    let p = err_from_is_err_and c.from_residual-in_err-check_drum.result c.from_residual-in_err-check_drum.ensures.1 in
    rw (p.1, p.2)
    (λ rest.
    drum_kept _ _ (sym c.in_ok-judged.ensures.1) refl refl _ (rw c.in_ok-judged.ensures.0 at (sym c.in_err-check_drum.ensures)) rest
    (not_passed c.in_err-check_drum.field-0.0))

pub returns : goal.returns
returns c = (
  c.in_ok-judged.ensures.0,
  c.in_ok-judged.ensures.2,
  rw c.in_ok-judged.ensures.0 at c.in_ok-check_drum.ensures.1,
  λ rest.
      drum_on _ _ (sym c.in_ok-judged.ensures.1) refl refl _ (rw c.in_ok-judged.ensures.0 at (sym c.in_ok-check_drum.ensures.0)) rest refl,
)
