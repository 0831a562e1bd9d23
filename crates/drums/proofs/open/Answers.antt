-- `drums::open` meets its contract: the test of the call, then the opening.
use mathlib.Core.Path.{refl, sym, ◌∙◌}
use Rattle.drums.specs.Drums.{open_of}
use Rattle.drums.proofs.Calls.{not_passed, past-kept, past_on}
use Rattle.drums.proofs.open.Goals as goal

pub returns : goal.returns
unfolding open_of
returns c =
    (rw c.in-Ok.ensures.0 at c.start.ensures) ∙ past_on (sym c.in-Ok.ensures.1) _ _ refl

pub returns-in-Err : goal.returns-in-Err
unfolding open_of
returns-in-Err c = c.keep.ensures ∙ past-kept (sym c.in-Err.ensures) _ _ (not_passed c.in-Err.error)
