-- `drums::absent` meets its contract, by the plan's form.
use mathlib.Core.Path.{refl, sym}
use Rattle.drums.proofs.Calls.{not_done, absent_form, absent_none}
use Rattle.drums.proofs.absent.Goals as goal

pub returns-in-Ok : goal.returns-in-Ok
returns-in-Ok c = absent_none _ (sym c.in-Ok.ensures.1) refl c.from.ensures

pub returns-in-Err : goal.returns-in-Err
returns-in-Err c = absent_form _ (sym c.in-Err.ensures) (not_done c.in-Err.error) c.from-in-Err.ensures
