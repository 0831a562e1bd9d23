-- `reader::close` meets its contract: the parts taken off come to an accepted run, or to END at the place.
use mathlib.Core.Path.{refl, ap}
use mathlib.Core.Bool.{true}
use native.Mathlib.Omega.{arith}
use Rattle.std.specs.declared.result.Result.TheVariants.{Ok, Err}
use Rattle.plan.specs.Form.{plan_of}
use Rattle.reader.specs.Machine.{After, after}
use Rattle.reader.specs.Results.{spot_of}
use Rattle.reader.proofs.Bars.{not_done}
use Rattle.reader.proofs.Bounds.{finish_few}
use Rattle.reader.proofs.RunUnderWay.{close_refused, close_done}
use Rattle.reader.proofs.close.Goals as goal

pub overflow_cast-finished : goal.overflow_cast-finished
overflow_cast-finished c =
    let a = c.args in
    omega (
      arith,
      finish_few (plan_of a.plan.now) a.standing.count a.standing.written a.held.now a.tree.now,
      ap (λ (s : After). s.spot.written) c.in-Ok.ensures,
      c.requires.0.few_records,
    )

pub returns-in-Ok : goal.returns-in-Ok
returns-in-Ok c =
    rw c.plain.ensures
    (close_done _ _ _ _ _ _ (after (spot_of true (Ok c.in-Ok.finished)) c.args.held.now c.finish.new.tree) c.in-Ok.ensures refl)

pub returns-in-Err : goal.returns-in-Err
returns-in-Err c =
    close_refused _ _ _ _ _ _ (after (spot_of true (Err c.in-Err.refused)) c.args.held.now c.finish.new.tree) c.in-Err.ensures
    (not_done c.in-Err.refused.refusal) (cc)
