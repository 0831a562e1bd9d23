-- `resolving::collect` meets its contract.
use Rattle.resolving.proofs.Words.{collecting_none, collecting_more, collecting_stops}
use Rattle.resolving.proofs.collect.Goals as goal

pub loop-raw-init : goal.loop-raw-init
loop-raw-init c = collecting_none _ _ _ _

pub returns-in_err-many-clause-told : goal.returns-in_err-many-clause-told
returns-in_err-many-clause-told c =
    rw c.from_residual.ensures (collecting_stops _ _ _ c.loop-raw.invariant _ c.loop-raw-test.true c.in_err-many.ensures.told)

pub loop-raw-preserved : goal.loop-raw-preserved
loop-raw-preserved c = collecting_more _ _ _ c.loop-raw.invariant _ c.loop-raw-test.true c.in_ok-many.ensures.told
