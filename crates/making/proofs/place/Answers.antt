-- `making::place` meets its contract.
use Rattle.making.proofs.Finishing.{place_done, place_refused}
use Rattle.making.proofs.place.Goals as goal

pub returns-in-Ok : goal.returns-in-Ok
returns-in-Ok c = place_done c.in-Ok.ensures _ c.place.ensures

pub returns-in-Err : goal.returns-in-Err
returns-in-Err c = place_refused c.in-Err.ensures c.from.ensures _
