-- `making::make` meets its contract.
use Rattle.making.proofs.Finishing.{make_done, make_refused}
use Rattle.making.proofs.make.Goals as goal

pub returns-in-Ok : goal.returns-in-Ok
returns-in-Ok c = make_done c.in-Ok.ensures _ c.hand.ensures

pub returns-in-Err : goal.returns-in-Err
returns-in-Err c = make_refused c.in-Err.ensures c.from-answer.ensures _ c.refuse.ensures
