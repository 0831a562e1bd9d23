-- `marks::Position::of` meets its contract: the position behind the bytes before the place.
use native.Mathlib.Omega.{arith}
use Rattle.marks.proofs.Laws.{front-position, front-within}
use Rattle.marks.proofs.Position.of.Goals as goal

pub returns : goal.returns
returns c = let is = c.front_of.ensures in
    let found = c.behind.ensures in
    let within = front-within c.args.sheet.now c.args.place is found.0 in
    (front-position _ _ is found.0, omega (arith, within, found.1), omega (arith, within, found.2))
