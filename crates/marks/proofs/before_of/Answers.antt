-- `marks::before_of` meets its contract.
use native.Mathlib.Omega.{arith}
use Rattle.marks.proofs.Laws.{front-before, front-within}
use Rattle.marks.proofs.before_of.Goals as goal

pub returns : goal.returns
returns c =
    let is = c.front_of-front.ensures in
    let found = c.behind.ensures in (
      front-before _ _ is found.0,
      omega
          (arith, front-within c.args.sheet.now c.args.place is found.0),
    )
