-- `spelling::is_empty` meets its contract: slices are the same as words are.
use native.Mathlib.Omega.{arith}
use Rattle.spelling.proofs.Words.{told_empty}
use Rattle.spelling.proofs.is_empty.Goals as goal

pub returns : goal.returns
returns c = told_empty c.args.s.now c.args.at c.args.end c.as_slice.ensures c.eq.ensures (omega arith)
