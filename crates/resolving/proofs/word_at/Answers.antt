-- `resolving::word_at` meets its contract.
use native.Mathlib.Omega.{arith}
use Rattle.resolving.proofs.Letters.{word_taken}
use Rattle.resolving.proofs.word_at.Goals as goal

pub returns : goal.returns
returns c = word_taken c.args.place c.min-from.ensures c.past.ensures (omega arith)
