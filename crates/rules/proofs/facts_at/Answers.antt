-- `rules::facts_at` meets its contract: the facts of a node are four numbers of the flat table.
use mathlib.Core.Path.{sym}
use Rattle.rules.proofs.Flat.{flat_at}
use Rattle.rules.proofs.facts_at.Goals as goal

pub returns : goal.returns
returns c = sym (flat_at c.args.table.now c.args.n)
