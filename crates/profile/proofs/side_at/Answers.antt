-- `profile::side_at` meets its contract: the table and the weights are read.
use mathlib.Core.Path.{refl}
use Rattle.profile.proofs.side_at.Goals as goal

pub returns : goal.returns
returns c = rw (c.has.ensures, c.facts_at.ensures) refl
