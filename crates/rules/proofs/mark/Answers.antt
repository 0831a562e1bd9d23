-- `rules::mark` meets its contract: the set that has the node's place is joined with that of the place.
use mathlib.Core.Path.{refl}
use Rattle.rules.proofs.mark.Goals as goal

pub returns : goal.returns
returns c =
    record {
      sets = rw (c.join-new.ensures, c.single.ensures) refl;
      changed_is = rw (c.join-new.ensures, c.single.ensures) refl;
    }
