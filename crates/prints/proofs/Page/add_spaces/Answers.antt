-- `prints::Page::add_spaces` meets its contract: as many spaces are put as have room.
use mathlib.Core.Path.{refl}
use Rattle.prints.proofs.Laws.{spaces_clipped}
use Rattle.prints.proofs.Page.add_spaces.Goals as goal

pub returns : goal.returns
returns c =
    record {
      same = refl;
      adds = spaces_clipped _ _ _ _ _ c.min-from.ensures c.min.ensures (c.fill.ensures.after (λ y is. is));
    }
