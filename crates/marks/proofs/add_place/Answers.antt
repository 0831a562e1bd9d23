-- `marks::add_place` meets its contract: four parts, one after the other.
use Rattle.marks.proofs.Laws.{added_place}
use Rattle.marks.proofs.add_place.Goals as goal

pub returns : goal.returns
returns c =
    added_place _ _ _ c.of-line.ensures.0 c.before_of-column.ensures.0 c.add.ensures c.add_spaced.ensures c.add-2.ensures
    c.add_spaced-2.ensures
