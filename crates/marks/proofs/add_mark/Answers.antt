-- `marks::add_mark` meets its contract: the line, a line feed, spaces and the mark.
use Rattle.marks.proofs.Laws.{added_mark}
use Rattle.marks.proofs.add_mark.Goals as goal

pub returns : goal.returns
returns c =
    added_mark _ _ _ c.line_at.ensures c.before_of.ensures.0 c.add.ensures c.add-2.ensures c.add_spaces.ensures
    c.add-3.ensures
