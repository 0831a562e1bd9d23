-- `prints::Page::add_spaced` meets its contract: a space, and the number.
use Rattle.prints.specs.Digits.{spaced}
use Rattle.prints.proofs.Laws.{added_then}
use Rattle.prints.proofs.Page.add_spaced.Goals as goal

pub returns : goal.returns
unfolding spaced
returns c = added_then c.add.ensures c.add_number.ensures
