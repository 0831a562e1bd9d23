-- `prints::Page::add_number`'s measure: the number.
use Rattle.prints.proofs.Page.+add_number.Given as goal

abbrev pub decreases-add_number : goal.decreases-add_number
decreases-add_number l = l.value
