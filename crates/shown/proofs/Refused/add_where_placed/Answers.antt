-- `shown::Refused::add_where_placed` meets its contract, by the test.
use mathlib.Core.Path.{sym, ◌∙◌}
use Rattle.prints.proofs.Laws.{added_none}
use Rattle.shown.specs.Shown.{where_placed}
use Rattle.shown.proofs.Refused.add_where_placed.Goals as goal

pub returns-then-has_place : goal.returns-then-has_place
unfolding where_placed
returns-then-has_place c = rw (sym c.has_place.ensures ∙ c.if-has_place.true) c.add_place.ensures

pub returns-else-has_place : goal.returns-else-has_place
unfolding where_placed
returns-else-has_place c = rw (sym c.has_place.ensures ∙ c.if-has_place.false) (added_none _)
