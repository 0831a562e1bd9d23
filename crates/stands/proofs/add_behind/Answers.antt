-- `stands::add_behind` meets its contract: four parts, one after the other.
use borrow.Author.Tests.{eq-eqb, ne_eqb}
use Rattle.prints.proofs.Laws.{added_then}
use Rattle.stands.specs.Stands.{due_behind}
use Rattle.stands.proofs.add_behind.Goals as goal

pub returns-then-opens-eq0 : goal.returns-then-opens-eq0
unfolding due_behind
returns-then-opens-eq0 c =
    rw (eq-eqb _ _ c.if-opens-eq0.true)
    (added_then (added_then (added_then c.add_where.ensures c.add_where-2.ensures) c.add.ensures) c.add-then-opens-eq0.ensures)

pub returns-else-opens-eq0 : goal.returns-else-opens-eq0
unfolding due_behind
returns-else-opens-eq0 c =
    rw (ne_eqb _ _ c.if-opens-eq0.false)
    (added_then (added_then (added_then c.add_where.ensures c.add_where-2.ensures) c.add.ensures) c.add-else-opens-eq0.ensures)
