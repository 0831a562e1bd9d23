-- `said::Said::add_lines` meets its contract.
use borrow.Author.Tests.{eq-eqb, ne_eqb}
use Rattle.said.specs.Said.{said_lines}
use Rattle.said.proofs.Said.add_lines.Goals as goal

pub returns-then-self-eq-DONE : goal.returns-then-self-eq-DONE
unfolding said_lines
returns-then-self-eq-DONE c = rw (eq-eqb _ _ c.if-self-eq-DONE.true) c.add_passes.ensures

pub returns-else-self-eq-DONE : goal.returns-else-self-eq-DONE
unfolding said_lines
returns-else-self-eq-DONE c = rw (ne_eqb _ _ c.if-self-eq-DONE.false) c.add_refused.ensures
