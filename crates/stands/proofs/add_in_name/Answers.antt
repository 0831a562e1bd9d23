-- `stands::add_in_name` meets its contract.
use borrow.Author.Tests.{eq-eqb, ne_eqb}
use borrow.Author.Tests.{lt-ltb, le-ltb}
use Rattle.stands.specs.Stands.{due_in_name}
use Rattle.stands.proofs.add_in_name.Goals as goal

pub returns-then-kept-eq5 : goal.returns-then-kept-eq5
unfolding due_in_name
returns-then-kept-eq5 c = rw (eq-eqb _ _ c.if-kept-eq5.true) c.add.ensures

pub returns-then-size-lt16 : goal.returns-then-size-lt16
unfolding due_in_name
returns-then-size-lt16 c =
    rw (ne_eqb _ _ c.if-kept-eq5.false, lt-ltb _ _ c.if-size-lt16.true) c.add-then-size-lt16.ensures

pub returns-else-size-lt16 : goal.returns-else-size-lt16
unfolding due_in_name
returns-else-size-lt16 c =
    rw (ne_eqb _ _ c.if-kept-eq5.false, le-ltb _ _ c.if-size-lt16.false) c.add-else-size-lt16.ensures
