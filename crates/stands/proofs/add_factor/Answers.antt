-- `stands::add_factor` meets its contract.
use borrow.Author.Tests.{lt-ltb, le-ltb}
use Rattle.stands.specs.Stands.{due_text}
use Rattle.stands.proofs.add_factor.Goals as goal

pub returns-then-opens-lt32 : goal.returns-then-opens-lt32
unfolding due_text
returns-then-opens-lt32 c = rw (lt-ltb _ _ c.if-opens-lt32.true) c.add.ensures

pub returns-else-opens-lt32 : goal.returns-else-opens-lt32
unfolding due_text
returns-else-opens-lt32 c = rw (le-ltb _ _ c.if-opens-lt32.false) c.add-else-opens-lt32.ensures
