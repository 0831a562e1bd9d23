-- `drums::is_idle` meets its contract: the counts, then the slots.
use borrow.Author.Rules.{rules}
use Rattle.drums.proofs.Tests.{idle_not, idle_by}
use Rattle.drums.proofs.is_idle.Goals as goal

pub returns-then-not-d : goal.returns-then-not-d
returns-then-not-d c = idle_not _ c.if-not-d.true

pub returns : goal.returns
returns c = idle_by _ c.if-not-d.false (search rules) c.all_zero.ensures
