-- `drums::go_on` meets its contract: the slots after the parts held are zero.
use borrow.Author.Rules.{rules}
use Rattle.drums.proofs.Parts.{filled_is, after_hold, goes_on_is}
use Rattle.drums.proofs.go_on.Goals as goal
use Rattle.drums.proofs.go_on.Goals.{After-fill}

pub due_sum-due-requires : goal.due_sum-due-requires
due_sum-due-requires c = after_hold c.requires.0 (filled_is c.requires.0 (search rules))

pub returns : goal.returns
returns c = goes_on_is c.requires.0 _ _ _ _ (filled_is c.requires.0 (search rules)) c.due_sum-due.ensures c.answer.ensures
