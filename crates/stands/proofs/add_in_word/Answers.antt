-- `stands::add_in_word` meets its contract, by whether a letter more may stand.
use borrow.Author.Tests.{lt-ltb, le-ltb}
use Rattle.prints.proofs.Laws.{added_then}
use Rattle.stands.specs.Stands.{due_text}
use Rattle.stands.proofs.add_in_word.Goals as goal
use Rattle.stands.proofs.add_in_word.Goals.{then-size-lt16, else-size-lt16}

pub returns : goal.returns
unfolding due_text
returns c =
    elim c.if-size-lt16.branch [
      | then-size-lt16 w ↦ rw (lt-ltb _ _ w.if-size-lt16.true) (added_then w.add.ensures (rw w.page-is at c.add_behind.ensures))
      | else-size-lt16 w ↦ rw (le-ltb _ _ w.if-size-lt16.false) (added_then w.add-else-size-lt16.ensures (rw w.page-is at c.add_behind.ensures))
    ]
