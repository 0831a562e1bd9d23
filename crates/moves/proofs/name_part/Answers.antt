-- `moves::name_part` meets its contract where the book's form is refused.
use Rattle.moves.proofs.Parts.{part_refused}
use Rattle.moves.proofs.name_part.Goals as goal

pub returns-in-Err : goal.returns-in-Err
returns-in-Err c = part_refused _ _ _ _ c.in-Err.ensures
