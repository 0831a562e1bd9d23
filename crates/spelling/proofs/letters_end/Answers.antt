-- `spelling::letters_end` meets its contract.
use Rattle.spelling.proofs.Running.{row_spelled}
use Rattle.spelling.proofs.letters_end.Goals as goal

pub returns : goal.returns
returns c = row_spelled c.args.s.now c.requires c.past.ensures
