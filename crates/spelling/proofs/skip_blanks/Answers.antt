-- `spelling::skip_blanks` meets its contract.
use Rattle.spelling.proofs.Running.{row_skipped}
use Rattle.spelling.proofs.skip_blanks.Goals as goal

pub returns : goal.returns
returns c = row_skipped c.args.s.now c.requires c.past.ensures
