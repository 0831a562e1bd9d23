-- `resolving::past_blanks` meets its contract.
use Rattle.resolving.proofs.Letters.{blanks_passed}
use Rattle.resolving.proofs.past_blanks.Goals as goal

pub returns : goal.returns
returns c = blanks_passed c.past.ensures
