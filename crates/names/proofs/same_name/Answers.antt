-- `names::same_name` meets its contract: the names are parts of the bytes.
use Rattle.words.proofs.Same.{same_told}
use Rattle.names.proofs.Places.{name_between}
use Rattle.names.proofs.same_name.Goals as goal

pub returns : goal.returns
returns c =
    let bytes = c.args.bytes.now in
    same_told _ _
    (rw (name_between bytes c.args.one c.past_name.ensures, name_between bytes c.args.other c.past_name-2.ensures) at c.eq.ensures)
