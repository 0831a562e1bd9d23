-- `unread::unread_by` meets its contract: the table is fresh, and long enough for the book.
use Rattle.rules.proofs.Flat.{flat_fresh}
use Rattle.unread.proofs.unread_by.Goals as goal

pub write_run-requires : goal.write_run-requires
write_run-requires g c = λ good. flat_fresh _ (c.requires.large good)
