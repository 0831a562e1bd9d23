-- `moves::read_own` meets its contract: bytes that are not 1 are long enough for the count of their sections.
use Rattle.moves.proofs.Answers.{told_long}
use Rattle.moves.proofs.read_own.Goals as goal

pub has_names-requires-in_default : goal.has_names-requires-in_default
has_names-requires-in_default c = told_long _ c.in-Err.error c.in-Err.ensures c.in_default.not-Length
