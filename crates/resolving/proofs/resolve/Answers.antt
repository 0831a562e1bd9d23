-- `resolving::resolve` meets its contract.
use Rattle.resolving.specs.Writing.{resolved}
use Rattle.resolving.proofs.Nodes.{resolved_other}
use Rattle.resolving.proofs.resolve.Goals as goal

pub returns-in-Token : goal.returns-in-Token
unfolding resolved
returns-in-Token c = rw c.in-Token.is c.resolve_word.ensures

pub returns-in_default : goal.returns-in_default
returns-in_default c = resolved_other _ _ _ _ _ c.in_default.not-Token
