-- `rules::join_facts` meets its contract: the four sets are joined one by one.
use mathlib.Core.Path.{refl}
use Rattle.rules.proofs.Flat.{narrow_facts}
use Rattle.rules.proofs.join_facts.Goals as goal

pub returns : goal.returns
returns c = (
  rw (c.join.ensures, c.join-2.ensures, c.join-3.ensures, c.join-4.ensures) refl,
  narrow_facts _ c.join.type_inv c.join-2.type_inv c.join-3.type_inv c.join-4.type_inv,
)
