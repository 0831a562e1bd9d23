-- `Parts::pop` meets its contract: the part on top is taken.
use native.Mathlib.Omega.{arith}
use mathlib.Core.Path.{sym, ◌∙◌}
use Rattle.laying.proofs.Laying.{stacked_none, stacked_top}
use Rattle.laying.proofs.parts.Parts.pop.Goals as goal

pub returns-then-self-eq0 : goal.returns-then-self-eq0
returns-then-self-eq0 c = sym c.self.view_is ∙ stacked_none _ c.if-self-eq0.true

pub returns : goal.returns
returns c = let some = c.if-self-eq0.false in rw c.from.ensures (sym c.self.view_is ∙ stacked_top _ _ (omega arith))
