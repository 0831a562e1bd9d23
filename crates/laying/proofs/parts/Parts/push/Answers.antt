-- `Parts::push` meets its contract: one part is put.
use native.Mathlib.Omega.{arith}
use mathlib.Core.Path.{ap, ◌∙◌}
use mathlib.Core.List.{◌∷◌}
use Rattle.laying.proofs.Laying.{stacked_held, stacked_put}
use Rattle.laying.proofs.parts.Parts.push.Goals as goal

pub bounds-self-inside-self-inside : goal.bounds-self-inside-self-inside
bounds-self-inside-self-inside c = omega (arith, stacked_held _ _ c.self.view_is, c.requires.0)

pub invariant_of-self : goal.invariant_of-self
invariant_of-self c = omega (arith, stacked_held _ _ c.self.view_is, c.requires.0)

pub returns : goal.returns
returns c = stacked_put _ _ _ (omega (arith, stacked_held _ _ c.self.view_is, c.requires.0)) ∙ ap (λ xs. c.args.n ∷ xs) c.self.view_is
