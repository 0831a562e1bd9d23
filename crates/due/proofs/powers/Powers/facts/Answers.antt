-- `Powers::facts` meets its contract: the table has room for each of the nodes.
use mathlib.Core.Path.{sym, ap, ◌∙◌}
use native.Mathlib.Omega.{arith}
use Rattle.rules.specs.Facts.{facts_at}
use Rattle.rules.proofs.Flat.{flat_at}
use Rattle.due.specs.Due.{Able}
use Rattle.due.proofs.powers.Powers.facts.Goals as goal

pub offset_bounds-table-n : goal.offset_bounds-table-n
offset_bounds-table-n c =
    let below = rw (sym c.self.view_is) at c.requires in
    omega (arith, below, c.self.invariant, c.self.told)

pub bounds-table-n : goal.bounds-table-n
bounds-table-n c =
    let below = rw (sym c.self.view_is) at c.requires in
    omega (arith, below, c.self.invariant)

pub returns-clause-facts : goal.returns-clause-facts
returns-clause-facts c = sym (flat_at c.self.inside.table.now c.args.n) ∙ ap (λ (able : Able). facts_at able.table c.args.n) c.self.view_is

pub returns-clause-few : goal.returns-clause-few
returns-clause-few c =
    let below = rw (sym c.self.view_is) at c.requires in
    omega (arith, below, c.self.invariant, c.self.told)
