-- `KnownBook::facts` meets its contract: the table has room for each of the book's nodes.
use mathlib.Core.Path.{sym, ap, ◌∙◌}
use native.Mathlib.Omega.{arith}
use Rattle.rules.specs.Facts.{facts_at}
use Rattle.rules.proofs.Flat.{flat_at}
use Rattle.verdict.specs.Conflicts.{Facts}
use Rattle.verdict.proofs.Clashes.{node_room}
use Rattle.verdict.proofs.known.KnownBook.facts.Goals as goal

pub offset_bounds-table-n : goal.offset_bounds-table-n
offset_bounds-table-n c =
    omega (arith, node_room c.self.inside.table.now c.self.invariant.known (rw (sym c.self.view_is) at c.requires), c.self.told)

pub bounds-table-n : goal.bounds-table-n
bounds-table-n c = node_room c.self.inside.table.now c.self.invariant.known (rw (sym c.self.view_is) at c.requires)

pub returns : goal.returns
returns c = sym (flat_at c.self.inside.table.now c.args.n) ∙ ap (λ (known : Facts). facts_at known.table c.args.n) c.self.view_is
