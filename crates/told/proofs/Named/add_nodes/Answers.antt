-- `told::Named::add_nodes` meets its contract: what is added for each node is its line.
use Rattle.std.proofs.Common.{rules}
use Rattle.told.specs.Told.{node_line, node_lines}
use Rattle.told.proofs.Named.add_nodes.Goals as goal

pub returns : goal.returns
unfolding node_lines
returns c =
    rw (← c.self.view_is, ← c.count.ensures.count)
    (c.add_each.ensures (node_line c.self.inside.book) (λ n page end below added. search rules))
