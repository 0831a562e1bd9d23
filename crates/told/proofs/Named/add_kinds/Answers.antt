-- `told::Named::add_kinds` meets its contract: what is added for each kind is its line.
use Rattle.std.proofs.Common.{rules}
use Rattle.told.specs.Told.{kind_line, kind_lines}
use Rattle.told.proofs.Named.add_kinds.Goals as goal

pub returns : goal.returns
unfolding kind_lines
returns c =
    rw (← c.kinds.ensures.kinds) (c.add_each.ensures (kind_line c.args.self.now) (λ n page end below added. search rules))
