-- `said::Said::add_clash_names` meets its contract: what is added for each kind is its name, where it clashes.
use Rattle.std.proofs.Common.{rules}
use Rattle.said.specs.Said.{clash_name, clash_names}
use Rattle.said.proofs.Said.add_clash_names.Goals as goal

pub returns : goal.returns
unfolding clash_names
returns c =
    rw (← c.kinds.ensures.kinds)
    (c.add_each.ensures (clash_name c.args.self.now.book c.args.self.now.answer.clash) (λ n page end below added. search rules))
