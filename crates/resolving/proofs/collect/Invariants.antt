-- `resolving::collect` meets its contract. The loop's invariant: the kinds of the nodes passed are put down.
use Rattle.resolving.proofs.Words.{Collecting}
use Rattle.resolving.proofs.collect.Given as goal

abbrev pub invariant-loop-raw : goal.invariant-loop-raw
invariant-loop-raw l = Collecting l.text l.nodes l.rows l.initial.kinds l.kinds l.many l.raw-index
