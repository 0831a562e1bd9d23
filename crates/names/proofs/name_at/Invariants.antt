-- `names::name_at` meets its contract. The loop's invariant: the place is that of the name with the number reached.
use mathlib.Core.Path.{◌≡◌}
use Rattle.names.specs.Names.{name_at}
use Rattle.names.proofs.name_at.Given as goal

abbrev pub invariant-loop : goal.invariant-loop
invariant-loop l = l.at ≡ name_at l.bytes l.base l.counter
