-- `names::name_new` meets its contract. The loop's invariant: the place is that of the name reached, and what is left to search gives the
-- answer.
use mathlib.Core.Path.{◌≡◌}
use mathlib.Core.Bool.{not}
use Rattle.words.specs.Lists.{same}
use Rattle.words.proofs.FirstBad.{Searched}
use Rattle.names.specs.Names.{name_at, name_of}
use Rattle.names.proofs.name_new.Given as goal

abbrev pub invariant-loop : goal.invariant-loop
invariant-loop l =
    (l.earlier ≡ name_at l.bytes l.base l.counter) × Searched (λ k. not (same (name_of l.bytes l.base k) (name_of l.bytes l.base l.n))) l.n l.counter
