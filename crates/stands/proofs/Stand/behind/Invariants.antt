-- `stands::Stand::behind` meets its contract. The loop's invariant: behind the bytes left the reading stands as behind
-- all.
use mathlib.Core.Path.{◌≡◌}
use lib.ListN.{drop}
use Rattle.stands.specs.declared.Stand.TheVariants.{NameDue}
use Rattle.stands.specs.Stands.{advanced}
use Rattle.stands.proofs.Stand.behind.Given as goal

abbrev pub invariant-loop-byte : goal.invariant-loop-byte
invariant-loop-byte l = advanced (drop l.byte-index l.front) l.stand ≡ advanced l.front NameDue
