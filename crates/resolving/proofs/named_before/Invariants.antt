-- `resolving::named_before` meets its contract. The loop's invariant: the place is that of the rule reached, and no rule passed has the
-- name.
use mathlib.Core.Path.{◌≡◌}
use mathlib.Core.Bool.{false}
use Rattle.sheets.specs.Nodes.{among}
use Rattle.resolving.specs.Lines.{rule_at, names_before}
use Rattle.resolving.proofs.named_before.Given as goal

abbrev pub invariant-loop : goal.invariant-loop
invariant-loop l = (l.at ≡ rule_at l.text l.counter) × (false ≡ among l.name (names_before l.text l.counter))
