-- `prints::Page::add_each` meets its contract. The loop's invariant: what is added for so many numbers is added.
use Rattle.std.proofs.Common.{ℕ, List}
use Rattle.words.specs.Lists.{lists_from}
use Rattle.prints.specs.Pages.{Added, AddsBelow}
use Rattle.prints.proofs.Page.add_each.Given as goal

abbrev pub invariant-loop-n : goal.invariant-loop-n
invariant-loop-n g l =
    (list : ℕ → List ℕ) → AddsBelow (goal.F-post g l.add) l.count list → Added l.initial.self l.self (lists_from list l.n 0)
