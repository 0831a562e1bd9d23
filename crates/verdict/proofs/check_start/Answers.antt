-- `verdict::check_start` meets its contract: the table has whether the start is productive.
use mathlib.Core.Path.{sym, ap, ◌∙◌}
use native.Mathlib.Omega.{arith}
use Rattle.kinds.specs.Kinds.{has?}
use Rattle.rules.specs.declared.NodeFacts.{NodeFacts}
use Rattle.verdict.proofs.Books.{start_below, count_small}
use Rattle.verdict.proofs.Answers.{start_fruitful, answered_barren}
use Rattle.verdict.proofs.check_start.Goals as goal

pub facts-requires : goal.facts-requires
facts-requires c = start_below c.book.ensures.at_hand.known.good (rw c.book.ensures.book at c.start-start.ensures.start)

pub overflow_cast-result : goal.overflow_cast-result
overflow_cast-result c =
    let good = c.book.ensures.at_hand.known.good in
    omega (arith, start_below good (rw c.book.ensures.book at c.start-start.ensures.start), count_small good)

pub returns-then-has : goal.returns-then-has
returns-then-has c =
    start_fruitful c.book.ensures.at_hand.known c.requires (rw c.book.ensures.book at c.start-start.ensures.start)
    (sym (c.has.ensures ∙ ap (λ (f : NodeFacts). has? f.productive 0) c.facts.ensures) ∙ c.if-has.true)

pub returns-else-has : goal.returns-else-has
returns-else-has c =
    answered_barren c.book.ensures.at_hand.known c.requires (rw c.book.ensures.book at c.start-start.ensures.start)
    (sym (c.has.ensures ∙ ap (λ (f : NodeFacts). has? f.productive 0) c.facts.ensures) ∙ c.if-has.false)
