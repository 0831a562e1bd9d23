-- `resolving::resolve_word` meets its contract.
use mathlib.Core.Path.{ap}
use lib.ListN.{length-map}
use Rattle.book.specs.declared.Node.TheVariants.{Token}
use Rattle.resolving.specs.Writing.{resolved_word}
use Rattle.resolving.proofs.Words.{found_or}
use Rattle.resolving.proofs.resolve_word.Goals as goal

pub returns-in-Some : goal.returns-in-Some
unfolding resolved_word
returns-in-Some c = rw (← c.word_at-word.ensures, c.in-Some.ensures.0, ← c.in-Some.ensures.1)

pub returns-in-None : goal.returns-in-None
unfolding resolved_word
returns-in-None c =
    rw (← c.word_at-word.ensures, c.in-None.ensures, c.unwrap_or.ensures) (ap (λ k. Token k) (found_or _ _ _ c.find_kind.ensures (length-map _ _)))
