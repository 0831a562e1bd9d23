-- `lines::add_words` meets its contract: the word and three numbers.
use Rattle.lines.specs.Lines.{refused_words}
use Rattle.prints.proofs.Laws.{added_then}
use Rattle.lines.proofs.add_words.Goals as goal

pub returns : goal.returns
unfolding refused_words
returns c =
    added_then (added_then (added_then c.add.ensures c.add_spaced.ensures) c.add_spaced-2.ensures) c.add_spaced-3.ensures
