-- `lines::add_refused` meets its contract: the words and a line feed.
use Rattle.lines.specs.Lines.{refused_line}
use Rattle.prints.proofs.Laws.{added_then}
use Rattle.lines.proofs.Laws.{refused_short}
use Rattle.lines.proofs.add_refused.Goals as goal

pub returns-clause-added : goal.returns-clause-added
unfolding refused_line
returns-clause-added c =
    added_then c.add_words.ensures c.add.ensures

pub returns-clause-short : goal.returns-clause-short
returns-clause-short c = refused_short _ _ _ c.ranges.number.fits c.ranges.place.fits c.ranges.third.fits
