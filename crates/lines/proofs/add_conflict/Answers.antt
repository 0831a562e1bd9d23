-- `lines::add_conflict` meets its contract: the words, a number and a line feed.
use Rattle.lines.specs.Lines.{conflict_line}
use Rattle.prints.proofs.Laws.{added_then}
use Rattle.lines.proofs.Laws.{conflict_short}
use Rattle.lines.proofs.add_conflict.Goals as goal

pub returns-clause-added : goal.returns-clause-added
unfolding conflict_line
returns-clause-added c =
    added_then (added_then c.add_words.ensures c.add_spaced.ensures) c.add.ensures

pub returns-clause-short : goal.returns-clause-short
returns-clause-short c = conflict_short _ _ _ _ c.ranges.number.fits c.ranges.place.fits c.ranges.kinds.fits c.ranges.flag.fits
