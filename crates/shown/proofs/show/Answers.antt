-- `shown::show` meets its contract: what is written for the bytes that were read is written for the whole input.
use mathlib.Core.Path.{sym, ◌∙◌}
use Rattle.std.proofs.Common.{rules}
use Rattle.shown.proofs.Laws.{page_shown}
use Rattle.shown.proofs.Buffers.{suffices_enough, answers_shown}
use Rattle.shown.proofs.show.Goals as goal

pub returns : goal.returns
returns c =
    let fits = suffices_enough _ _ _ _ _ (sym c.suffice.ensures ∙ c.if-not-suffice.false) in
    answers_shown _ _ _ _ _ fits
    (page_shown c.new-page.ensures.was c.new-page.ensures.blank (search rules) c.len.ensures fits.lines c.add_show.ensures)
