-- `listed::list` meets its contract: what is written for the bytes that were read is written for the whole input.
use mathlib.Core.Path.{sym, ◌∙◌}
use Rattle.std.proofs.Common.{rules}
use Rattle.listed.proofs.Inputs.{page_listed}
use Rattle.listed.proofs.Buffers.{suffices_enough, answers_listed}
use Rattle.listed.proofs.list.Goals as goal

pub returns : goal.returns
returns c =
    let fits = suffices_enough _ _ _ _ _ _ (sym c.suffice.ensures ∙ c.if-not-suffice.false) in
    answers_listed _ _ _ _ _ _ fits
    (page_listed c.new-page.ensures.was c.new-page.ensures.blank (search rules) c.len.ensures fits.lines c.add_listing.ensures)
