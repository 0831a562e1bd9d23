-- `marks::line_at` meets its contract: from where the line starts up to its line feed.
use mathlib.Core.Path.{◌∙◌}
use Rattle.marks.proofs.Laws.{rest_line}
use Rattle.marks.proofs.line_at.Goals as goal

pub returns : goal.returns
returns c = c.to_feed.ensures ∙ rest_line _ _ c.of-start.ensures.0
