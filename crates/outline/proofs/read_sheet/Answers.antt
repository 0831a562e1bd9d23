-- `outline::read_sheet` meets its contract: a rule is wrong, no rule stands there, or the rules are read.
use Rattle.outline.proofs.Sheets.{outlining_none, outlining_more, outlining_ended, outlining_done}
use Rattle.outline.proofs.read_sheet.Goals as goal

pub loop-at-init : goal.loop-at-init
loop-at-init c = outlining_none c.skip_blanks-at.ensures

pub loop-at-preserved : goal.loop-at-preserved
loop-at-preserved c = outlining_more c.loop-at.invariant c.in_ok-read.ensures c.last.ensures c.put-rules.ensures

pub returns-then-rules-eq0 : goal.returns-then-rules-eq0
returns-then-rules-eq0 c = outlining_ended c.loop-at.invariant c.loop-at-test.false c.if-rules-eq0.true

pub returns : goal.returns
returns c = outlining_done c.loop-at.invariant c.loop-at-test.false c.if-rules-eq0.false
