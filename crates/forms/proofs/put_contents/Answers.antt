use Rattle.forms.proofs.Entries.{entered_next}
use Rattle.forms.proofs.put_contents.Goals as goal

pub loop-i-preserved : goal.loop-i-preserved
loop-i-preserved c = entered_next c.loop-i.invariant c.loop-i-test.true c.put.ensures
