-- `writer::put_plan_contents` meets its contract: the contents of the sections that the counts give.
use Rattle.writer.specs.Bytes.{plan_contents}
use Rattle.writer.proofs.put_plan_contents.Goals as goal

pub returns : goal.returns
unfolding plan_contents
returns c = c.put_contents.ensures
