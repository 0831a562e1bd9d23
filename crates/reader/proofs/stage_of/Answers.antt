-- `reader::stage_of` meets its contract: the label in the slot of the part held last.
use mathlib.Core.Path.{refl, sym}
use Rattle.running.specs.Stages.{stage_of}
use Rattle.reader.specs.Machine.{stack}
use Rattle.reader.proofs.Slots.{stage_last}
use Rattle.reader.proofs.stage_of.Goals as goal

pub returns-then-count-eq0 : goal.returns-then-count-eq0
unfolding stack stage_of
returns-then-count-eq0 c = rw c.if-count-eq0.true refl

pub returns : goal.returns
returns c = sym (stage_last _ _ c.if-count-eq0.false)
