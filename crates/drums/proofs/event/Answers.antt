-- `drums::event` meets its contract: the tests of the call and of the drum, then the event.
use mathlib.Core.Path.{◌∙◌}
use Rattle.drums.specs.Drums.{event_of}
use Rattle.drums.proofs.event.Goals as goal

pub returns : goal.returns
unfolding event_of
returns c = (rw (c.in-Ok.ensures.0, c.from.ensures) at c.step.ensures) ∙ c.in-Ok.ensures.3 _

pub returns-in-Err : goal.returns-in-Err
unfolding event_of
returns-in-Err c = c.keep.ensures ∙ c.in-Err.ensures _
