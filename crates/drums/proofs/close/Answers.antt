-- `drums::close` meets its contract: the tests of the call and of the drum, then the close.
use mathlib.Core.Path.{◌∙◌}
use Rattle.drums.specs.Drums.{close_of}
use Rattle.drums.proofs.close.Goals as goal

pub returns : goal.returns
unfolding close_of
returns c = (rw c.in-Ok.ensures.0 at c.finish.ensures) ∙ c.in-Ok.ensures.3 _

pub returns-in-Err : goal.returns-in-Err
unfolding close_of
returns-in-Err c = c.keep.ensures ∙ c.in-Err.ensures _
