-- `drums::finish` meets its contract: the reader's close.
use mathlib.Core.Path.{refl, ◌∙◌}
use Rattle.plan.specs.Form.{plan_from}
use Rattle.reader.specs.Reads.{outcome}
use Rattle.drums.proofs.Parts.{sound_ready, small_place}
use Rattle.drums.proofs.Steps.{close_is}
use Rattle.drums.proofs.finish.Goals as goal

pub close-requires : goal.close-requires
close-requires c = (sound_ready c.requires refl, small_place c.requires)

pub returns : goal.returns
unfolding plan_from
returns c = c.stop.ensures ∙ close_is _ _ c.requires _ (outcome c.close.result c.close.new.tree) c.close.ensures
