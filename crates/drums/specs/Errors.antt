-- Why a call is refused, by number and place.
use Rattle.book.specs.Form.{judged}
use Rattle.book.specs.declared.Judged.{Judged}
use Rattle.plan.specs.Errors.{judged_by}
use Rattle.drums.specs.declared.DrumError.{DrumError}
use Rattle.drums.specs.declared.DrumError.TheVariants as drum
use Rattle.drums.specs.Drums.{NO-DRUM, IDLE, STALE}

-- the number of a refusal that changes nothing, with its place
abbrev pub refused_by : DrumError → Judged
refused_by (drum.Plan error) = judged_by error
refused_by drum.NoDrum = judged NO-DRUM 0
refused_by drum.Idle = judged IDLE 0
refused_by drum.Stale = judged STALE 0
