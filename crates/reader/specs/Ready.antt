-- What the reader's steps ask of their arguments.
use Rattle.std.specs.Prelude.{ℕ, ◌<◌, ◌+◌, List, length}
use Rattle.plan.specs.Form.{plan_count}
use Rattle.reader.specs.Machine.{SlotsHold}

-- a step of a plan that is judged done: the parts held are nodes, and the counts are small
pub record Ready (bytes : List ℕ) (count written : ℕ) (held : List ℕ) : Type 0 where
  pub parts : SlotsHold (plan_count bytes) (length held) held count
  pub few_records : written + count < 4294967296
