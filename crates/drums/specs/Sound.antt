-- What the steps of a drum ask of it: it is not stale.
use Rattle.std.specs.Prelude.{ℕ, ◌≤◌}
use Rattle.reader.specs.Machine.{SlotsHold}
use Rattle.drums.specs.declared.Drum.{Drum}
use Rattle.drums.specs.Drums.{drum_slots, most_events, most_records}

-- a drum that is not stale for a plan of so many nodes
pub record Sound (nodes : ℕ) (d : Drum) : Type 0 where
  pub parts : SlotsHold nodes drum_slots d.slots d.held
  pub few_events : d.events ≤ most_events
  pub few_records : d.records ≤ most_records
