-- Calls with plans that are alike but for what is due: what stays the same.
use Rattle.std.specs.Prelude.{ℕ, ◌≡◌, List}
use Rattle.drums.specs.declared.Drum.{Drum}
use Rattle.drums.specs.declared.Stepped.{Stepped}
use Rattle.drums.specs.Drums.{idle, open_of, event_of, close_of}

-- drums that are alike but for what is due, and both idle or neither
pub record DrumsAlike (one other : Drum) : Type 0 where
  pub slots : one.slots ≡ other.slots
  pub held : one.held ≡ other.held
  pub events : one.events ≡ other.events
  pub records : one.records ≡ other.records
  pub idles : idle one ≡ idle other

-- what calls come to: the same answer, and drums that are alike
pub record StepsAlike (one other : Stepped) : Type 0 where
  pub answer : one.reading ≡ other.reading
  pub drums : DrumsAlike one.drum other.drum

-- each call, on one drum with one plan and on another drum with another plan
pub record CallsAlike (plan other : List ℕ) (d e : Drum) (number : ℕ) : Type 0 where
  pub opens : (k : ℕ) → StepsAlike (open_of plan d number k) (open_of other e number k)
  pub events : (k : ℕ) → StepsAlike (event_of plan d number k) (event_of other e number k)
  pub closes : (k : ℕ) → StepsAlike (close_of plan d number k) (close_of other e number k)
