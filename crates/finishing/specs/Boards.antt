-- Boards that are alike but for what is due, and calls on them one after another.
use Rattle.std.specs.Prelude.{ℕ, ◌≡◌, List, length, get_or}
use Rattle.drums.specs.declared.Drum.{Drum}
use Rattle.drums.specs.Drums.{idle_drum}
use Rattle.drumming.specs.Alike.{DrumsAlike}
use Rattle.board.specs.Sequences.{Call, drums_after, answers_for}

-- as many drums, each alike but for what is due
pub record BoardsAlike (one other : List Drum) : Type 0 where
  pub as_many : length one ≡ length other
  pub each : (d : ℕ) → DrumsAlike (get_or one d idle_drum) (get_or other d idle_drum)

-- calls one after another, with one plan on one board and with another plan on another: every drum answers the same,
-- and the boards are alike after them
pub record SequencesAlike (plan other : List ℕ) (drums others : List Drum) (cs : List Call) : Type 0 where
  pub answers : (d : ℕ) → answers_for plan d drums cs ≡ answers_for other d others cs
  pub boards : BoardsAlike (drums_after plan drums cs) (drums_after other others cs)
