-- Bytes added to a buffer as far as there is room.
use Rattle.std.specs.Prelude.{ℕ, ◌+◌, ◌≤◌, ◌≡◌, List, length, replicate}
use Rattle.std.proofs.lemmas.List.Edits.{sets}

-- bytes added at a place of a buffer, as far as there is room: where all have room, the place after them; else a place
-- at which nothing more has room
pub record Adds (before after : List ℕ) (at next : ℕ) (bytes : List ℕ) : Type 0 where
  pub moved : at + length bytes ≤ length before → next ≡ at + length bytes
  pub full : length before ≤ at + length bytes → length before ≤ next
  pub is : after ≡ sets before at bytes

-- so many spaces
abbrev pub spaces : ℕ → List ℕ
spaces count = replicate count 32
