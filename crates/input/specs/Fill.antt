-- What filling a buffer leaves.
use Rattle.std.specs.Prelude.{ℕ, ◌≤◌, List, length, take}
use Rattle.std.specs.Io.KnownBytes.{Consumes}
use Rattle.std.specs.declared.option.Option.{Option}

-- so many bytes at the buffer's start are those that were taken from what the reader had
abbrev pub Filled : Option (List ℕ) → Option (List ℕ) → List ℕ → Type 0
Filled old new buffer = (size : ℕ) × (size ≤ length buffer) × Consumes old new (take size buffer)
