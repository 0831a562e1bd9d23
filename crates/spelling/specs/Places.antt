-- Places of a sheet's text: the bytes there, and what the reading byte by byte comes to from there.
use Rattle.std.specs.Prelude.{ℕ, ◌-◌, ◌≤◌, ◌<◌, ◌≡◌, Bool, true, false, ◌||◌, List, eqb, length, get_or, take, drop}
use Rattle.sheets.specs.Text.{letter, blank}
use Rattle.syntax.specs.Machine.{State, goes, wrong, step, run}

-- a state in which a blank changes nothing
pub record Idle (state : State) : Type 0 where
  pub stays : (place byte : ℕ) → blank byte ≡ true → step state place byte ≡ goes state

-- a byte at which a factor begins; one that ends an expression
abbrev pub begins_factor : ℕ → Bool
begins_factor byte = letter byte || eqb byte 40

abbrev pub ends_expression : ℕ → Bool
ends_expression byte = eqb byte 41 || eqb byte 59

module _ (text : List ℕ) where
  -- the byte at a place; 0 at the end
  abbrev pub byte_at : ℕ → ℕ
  byte_at at = get_or text at 0

  -- the letters from a place up to another
  abbrev pub letters_at : ℕ → ℕ → List ℕ
  letters_at at end = take (end - at) (drop at text)

  -- from a place on, where the reading stands so, the text goes wrong at another place
  pub record GoesWrong (at : ℕ) (state : State) (place : ℕ) : Type 0 where
    pub ends : run (drop at text) state at ≡ wrong place

  -- from a place on, where the reading stands so, it comes to another place, where it stands so
  pub record Comes (at : ℕ) (state : State) (place : ℕ) (then : State) : Type 0 where
    pub runs : run (drop at text) state at ≡ run (drop place text) then place

  -- from a place on bytes stand that meet a test, up to another, where none does or none stands
  pub record PastRow (Meets : ℕ → Bool → Type 0) (at to : ℕ) : Type 0 where
    pub low : at ≤ to
    pub high : at ≤ length text → to ≤ length text
    pub each : (k : ℕ) → at ≤ k → k < to → Meets (byte_at k) true × (k < length text)
    pub over : to < length text → Meets (byte_at to) false

  -- from a place on blanks are skipped, up to another
  pub record SkippedTo (at to : ℕ) : Type 0 where
    pub low : at ≤ to
    pub high : to ≤ length text
    pub fresh : blank (byte_at to) ≡ false
    pub passed : (state : State) → Idle state → Comes at state to state

  -- from a place on letters stand, up to another
  pub record LettersTo (at to : ℕ) : Type 0 where
    pub low : at ≤ to
    pub high : to ≤ length text
    pub letters : (k : ℕ) → at ≤ k → k < to → letter (byte_at k) ≡ true
    pub past : letter (byte_at to) ≡ false

  -- the byte at a place is no blank; it begins no factor either
  pub record Fresh (at : ℕ) : Type 0 where
    pub fresh : blank (byte_at at) ≡ false

  pub record Over (at : ℕ) : Type 0 where
    pub fresh : blank (byte_at at) ≡ false
    pub over : begins_factor (byte_at at) ≡ false
