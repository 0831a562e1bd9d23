-- The board: a lent list of drums, each called by its number.
use Rattle.std.specs.Prelude.{ℕ, cond, List, ltb, length, get_or, set}
use Rattle.reader.specs.declared.Reading.{Reading}
use Rattle.drums.specs.declared.Drum.{Drum}
use Rattle.drums.specs.declared.Stepped.{Stepped}
use Rattle.drums.specs.Drums.{idle_drum, absent_of}

-- what a call answers, and the drums after it
pub record Called : Type 0 where
  pub reading : Reading
  pub drums : List Drum

abbrev pub calls : Reading → List Drum → Called
calls reading drums = record { reading = reading; drums = drums }

-- a call, by what it does to a drum, on a list of drums: the drum of this number is called and no other is touched
unfoldable pub called : (List ℕ → Drum → ℕ → ℕ → Stepped) → List ℕ → List Drum → ℕ → ℕ → Called
called call plan drums number k =
    let s = call plan (get_or drums number idle_drum) number k in
    cond (ltb number (length drums)) (calls s.reading (set drums number s.drum)) (calls (absent_of plan) drums)
