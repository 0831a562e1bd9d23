-- The letters that stand in a text at a place.
use Rattle.std.specs.Prelude.{ℕ, cond, List, [], ◌∷◌, drop}
use Rattle.sheets.specs.Text.{letter}

-- the letters that a list begins with
unfoldable pub letters_in : List ℕ → List ℕ
letters_in [] = []
letters_in (byte ∷ more) = cond (letter byte) (byte ∷ letters_in more) []

-- the word at a place: its letters, up to the first byte that is none
unfoldable pub word_at : List ℕ → ℕ → List ℕ
word_at text at = letters_in (drop at text)
