-- Where a byte of a text stands: its line and its column, both counted from 1; the line, and a mark under the byte.
use Rattle.std.specs.Prelude.{ℕ, ◌+◌, ◌-◌, cond, List, [], ◌∷◌, ◌++◌, eqb, length, take, drop}
use Rattle.lines.specs.Text.{text}
use Rattle.prints.specs.Digits.{spaced}
use Rattle.lines.specs.Lines.{line_feed}
use Rattle.prints.specs.Prints.{spaces}
use Rattle.marks.specs.declared.Position.{Position}

abbrev pub position : ℕ → ℕ → Position
position line start = record { line = line; start = start }

-- behind bytes, the first of which stands at a place: the number of the line, and the place where it starts; a line
-- feed ends a line
unfoldable pub behind : List ℕ → ℕ → Position → Position
behind [] at p = p
behind (byte ∷ more) at p = behind more (at + 1) (cond (eqb byte 10) (position (p.line + 1) (at + 1)) p)

module _ (sheet : List ℕ) (place : ℕ) where
  -- the bytes before a place of a sheet
  abbrev pub front : List ℕ
  front = take place sheet

  -- the line of the place and where it starts; the column is how many of its bytes stand before the place, and one
  unfoldable pub position_of : Position
  position_of = behind front 0 (position 1 0)

  unfoldable pub before_of : ℕ
  before_of = length front - position_of.start

  abbrev pub line_of : ℕ
  line_of = position_of.line

  abbrev pub column_of : ℕ
  column_of = before_of + 1

  -- ` line ` and its number, ` column ` and its number
  unfoldable pub place_text : List ℕ
  place_text = text " line" ++ spaced line_of ++ text " column" ++ spaced column_of

-- the bytes up to the first line feed
unfoldable pub to_feed : List ℕ → List ℕ
to_feed [] = []
to_feed (byte ∷ more) = cond (eqb byte 10) [] (byte ∷ to_feed more)

-- the line of a place, and below it a mark under the byte at the place
unfoldable pub line_text : List ℕ → ℕ → List ℕ
line_text sheet place = to_feed (drop (position_of sheet place).start sheet)

unfoldable pub mark_lines : List ℕ → ℕ → List ℕ
mark_lines sheet place = line_text sheet place ++ line_feed ++ spaces (before_of sheet place) ++ text "^\n"
