-- The lines that the listing program writes, as lists of bytes.
use Rattle.std.specs.Prelude.{ℕ, ◌+◌, ◌*◌, ◌-◌, ◌≤◌, ◌≡◌, cond, List, [], ◌∷◌, ◌++◌, ltb, length}
use Rattle.std.proofs.lemmas.List.Edits.{sets}
use Rattle.prints.specs.Digits.{digits_of, spaced}
use Rattle.lines.specs.Text.{text}

-- bytes put at a place of a buffer, and the place after them
pub record Put (before after : List ℕ) (at next : ℕ) (bytes : List ℕ) : Type 0 where
  pub moved : next ≡ at + length bytes
  pub within : next ≤ length before
  pub is : after ≡ sets before at bytes

-- the line feed that ends each line
abbrev pub line_feed : List ℕ
line_feed = 10 ∷ []

-- the most bytes of a space and a number of 64 bits, of a refusal's words and its line, a conflict's line, a record's
-- line and an accepted run's lines
abbrev pub spaced_room : ℕ
spaced_room = 21

abbrev pub words_room : ℕ
words_room = 7 + 3 * spaced_room

abbrev pub refused_room : ℕ
refused_room = words_room + 1

abbrev pub conflict_room : ℕ
conflict_room = words_room + spaced_room + 1

abbrev pub record_room : ℕ
record_room = 7

abbrev pub accepted_room : ℕ → ℕ
accepted_room records = 49 + record_room * records

-- the words that the first line begins with
abbrev pub accept : List ℕ
accept = text "accept"

abbrev pub refused : List ℕ
refused = text "refused"

-- the messages for an input that is too long or too short
abbrev pub input_too_long : List ℕ
input_too_long = text "input too long\n"

abbrev pub input_too_short : List ℕ
input_too_short = text "input too short\n"

-- a record's node number, an empty record's with `-` before it
unfoldable pub record_text : ℕ → List ℕ
record_text entry = cond (ltb entry 32768) (digits_of entry) (45 ∷ digits_of (entry - 32768))

-- a record's line
unfoldable pub record_line : ℕ → List ℕ
record_line entry = record_text entry ++ line_feed

-- one record a line
unfoldable pub record_lines : List ℕ → List ℕ
record_lines [] = []
record_lines (entry ∷ tree) = record_line entry ++ record_lines tree

-- a refusal's words: its number, place and third value
unfoldable pub refused_words : ℕ → ℕ → ℕ → List ℕ
refused_words number place third = refused ++ spaced number ++ spaced place ++ spaced third

-- a refusal's one line
unfoldable pub refused_line : ℕ → ℕ → ℕ → List ℕ
refused_line number place third = refused_words number place third ++ line_feed

-- a conflict's: its number, place, set of kinds and flag
unfoldable pub conflict_line : ℕ → ℕ → ℕ → ℕ → List ℕ
conflict_line number place kinds flag = refused_words number place kinds ++ spaced flag ++ line_feed

-- an accepted run: its events and records, then one record a line
unfoldable pub accepted_lines : ℕ → ℕ → List ℕ → List ℕ
accepted_lines events records tree = accept ++ spaced events ++ spaced records ++ line_feed ++ record_lines tree
