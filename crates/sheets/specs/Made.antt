-- What making a book of a sheet answers: numbers 26 to 29 and 21, and the book.
use Rattle.std.specs.Prelude.{ℕ, ◌≤◌, ◌<◌, ◌≡◌, Bool, true, false, ◌||◌, cond, List, [], ◌∷◌, ltb, eqb, length, get_or}
use Rattle.words.specs.Beginnings.{Parts, Lacks}
use Rattle.sheets.specs.Grammar.{Rule, Sheet, IsSheet}
use Rattle.sheets.specs.Nodes.{among, kind_names, sizes}

-- the answers' numbers
abbrev pub SHEET : ℕ
SHEET = 26

abbrev pub TWICE : ℕ
TWICE = 27

abbrev pub BIG : ℕ
BIG = 28

abbrev pub KINDLESS : ℕ
KINDLESS = 29

-- whether a rule's name comes again after those seen, and the place where a name first does
unfoldable pub repeats : List (List ℕ) → List Rule → Bool
repeats seen [] = false
repeats seen (r ∷ rules) = among r.name seen || repeats (r.name ∷ seen) rules

unfoldable pub repeated_at : List (List ℕ) → List Rule → ℕ
repeated_at seen [] = 0
repeated_at seen (r ∷ rules) = cond (among r.name seen) r.place (repeated_at (r.name ∷ seen) rules)

-- over 512 nodes or 64 kinds
unfoldable pub too_big : List Rule → Bool
too_big rules = ltb 512 (sizes rules) || ltb 64 (length (kind_names rules))
