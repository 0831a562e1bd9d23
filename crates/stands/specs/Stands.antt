-- How the reading of a sheet stands at a place, and what is due there, in words.
use Rattle.std.specs.Prelude.{ℕ, suc, ◌+◌, ◌-◌, Bool, true, false, ◌&&◌, cond, List, [], ◌∷◌, ◌++◌, ltb, eqb, length, get_or}
use Rattle.lines.specs.Text.{text}
use Rattle.sheets.specs.Text.{letter, blank, empty_word}
use Rattle.syntax.specs.Machine.{Spot, due, in_word, after, done, State, name_due, in_name, equals_due, inside}
use Rattle.syntax.specs.Machine.{Next, goes, stops, step}
use Rattle.stands.specs.declared.Stand.{Stand}
use Rattle.stands.specs.declared.Stand.TheVariants.{NameDue, InName, EqualsDue, Due, InWord, After, Done}

-- on after what a byte does; where no sheet begins so, the reading stands as before it
unfoldable pub staying : Next → (State → State) → State → State
staying (goes next) rest state = rest next
staying stops rest state = state

-- how a reading stands where a text goes wrong, or at its end
unfoldable pub stood : List ℕ → State → ℕ → State
stood [] state at = state
stood (byte ∷ more) state at = staying (step state at byte) (λ s. stood more s (suc at)) state

-- how many letters of `empty` a word begins with, where it is no more than those; else 6
abbrev pub kept_letter : ℕ → ℕ
kept_letter number = get_or empty_word number 0

abbrev pub kept_next : ℕ → ℕ → ℕ
kept_next kept byte = cond (ltb kept 5 && eqb byte (kept_letter kept)) (kept + 1) 6

unfoldable pub kept_from : ℕ → List ℕ → ℕ
kept_from kept [] = kept
kept_from kept (byte ∷ more) = kept_from (kept_next kept byte) more

-- how a reading stands, as far as it tells what is due: within a name, how many letters it has and how much of `empty`
-- it is; within an expression, how many parentheses are open, and within a word how many letters it has
unfoldable pub stand_in : Spot → ℕ → Stand
stand_in due opens = Due opens
stand_in (in_word place letters) opens = InWord opens (length letters)
stand_in (after place e) opens = After opens
stand_in done opens = Done opens

unfoldable pub stand_of : State → Stand
stand_of (name_due rules) = NameDue
stand_of (in_name rules place letters) = InName (length letters) (kept_from 0 letters)
stand_of (equals_due rules place letters) = EqualsDue
stand_of (inside i f spot) = stand_in spot (length i.opens)

-- `;` or, where a parenthesis is open, `)`; and `(` before more, where one may open
abbrev pub closing : ℕ → List ℕ
closing opens = cond (eqb opens 0) (text "`;` is due") (text "`)` is due")

abbrev pub opening : ℕ → List ℕ
opening opens = cond (ltb opens 32) (text "`(`, ") []

-- what is due after a factor, with `*` or without it
unfoldable pub due_behind : ℕ → Bool → List ℕ
due_behind opens star = opening opens ++ cond star (text "`*`, ") [] ++ text "`|` or " ++ closing opens

abbrev pub due_further : ℕ → Bool → List ℕ
due_further opens star = text "a word, `empty`, " ++ due_behind opens star

-- what is due in a name of so many letters; `empty` is no name
unfoldable pub due_in_name : ℕ → ℕ → List ℕ
due_in_name size kept =
    cond (eqb kept 5) (text "a letter is due")
    (cond (ltb size 16) (text "a letter or `=` is due") (text "a blank or `=` is due"))

-- what is due, in words; between words and signs a blank may always stand
unfoldable pub due_text : Stand → List ℕ
due_text NameDue = text "a rule's name is due"
due_text (InName size kept) = due_in_name size kept
due_text EqualsDue = text "`=` is due"
due_text (Due opens) = cond (ltb opens 32) (text "a word, `empty` or `(` is due") (text "a word or `empty` is due")
due_text (InWord opens size) = cond (ltb size 16) (text "a letter, ") (text "a blank, ") ++ due_behind opens true
due_text (After opens) = due_further opens true
due_text (Done opens) = due_further opens false

-- what a byte does to how a reading stands, where the reading goes on: where a factor may begin, else what is given
abbrev pub beginning : ℕ → ℕ → Stand → Stand
beginning opens byte other =
    cond (letter byte) (InWord opens 1) (cond (eqb byte 40) (cond (ltb opens 32) (Due (opens + 1)) other) other)

-- a sign that ends a sequence, a parenthesis or a rule
abbrev pub ending : ℕ → ℕ → Stand
ending opens byte =
    cond (eqb byte 124) (Due opens) (cond (eqb byte 41) (After (opens - 1)) (cond (eqb byte 59) NameDue (Done opens)))

-- after a factor that may have no star, and after one that may
abbrev pub following : ℕ → ℕ → Stand
following opens byte = cond (blank byte) (Done opens) (beginning opens byte (ending opens byte))

abbrev pub starring : ℕ → ℕ → Stand
starring opens byte = cond (blank byte) (After opens) (cond (eqb byte 42) (Done opens) (following opens byte))

-- after a whole name
abbrev pub naming : ℕ → Stand
naming byte = cond (blank byte) EqualsDue (cond (eqb byte 61) (Due 0) EqualsDue)

-- a letter more of a name, and of a word
abbrev pub longer_name : ℕ → ℕ → ℕ → Stand
longer_name size kept byte = cond (ltb size 16) (InName (size + 1) (kept_next kept byte)) (InName size kept)

abbrev pub longer_word : ℕ → ℕ → Stand
longer_word opens size = cond (ltb size 16) (InWord opens (size + 1)) (InWord opens size)

-- a byte where a name is due
abbrev pub beginning_name : ℕ → Stand
beginning_name byte = cond (blank byte) NameDue (cond (letter byte) (InName 1 (kept_next 0 byte)) NameDue)

-- a byte
abbrev pub advance : Stand → ℕ → Stand
advance NameDue byte = beginning_name byte
advance (InName size kept) byte = cond (letter byte) (longer_name size kept byte) (naming byte)
advance EqualsDue byte = naming byte
advance (Due opens) byte = cond (blank byte) (Due opens) (beginning opens byte (Due opens))
advance (InWord opens size) byte = cond (letter byte) (longer_word opens size) (starring opens byte)
advance (After opens) byte = starring opens byte
advance (Done opens) byte = following opens byte

-- bytes one after the other
unfoldable pub advanced : List ℕ → Stand → Stand
advanced [] stand = stand
advanced (byte ∷ more) stand = advanced more (advance stand byte)
