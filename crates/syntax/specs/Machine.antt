-- Reading a sheet byte by byte: how the reading stands, what a byte does, and what a whole text comes to.
use Rattle.std.specs.Prelude.{ℕ, suc, Bool, cond, List, [], ◌∷◌, ◌++◌, ltb, eqb, length}
use Rattle.sheets.specs.Text.{letter, blank, same, empty_word}
use Rattle.sheets.specs.Grammar.{Expression, named, nothing, choice, sequence, starred, Rule, rule}

-- the sequences before the last `|` of an expression, with its place; and the factors of the sequence under way
pub data Choices : Type 0 where
  no_choice : Choices
  before : ℕ → Expression → Choices

pub data Factors : Type 0 where
  no_factor : Factors
  so_far : Expression → Factors

-- an expression under way
pub record Frame : Type 0 where
  pub choices : Choices
  pub factors : Factors

abbrev pub frame : Choices → Factors → Frame
frame choices factors = record { choices = choices; factors = factors }

-- an expression of which nothing is read
abbrev pub blank_frame : Frame
blank_frame = frame no_choice no_factor

-- a factor that began at a place, after those so far
unfoldable pub joined : ℕ → Expression → Factors → Factors
joined place e no_factor = so_far e
joined place e (so_far f) = so_far (sequence place f e)

-- a frame with a factor more
unfoldable pub with_factor : ℕ → Expression → Frame → Frame
with_factor place e f = frame f.choices (joined place e f.factors)

-- a sequence after the choices so far
unfoldable pub chosen : Choices → Expression → Expression
chosen no_choice e = e
chosen (before place c) e = choice place c e

-- the expression that a frame is, where it has a factor
unfoldable pub closed_by : Choices → Factors → Expression
closed_by choices no_factor = nothing 0
closed_by choices (so_far e) = chosen choices e

abbrev pub closed : Frame → Expression
closed f = closed_by f.choices f.factors

-- an open parenthesis: its place, and the expression around it
pub record Open : Type 0 where
  pub place : ℕ
  pub around : Frame

-- within an expression: a factor is due; in a word, with its place and its letters so far; after a factor that began at
-- a place, which may have a star; after a factor that may have none
pub data Spot : Type 0 where
  due : Spot
  in_word : ℕ → List ℕ → Spot
  after : ℕ → Expression → Spot
  done : Spot

-- within a rule, whose name stands at a place: the parentheses open, the innermost first, and the expression under way
pub record Inside : Type 0 where
  pub rules : List Rule
  pub place : ℕ
  pub name : List ℕ
  pub opens : List Open

-- how the reading stands, with the rules read: a name is due, in a name, `=` is due, within an expression
pub data State : Type 0 where
  name_due : List Rule → State
  in_name : List Rule → ℕ → List ℕ → State
  equals_due : List Rule → ℕ → List ℕ → State
  inside : Inside → Frame → Spot → State

-- what a byte does: the reading goes on, or no sheet begins so
pub data Next : Type 0 where
  goes : State → Next
  stops : Next

-- what a text comes to: a sheet's rules, or the place where it goes wrong or more is due
pub data Outcome : Type 0 where
  sheet : List Rule → Outcome
  wrong : ℕ → Outcome

-- a word within an expression
unfoldable pub word_of : ℕ → List ℕ → Expression
word_of place letters = cond (same letters empty_word) (nothing place) (named place letters)

-- a parenthesis opens, where fewer than 32 are open
unfoldable pub opened : Inside → Frame → ℕ → Next
opened i f at =
    cond (ltb (length i.opens) 32)
    (goes (inside
    (record {
      rules = i.rules;
      place = i.place;
      name = i.name;
      opens = record { place = at; around = f } ∷ i.opens;
    })
    blank_frame
    due))
    stops

-- a parenthesis closes, where one is open; a rule ends, where none is
unfoldable pub closes : Inside → List Open → Expression → Next
closes i [] e = stops
closes i (o ∷ opens) e =
    goes (inside
    (record { rules = i.rules; place = i.place; name = i.name; opens = opens })
    o.around
    (after o.place e))

unfoldable pub ends : Inside → List Open → Expression → Next
ends i [] e = goes (name_due (i.rules ++ (rule i.place i.name e ∷ [])))
ends i (o ∷ opens) e = stops

-- a byte where a factor may begin, else what is given
unfoldable pub begins : Inside → Frame → ℕ → ℕ → Next → Next
begins i f at byte other =
    cond (letter byte) (goes (inside i f (in_word at (byte ∷ [])))) (cond (eqb byte 40) (opened i f at) other)

-- a byte after a factor that may have no star
unfoldable pub follows : Inside → Frame → ℕ → ℕ → Next
follows i f at byte =
    cond (blank byte) (goes (inside i f done))
    (begins i f at byte
    (cond (eqb byte 124) (goes (inside i (frame (before at (closed f)) no_factor) due))
    (cond (eqb byte 41) (closes i i.opens (closed f)) (cond (eqb byte 59) (ends i i.opens (closed f)) stops))))

-- a byte after a factor that may have a star
unfoldable pub may_star : Inside → Frame → ℕ → Expression → ℕ → ℕ → Next
may_star i f place e at byte =
    cond (blank byte) (goes (inside i f (after place e)))
    (cond (eqb byte 42) (goes (inside i (with_factor place (starred at e) f) done))
    (follows i (with_factor place e f) at byte))

-- a byte within an expression
unfoldable pub within : Inside → Frame → Spot → ℕ → ℕ → Next
within i f due at byte = cond (blank byte) (goes (inside i f due)) (begins i f at byte stops)
within i f (in_word place letters) at byte =
    cond (letter byte)
    (cond (ltb (length letters) 16) (goes (inside i f (in_word place (letters ++ (byte ∷ []))))) stops)
    (may_star i f place (word_of place letters) at byte)
within i f (after place e) at byte = may_star i f place e at byte
within i f done at byte = follows i f at byte

-- an expression begins after `=`
abbrev pub begun : List Rule → ℕ → List ℕ → State
begun rules place letters =
    inside (record { rules = rules; place = place; name = letters; opens = [] }) blank_frame due

-- a byte after a whole name
unfoldable pub after_name : List Rule → ℕ → List ℕ → ℕ → Next
after_name rules place letters byte =
    cond (blank byte) (goes (equals_due rules place letters)) (cond (eqb byte 61) (goes (begun rules place letters)) stops)

-- what a byte at a place does
unfoldable pub step : State → ℕ → ℕ → Next
step (name_due rules) at byte =
    cond (blank byte) (goes (name_due rules)) (cond (letter byte) (goes (in_name rules at (byte ∷ []))) stops)
step (in_name rules place letters) at byte =
    cond (letter byte)
    (cond (ltb (length letters) 16) (goes (in_name rules place (letters ++ (byte ∷ [])))) stops)
    (cond (same letters empty_word) stops (after_name rules place letters byte))
step (equals_due rules place letters) at byte = after_name rules place letters byte
step (inside i f spot) at byte = within i f spot at byte

-- the end of a text: one or more rules are read and no other begun, or more is due
unfoldable pub at_end : State → ℕ → Outcome
at_end (name_due []) at = wrong at
at_end (name_due (r ∷ rules)) at = sheet (r ∷ rules)
at_end (in_name rules place letters) at = wrong at
at_end (equals_due rules place letters) at = wrong at
at_end (inside i f spot) at = wrong at

-- on after what a byte at a place does
unfoldable pub onward : Next → (State → Outcome) → ℕ → Outcome
onward (goes state) rest at = rest state
onward stops rest at = wrong at

-- a text from a place on
unfoldable pub run : List ℕ → State → ℕ → Outcome
run [] state at = at_end state at
run (byte ∷ more) state at = onward (step state at byte) (λ s. run more s (suc at)) at

-- a whole text
abbrev pub read_sheet : List ℕ → Outcome
read_sheet text = run text (name_due []) 0
