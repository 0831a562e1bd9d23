-- What a sheet is: one or more rules `name = expression ;`.
use Rattle.std.specs.Prelude.{ℕ, zero, suc, ◌≤◌, ◌≢◌, List, [], ◌∷◌, length}
use Rattle.sheets.specs.Text.{Token, word, sign, tokens, empty_word}

-- an expression, each part with the place of the text from which its nodes come: a word or `empty` its first byte, a
-- choice its `|`, a sequence the first byte of its further factor, a star the `*`
pub data Expression : Type 0 where
  named : ℕ → List ℕ → Expression
  nothing : ℕ → Expression
  choice : ℕ → Expression → Expression → Expression
  sequence : ℕ → Expression → Expression → Expression
  starred : ℕ → Expression → Expression

-- a rule: the place of its name, its name, and its expression
pub record Rule : Type 0 where
  pub place : ℕ
  pub name : List ℕ
  pub expression : Expression

abbrev pub rule : ℕ → List ℕ → Expression → Rule
rule place name expression = record { place = place; name = name; expression = expression }

-- a word has 1 to 16 small letters; `empty` is kept and is no word
pub record IsWord (letters : List ℕ) : Type 0 where
  pub short : length letters ≤ 16
  pub free : letters ≢ empty_word

-- the place of the first token
abbrev pub first_place : List Token → ℕ
first_place [] = 0
first_place (word p letters ∷ more) = p
first_place (sign p byte ∷ more) = p

-- what a text is read as: a factor without its star, a factor, a sequence, an expression
pub data Sort : Type 0 where
  bare : Sort
  factor : Sort
  factors : Sort
  sequences : Sort

-- an expression is one or more sequences with `|` between them; a sequence is one or more factors; a factor is a word,
-- `( expression )` or `empty`, with at most one `*` after it. With so many nestings left, from some tokens on to those
-- that are left
pub data Reads : Sort → ℕ → List Token → Expression → List Token → Type 0 where
  a_word : {d p : ℕ} {letters : List ℕ} {more : List Token}
      → IsWord letters → Reads bare d (word p letters ∷ more) (named p letters) more
  an_empty : {d p : ℕ} {more : List Token} → Reads bare d (word p empty_word ∷ more) (nothing p) more
  a_group : {d p q : ℕ} {inner more : List Token} {e : Expression}
      → Reads sequences d inner e (sign q 41 ∷ more) → Reads bare (suc d) (sign p 40 ∷ inner) e more
  plain : {d : ℕ} {from more : List Token} {e : Expression} → Reads bare d from e more → Reads factor d from e more
  a_star : {d p : ℕ} {from more : List Token} {e : Expression}
      → Reads bare d from e (sign p 42 ∷ more) → Reads factor d from (starred p e) more
  one_factor : {d : ℕ} {from more : List Token} {e : Expression}
      → Reads factor d from e more → Reads factors d from e more
  further_factor : {d : ℕ} {from further more : List Token} {e f : Expression}
      → Reads factors d from e further → Reads factor d further f more
      → Reads factors d from (sequence (first_place further) e f) more
  one_sequence : {d : ℕ} {from more : List Token} {e : Expression}
      → Reads factors d from e more → Reads sequences d from e more
  further_sequence : {d p : ℕ} {from further more : List Token} {e f : Expression}
      → Reads sequences d from e (sign p 124 ∷ further) → Reads factors d further f more
      → Reads sequences d from (choice p e f) more

-- rules, one after the other; parentheses nest to 32
pub data Rules : List Token → List Rule → Type 0 where
  no_rules : Rules [] []
  a_rule : {p q r : ℕ} {name : List ℕ} {inner more : List Token} {e : Expression} {rules : List Rule}
      → IsWord name → Reads sequences 32 inner e (sign r 59 ∷ more) → Rules more rules
      → Rules (word p name ∷ sign q 61 ∷ inner) (rule p name e ∷ rules)

-- a text is the sheet of a first rule and further ones
abbrev pub Sheet : List ℕ → Rule → List Rule → Type 0
Sheet text first further = Rules (tokens 0 text) (first ∷ further)

-- a text is a sheet
pub record IsSheet (text : List ℕ) : Type 0 where
  pub first : Rule
  pub further : List Rule
  pub sheet : Sheet text first further
