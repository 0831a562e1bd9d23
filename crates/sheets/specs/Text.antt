-- A sheet's text as words and signs, each with the place of its first byte.
use Rattle.std.specs.Prelude.{ℕ, suc, Bool, true, false, ◌&&◌, ◌||◌, cond, List, [], ◌∷◌, leb, eqb}

-- a small letter, and a byte that separates words and means nothing else
unfoldable pub letter : ℕ → Bool
letter byte = leb 97 byte && leb byte 122

unfoldable pub blank : ℕ → Bool
blank byte = eqb byte 32 || eqb byte 10

-- a word with its letters, or a sign, which is any other byte; each with its place
pub data Token : Type 0 where
  word : ℕ → List ℕ → Token
  sign : ℕ → ℕ → Token

-- a letter at a place, before what follows: it is joined to a word that begins at the next place
unfoldable pub with_letter : ℕ → ℕ → List Token → List Token
with_letter at byte [] = word at (byte ∷ []) ∷ []
with_letter at byte (sign p other ∷ more) = word at (byte ∷ []) ∷ sign p other ∷ more
with_letter at byte (word p letters ∷ more) =
    cond (eqb p (suc at)) (word at (byte ∷ letters) ∷ more) (word at (byte ∷ []) ∷ word p letters ∷ more)

-- the words and signs of a text that begins at a place
unfoldable pub tokens : ℕ → List ℕ → List Token
tokens at [] = []
tokens at (byte ∷ more) =
    cond (letter byte) (with_letter at byte (tokens (suc at) more))
    (cond (blank byte) (tokens (suc at) more) (sign at byte ∷ tokens (suc at) more))

-- whether two words are the same
unfoldable pub same : List ℕ → List ℕ → Bool
same [] [] = true
same [] (b ∷ more) = false
same (a ∷ more) [] = false
same (a ∷ more) (b ∷ others) = eqb a b && same more others

-- the word `empty`
abbrev pub empty_word : List ℕ
empty_word = 101 ∷ 109 ∷ 112 ∷ 116 ∷ 121 ∷ []
