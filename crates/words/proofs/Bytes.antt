-- Numbers as bytes: how many bytes they are, and what is read there.
use mathlib.Core.Path.{◌≡◌, refl, ap, ◌∙◌}
use mathlib.Core.List.{List, [], ◌∷◌, ◌++◌}
use Prim.Native.Nat.{ℕ, zero, suc, ◌+◌, ◌*◌, ◌/◌, ◌%◌, ◌<◌}
use native.Mathlib.Omega.{arith}
use lib.ListN.{length, get_or}
use Rattle.words.specs.Words.{u16_at, word_bytes, Below, below_none, below_more}

-- a number's two bytes
pub word_is : (n : ℕ) → n < 65536 → n % 256 + 256 * (n / 256 % 256) ≡ n
word_is n small = omega arith

-- a number is two bytes
pub length_words : (words : List ℕ) → length (word_bytes words) ≡ 2 * length words
unfolding word_bytes
length_words [] = refl
length_words (n ∷ more) = omega (arith, length_words more)

-- the bytes of numbers, one list after the other
pub words_append : (xs ys : List ℕ) → word_bytes (xs ++ ys) ≡ word_bytes xs ++ word_bytes ys
unfolding word_bytes
words_append [] ys = refl
words_append (x ∷ xs) ys = ap (λ (l : List ℕ). x % 256 ∷ x / 256 % 256 ∷ l) (words_append xs ys)

-- numbers that take 16 bits
abbrev pub Small : List ℕ → Type 0
Small words = Below 65536 words

pub below_append : {limit : ℕ} {xs ys : List ℕ} → Below limit xs → Below limit ys → Below limit (xs ++ ys)
below_append below_none also = also
below_append (below_more below rest) also = below_more below (below_append rest also)

-- numbers that are each below a limit
pub below_each : {limit : ℕ} (l : List ℕ) → ((i : ℕ) → get_or l i 0 < limit) → Below limit l
below_each [] each = below_none
below_each (n ∷ more) each = below_more (each 0) (below_each more (λ i. each (suc i)))

-- the number at a place behind two bytes
pub u16_behind : (low high : ℕ) (bytes : List ℕ) (at : ℕ) → u16_at (low ∷ high ∷ bytes) (suc (suc at)) ≡ u16_at bytes at
unfolding u16_at
u16_behind low high bytes at =
    let next : suc (suc at) + 1 ≡ suc (suc (at + 1)) = omega arith in
    rw next

-- numbers that take 16 bits are read as they are, whatever follows
pub u16_words : {words : List ℕ} → Small words → (rest : List ℕ) (i : ℕ) → i < length words
    → u16_at (word_bytes words ++ rest) (2 * i) ≡ get_or words i 0
unfolding u16_at word_bytes
u16_words below_none rest i below = absurd (omega arith)
u16_words (below_more {n} small others) rest zero below = word_is n small
u16_words (below_more {n} {more = words} small others) rest (suc i) below =
    let place : 2 * suc i ≡ suc (suc (2 * i)) = omega arith in
    rw place (u16_behind (n % 256) (n / 256 % 256) (word_bytes words ++ rest) (2 * i) ∙ u16_words others rest i (omega arith))
