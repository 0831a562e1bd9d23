-- 16-bit numbers in lists of bytes, low byte first, and lists of zeros.
use Rattle.std.specs.Prelude.{ℕ, ◌+◌, ◌*◌, ◌/◌, ◌%◌, ◌<◌, List, [], ◌∷◌, get_or, set, replicate}

-- the 16-bit number at a place, low byte first
unfoldable pub u16_at : List ℕ → ℕ → ℕ
u16_at bytes at = get_or bytes at 0 + 256 * get_or bytes (at + 1) 0

-- the list with a 16-bit number at a place, low byte first
unfoldable pub with_u16 : List ℕ → ℕ → ℕ → List ℕ
with_u16 bytes at value = set (set bytes at (value % 256)) (at + 1) (value / 256 % 256)

-- numbers as bytes: 16 bits each, low byte first
unfoldable pub word_bytes : List ℕ → List ℕ
word_bytes [] = []
word_bytes (n ∷ more) = n % 256 ∷ n / 256 % 256 ∷ word_bytes more

-- numbers below a limit, as the 256 of bytes
pub data Below (limit : ℕ) : List ℕ → Type 0 where
  below_none : Below limit []
  below_more : {n : ℕ} {more : List ℕ} → n < limit → Below limit more → Below limit (n ∷ more)

-- a list of zeros
abbrev pub zeros : ℕ → List ℕ
zeros n = replicate n 0
