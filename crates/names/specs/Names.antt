-- Names in bytes, one after the other: each a length byte, then its bytes. A book's third section is such a list of
-- names, and so is the house list.
use Rattle.std.specs.Prelude.{ℕ, zero, suc, ◌+◌, ◌≤◌, ◌<◌, Bool, not, ◌&&◌, List, [], ◌∷◌, ◌++◌, ◌≢◌, leb, eqb, length, get_or}
use Rattle.words.specs.Lists.{first_bad, every, part_at, same}

-- number 19
abbrev pub NAMES : ℕ
NAMES = 19

-- how many names the house list has
abbrev pub HOUSE-NAMES : ℕ
HOUSE-NAMES = 64

-- whether a byte may stand in a name: 33 to 126
abbrev pub visible : ℕ → Bool
visible byte = leb 33 byte && leb byte 126

-- whether so many bytes from a place on may all stand in a name
abbrev pub all_visible : List ℕ → ℕ → ℕ → Bool
all_visible bytes from size = every (λ i. visible (get_or bytes (from + i) 0)) size

-- where the name whose length byte stands at a place ends
abbrev pub past_name : List ℕ → ℕ → ℕ
past_name bytes at = at + 1 + get_or bytes at 0

-- the bytes of the name whose length byte stands at a place
abbrev pub name_from : List ℕ → ℕ → List ℕ
name_from bytes at = part_at bytes (at + 1) (get_or bytes at 0)

-- whether the name at a place is whole: a length byte from 1 to 16, and that many bytes from 33 to 126
unfoldable pub whole_at : List ℕ → ℕ → Bool
whole_at bytes at =
    leb 1 (get_or bytes at 0)
    && leb (get_or bytes at 0) 16
    && leb (past_name bytes at) (length bytes)
    && all_visible bytes (at + 1) (get_or bytes at 0)

module _ (bytes : List ℕ) (base : ℕ) where
  -- where the name with a number begins, in names that begin at `base`
  unfoldable pub name_at : ℕ → ℕ
  name_at zero = base
  name_at (suc n) = past_name bytes (name_at n)

  -- the bytes of the name with a number
  abbrev pub name_of : ℕ → List ℕ
  name_of n = name_from bytes (name_at n)

  -- whether no earlier name is the same
  unfoldable pub name_new : ℕ → Bool
  name_new n = every (λ m. not (same (name_of m) (name_of n))) n

  -- whether the name with a number is good
  unfoldable pub name_good : ℕ → Bool
  name_good n = whole_at bytes (name_at n) && name_new n

  -- the first bad name of so many, or their count
  abbrev pub first_bad_name : ℕ → ℕ
  first_bad_name count = first_bad name_good count 0

  -- whether so many good names stand from `base` to the end; where not, the first bad name is the place of 19
  unfoldable pub names_good : ℕ → Bool
  names_good count = leb count (first_bad_name count) && eqb (name_at count) (length bytes)

  -- so many names, from a number on
  unfoldable pub names_from : ℕ → ℕ → List (List ℕ)
  names_from zero n = []
  names_from (suc left) n = name_of n ∷ names_from left (suc n)

  -- the first so many names
  abbrev pub names_of : ℕ → List (List ℕ)
  names_of count = names_from count 0

-- names as bytes
unfoldable pub names_bytes : List (List ℕ) → List ℕ
names_bytes [] = []
names_bytes (name ∷ more) = length name ∷ (name ++ names_bytes more)

-- a good name: 1 to 16 bytes from 33 to 126
pub record GoodName (name : List ℕ) : Type 0 where
  pub some_byte : 1 ≤ length name
  pub few_bytes : length name ≤ 16
  pub all-visible : (i : ℕ) → i < length name → (33 ≤ get_or name i 0) × (get_or name i 0 ≤ 126)

-- good names, none twice
pub record GoodNames (names : List (List ℕ)) : Type 0 where
  pub each_good : (n : ℕ) → n < length names → GoodName (get_or names n [])
  pub none_twice : (m n : ℕ) → m < n → n < length names → get_or names m [] ≢ get_or names n []
