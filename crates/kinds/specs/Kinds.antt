-- Sets of kinds as 64-bit masks: the bit at place k says whether the kind k is in the set.
use Rattle.std.specs.Prelude.{ℕ, zero, suc, ◌+◌, ◌<◌, ◌^◌, ◌/◌, ◌%◌, ◌≡◌, ◌≢◌, Bool, cond, eqb}
use Rattle.std.specs.Int.Bits.{bit_and, bit_or, bit_xor}
use Rattle.std.specs.Int.Count.{count_trailing_zeros}

-- the set has the kind
pub record Has (mask k : ℕ) : Type 0 where
  pub bit : mask / 2 ^ k % 2 ≡ 1

-- whether the set has the kind, as a test
abbrev pub has? : ℕ → ℕ → Bool
has? mask k = eqb (mask / 2 ^ k % 2) 1

-- the set of all kinds below 64
unfoldable pub every_kind : ℕ
every_kind = 18446744073709551615

-- the set of one kind
abbrev pub only_kind : ℕ → ℕ
only_kind k = 2 ^ k

-- the set of the kinds below a number that pass a test, as a sum of 2 to the power of each
unfoldable pub set_of : (ℕ → Bool) → ℕ → ℕ
set_of test zero = 0
set_of test (suc k) = cond (test k) (2 ^ k) 0 + set_of test k

-- the kinds of either set
abbrev pub joined : ℕ → ℕ → ℕ
joined a b = bit_or a b

-- the kinds of both sets
abbrev pub in_both : ℕ → ℕ → ℕ
in_both a b = bit_and a b

-- a set without one of its kinds
abbrev pub without_kind : ℕ → ℕ → ℕ
without_kind mask k = bit_xor mask (only_kind k)

-- the lowest kind of a set, 64 for the empty set
unfoldable pub lowest_kind : ℕ → ℕ
lowest_kind mask = count_trailing_zeros 64 mask

-- a number is the lowest kind of a set, or 64 and the set is empty
pub record LowestIn (mask k : ℕ) : Type 0 where
  pub least : (j : ℕ) → j < k → Has mask j → ⊥
  pub found : mask ≢ 0 → Has mask k
  pub empty : mask ≡ 0 → k ≡ 64
