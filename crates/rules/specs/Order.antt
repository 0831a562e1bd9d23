-- Orders in which a turn visits the nodes below a count.
use Rattle.std.specs.Prelude.{ℕ, ◌≡◌, ◌<◌}

-- one of the first steps gives a node alone
abbrev pub GivenBy : (ℕ → ℕ → Type 0) → ℕ → ℕ → Type 0
GivenBy gives steps n = (step : ℕ) × (step < steps) × ((m : ℕ) → gives step m → m ≡ n)

-- what gives the node of each step of a turn over so many: it may be asked at each step, and gives a node below the
-- count, and each of those at some step
pub record Order (may : ℕ → ℕ → Type 0) (gives : ℕ → ℕ → ℕ → Type 0) (count : ℕ) : Type 0 where
  pub can : (step : ℕ) → step < count → may count step
  pub below : (step n : ℕ) → step < count → gives count step n → n < count
  pub all : (n : ℕ) → n < count → GivenBy (gives count) count n
