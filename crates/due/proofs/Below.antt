-- Nodes of which all are below a count: the first, and the second of two.
use Prim.Native.Nat.{ℕ, ◌<◌}
use mathlib.Core.List.{List, [], ◌∷◌}
use Rattle.words.specs.Words.{Below, below_more}

pub first_below : {count n : ℕ} {more : List ℕ} → Below count (n ∷ more) → n < count
first_below (below_more h more) = h

pub second_below : {count n m : ℕ} → Below count (n ∷ m ∷ []) → m < count
second_below (below_more h (below_more i none)) = i
