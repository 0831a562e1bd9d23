-- The parts that are due, in a list of numbers, and what the function that writes a sample leaves.
use Rattle.std.specs.Prelude.{ℕ, zero, suc, ◌/◌, ◌≤◌, ◌<◌, ◌≡◌, List, [], ◌∷◌, length, get_or}
use Rattle.book.specs.Book.{Book}
use Rattle.grammar.specs.Passing.{Passes}
use Rattle.weights.specs.Weight.{CAP, weight_at, Weights}
use Rattle.written.specs.Written.{with_zeros}
use Rattle.sampling.specs.Sample.{Sample}

-- the parts in the first so many places, the one put last in front
unfoldable pub stacked : List ℕ → ℕ → List ℕ
stacked parts zero = []
stacked parts (suc held) = get_or parts held 0 ∷ stacked parts held

-- a book that passes, with its least weights, and room for its sample
pub record Ready (b : Book) (weights : List ℕ) (room : ℕ) : Type 0 where
  pub passes : Passes b
  pub are : Weights b.node weights
  pub long : length weights ≡ 512
  pub short : weight_at weights b.start < CAP
  pub fits : weight_at weights b.start / 64 ≤ room

-- the sample has been written from the front of zeros
pub record Wrote (b : Book) (out : List ℕ) (room : ℕ) : Type 0 where
  pub run : List ℕ
  pub sample : Sample b run
  pub out_is : out ≡ with_zeros run room
