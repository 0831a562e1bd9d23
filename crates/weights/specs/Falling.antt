-- Weights as a measure of runs: what the weights of its left and right give a node, and tables of weights that fall.
use Rattle.std.specs.Prelude.{ℕ, ◌+◌, ◌*◌, ◌/◌, cond, List, ltb}
use Rattle.book.specs.declared.Node.{Node}
use Rattle.lengths.specs.Falling.{measure_by, AllCap}
use Rattle.weights.specs.Weight.{CAP}

-- the weight of a run of one kind
abbrev pub token : ℕ → ℕ
token kind = 64 + kind

-- the weight of one run followed by another, by their weights
abbrev pub joined : ℕ → ℕ → ℕ
joined one other = cond (ltb one 64) other (one + other / 64 * 64)

-- the weight of a node by the weights of its left and right, cut
unfoldable pub weight_by : Node → (ℕ → ℕ) → ℕ
weight_by = measure_by CAP token joined

-- a table of a length at least in which every weight is the cap
abbrev pub Fresh : ℕ → List ℕ → Type 0
Fresh = AllCap CAP
