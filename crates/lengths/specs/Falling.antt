-- Measures that only fall: what the measures of its left and right give a node, and what a table of them tells. The
-- length of a run is one.
use Rattle.std.specs.Prelude.{ℕ, ◌+◌, ◌≤◌, ◌<◌, ◌≡◌, Bool, false, cond, List, ltb, length, get_or}
use Rattle.book.specs.declared.Node.{Node}
use Rattle.book.specs.declared.Node.TheVariants.{Fail, Empty, Token, Either, Then, Tagged, Ref}
use Rattle.grammar.specs.Derivations.{Derives}
use Rattle.rules.specs.Growth.{Told, Turned}

-- the smaller of two numbers
abbrev pub smaller : ℕ → ℕ → ℕ
smaller one other = cond (ltb one other) one other

-- the measure that stands in a table for a node, the cap beyond the table
abbrev pub measure_at : ℕ → List ℕ → ℕ → ℕ
measure_at cap table n = get_or table n cap

-- the measure of a node by those of its left and right, cut
module _ (cap : ℕ) (token : ℕ → ℕ) (joined : ℕ → ℕ → ℕ) where
  abbrev pub measure_by : Node → (ℕ → ℕ) → ℕ
  measure_by Fail by = cap
  measure_by Empty by = 0
  measure_by (Token k) by = token k
  measure_by (Either l r) by = smaller (by l) (by r)
  measure_by (Then l r) by = smaller (joined (by l) (by r)) cap
  measure_by (Tagged l t) by = by l
  measure_by (Ref l) by = by l

-- the length of a node by the lengths of its left and right, cut at 65,536
unfoldable pub length_of : Node → (ℕ → ℕ) → ℕ
length_of = measure_by 65536 (λ k. 1) (λ one other. one + other)

-- a number tells the measures that are as large or larger, so that it falls as more are told
abbrev pub at_most : ℕ → Told
at_most cap = record { tells = ◌≤◌; nothing = cap; up = false }

-- a node derives a run that measures at most a number
pub record Some (size : List ℕ → ℕ) (node : ℕ → Node) (at : Node) (k : ℕ) : Type 0 where
  pub run : List ℕ
  pub derived : Derives node at run
  pub small : size run ≤ k

-- a measure below the cap that stands for a node has a run that measures no more
pub record SomeAt (cap : ℕ) (size : List ℕ → ℕ) (node : ℕ → Node) (n k : ℕ) : Type 0 where
  pub some : k < cap → Some size node (node n) k

-- the table has at a node no more than its left and right give
pub record NoMore (cap : ℕ) (token : ℕ → ℕ) (joined : ℕ → ℕ → ℕ) (node : ℕ → Node) (table : List ℕ) (n : ℕ) : Type 0 where
  pub no_more : measure_at cap table n ≤ measure_by cap token joined (node n) (measure_at cap table)

-- a table of a length at least in which every measure is the cap
pub record AllCap (cap least : ℕ) (table : List ℕ) : Type 0 where
  pub long : least ≤ length table
  pub caps : (n : ℕ) → measure_at cap table n ≡ cap

-- every length is the cap
abbrev pub Fresh : ℕ → List ℕ → Type 0
Fresh = AllCap 65536

-- the nodes below a count have been visited
abbrev pub AllLowered : ℕ → (ℕ → ℕ) → (ℕ → ℕ → ℕ) → (List ℕ → ℕ) → (ℕ → Node) → ℕ → List ℕ → List ℕ → Bool → Type 0
AllLowered cap token joined size node = Turned (at_most cap) (SomeAt cap size node) (NoMore cap token joined node)

-- the table has the least measures of all nodes, cut
pub record Leasts (cap : ℕ) (size : List ℕ → ℕ) (node : ℕ → Node) (table : List ℕ) : Type 0 where
  pub capped : (n : ℕ) → measure_at cap table n ≤ cap
  pub some : (n : ℕ) → measure_at cap table n < cap → Some size node (node n) (measure_at cap table n)
  pub none_less : (n : ℕ) (run : List ℕ) → Derives node (node n) run → measure_at cap table n ≤ size run
