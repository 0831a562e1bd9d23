-- Nodes whose tokens have kinds below 64, or kinds that a measure can tell, and the runs that they derive.
use Prim.Native.Nat.{ℕ, ◌≤◌, ◌<◌}
use native.Mathlib.Omega.{arith}
use native.Mathlib.Decide.{dec_lt}
use mathlib.Core.List.{List, [], ◌∷◌, ◌++◌}
use mathlib.Core.Path.{◌≡◌}
use mathlib.Core.Bool.{Bool, true}
use lib.ListN.{get_or}
use Rattle.book.specs.declared.Node.{Node}
use Rattle.book.specs.declared.Node.TheVariants.{Fail}
use Rattle.book.specs.Book.{Book, WellFormed}
use Rattle.book.specs.Nodes.{Placed, node_in, AreGood}
use Rattle.book.proofs.Decoded.{nodes_beyond}
use Rattle.grammar.specs.Derivations.{Derives, d_empty, d_token, d_left, d_right, d_then, d_tagged, d_ref}
use Rattle.rules.specs.Step.{kind_of}
use Rattle.lengths.specs.Measures.{FittingLaws}
use Rattle.rules.proofs.Reading.{kind_below}

-- all tokens have kinds below 64
abbrev pub Kinded : (ℕ → Node) → Type 0
Kinded node = (n : ℕ) → kind_of (node n) < 64

-- the nodes of a well-formed book have such kinds
pub wf_kinded : (book : Book) → WellFormed book → Kinded book.node
wf_kinded book wf n = at (dec_lt n book.count)
  where
    at : Dec (n < book.count) → kind_of (book.node n) < 64
    at (yes below) = omega (arith, kind_below wf.some_kind (wf.proper n below), wf.few_kinds)
    at (no past) = rw (wf.beyond n (omega arith)) (omega arith)

-- good nodes have such kinds, and stand nowhere from their count on
module _ (at : Placed) where
  pub none_beyond : (n : ℕ) → at.count ≤ n → node_in at n ≡ Fail
  none_beyond n past = nodes_beyond at.bytes at.base at.count n past

  pub nodes_kinded : AreGood at → Kinded (node_in at)
  nodes_kinded good n = by (dec_lt n at.count)
    where
      by : Dec (n < at.count) → kind_of (node_in at n) < 64
      by (yes below) = kind_below (omega arith) (good.proper n below)
      by (no past) = rw (none_beyond n (omega arith)) (omega arith)

-- ---- the first kinds of runs derived

head_append : (Sort : ℕ → Type 0) (xs ys : List ℕ) → Sort (get_or xs 0 0) → Sort (get_or ys 0 0) → Sort (get_or (xs ++ ys) 0 0)
head_append Sort [] ys one other = other
head_append Sort (k ∷ xs) ys one other = one

-- if the kind of every node is of a sort, and 0 is, then so is the first kind of each run
module _ (Sort : ℕ → Type 0) (zero_is : Sort 0) {node : ℕ → Node} (sorts : (n : ℕ) → Sort (kind_of (node n))) where
  head_of_sort : {at : Node} {run : List ℕ} → Sort (kind_of at) → Derives node at run → Sort (get_or run 0 0)
  head_of_sort own d_empty = zero_is
  head_of_sort own d_token = own
  head_of_sort own (d_left {l = l} d) = head_of_sort (sorts l) d
  head_of_sort own (d_right {r = r} d) = head_of_sort (sorts r) d
  head_of_sort own (d_then {l = l} {r = r} {xs = xs} {ys = ys} d e) =
      head_append Sort xs ys (head_of_sort (sorts l) d) (head_of_sort (sorts r) e)
  head_of_sort own (d_tagged {l = l} d) = head_of_sort (sorts l) d
  head_of_sort own (d_ref {l = l} d) = head_of_sort (sorts l) d

pub head_small : {node : ℕ → Node} {at : Node} {run : List ℕ} → Kinded node → kind_of at < 64 → Derives node at run → get_or run 0 0 < 64
head_small kinded own d = head_of_sort (λ k. k < 64) (omega arith) kinded own d

-- all kinds of nodes are such as a measure can tell, and then so are those at the heads of runs; kinds below 64 are
abbrev pub Fitting : (ℕ → Bool) → (ℕ → Node) → Type 0
Fitting fits node = (n : ℕ) → fits (kind_of (node n)) ≡ true

module _ {cap : ℕ} {token : ℕ → ℕ} {joined : ℕ → ℕ → ℕ} {size : List ℕ → ℕ} (laws : FittingLaws cap token joined size) where
  pub head_fits : {node : ℕ → Node} {run : List ℕ} → Fitting laws.fits node → (n : ℕ) → Derives node (node n) run → laws.fits (get_or run 0 0) ≡ true
  head_fits fitting n d = head_of_sort (λ k. laws.fits k ≡ true) (laws.kinds_fit 0 (omega arith)) fitting (fitting n) d

  pub kinded_fitting : (node : ℕ → Node) → Kinded node → Fitting laws.fits node
  kinded_fitting node kinded n = laws.kinds_fit (kind_of (node n)) (kinded n)
