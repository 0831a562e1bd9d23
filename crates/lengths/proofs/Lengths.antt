-- Least measures where the measure is the length.
use Prim.Native.Nat.{ℕ, ◌<◌}
use native.Mathlib.Omega.{arith}
use native.Mathlib.Decide.{dec_lt}
use mathlib.Core.Path.{◌≡◌, subst}
use mathlib.Core.List.{List}
use lib.ListN.{length}
use Rattle.book.specs.declared.Node.{Node}
use Rattle.lengths.specs.Least.{length_at, LeastCut, below_cap, at_cap}
use Rattle.lengths.specs.Falling.{Leasts}

pub least_cut : {node : ℕ → Node} {lengths : List ℕ} → Leasts 65536 length node lengths → (n : ℕ)
    → LeastCut node (node n) 65536 (length_at lengths n)
least_cut {node} {lengths} are n = at (dec_lt (length_at lengths n) 65536)
  where
    at : Dec (length_at lengths n < 65536) → LeastCut node (node n) 65536 (length_at lengths n)
    at (yes below) =
        let own = are.some n below in
        below_cap below (record {
          run = own.run;
          derived = own.derived;
          long = omega (arith, own.small, are.none_less n own.run own.derived);
          none_shorter = are.none_less n;
        })
    at (no cap) =
        let is : 65536 ≡ length_at lengths n = omega (arith, are.capped n, cap) in
        subst (LeastCut node (node n) 65536) is (at_cap (λ run d. omega (arith, are.none_less n run d, is)))
