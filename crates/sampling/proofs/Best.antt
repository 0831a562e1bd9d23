-- Best runs: there is at most one, those of the sides make that of a node, and the weight of one is the least.
use Prim.Native.Nat.{ℕ, ◌+◌, ◌*◌, ◌<◌}
use native.Mathlib.Omega.{arith}
use mathlib.Core.Path.{◌≡◌, sym, subst}
use mathlib.Core.List.{List, [], ◌∷◌, ◌++◌}
use lib.ListN.{length}
use Rattle.book.specs.declared.Node.{Node}
use Rattle.book.specs.declared.Node.TheVariants.{Token, Either, Then, Tagged, Ref}
use Rattle.grammar.specs.Rules.{First, Nullable}
use Rattle.grammar.specs.Derivations.{Derives, d_token, d_left, d_right, d_then, d_tagged, d_ref}
use Rattle.grammar.proofs.Facts.{derives_opens}
use Rattle.weights.specs.Weight.{weight_of, CAP, weight_at, Lightest, Weights}
use Rattle.weights.proofs.Weighing.{Kinded, head_small}
use Rattle.weights.proofs.Lowering.{weight_none_lighter, weight_lightest}
use Rattle.sampling.specs.Sample.{ends, same, Best}
use Rattle.sampling.proofs.Order.{no_higher_head, no_higher_both, Before, lighter_before, before-append, empty_before}

-- two best runs of a node are the same
pub best_unique : {node : ℕ → Node} {at : Node} {run other : List ℕ} → Best node at run → Best node at other → run ≡ other
best_unique {run = run} {other = other} one two =
    let alike : length other ≡ length run = omega (arith, one.shortest other two.derived, two.shortest run one.derived) in
    no_higher_both (one.lowest other two.derived alike) (two.lowest run one.derived (sym alike))

module _ {node : ℕ → Node} where
  best_of : {at : Node} {run : List ℕ} → Derives node at run → ((other : List ℕ) → Derives node at other → Before run other)
      → Best node at run
  best_of d before = record {
    derived = d;
    shortest = λ other e. (before other e).shorter;
    lowest = λ other e. (before other e).lowers;
  }

  best_before : {at : Node} {run : List ℕ} → Best node at run → (other : List ℕ) → Derives node at other → Before run other
  best_before best other e = record { shorter = best.shortest other e; lowers = best.lowest other e }

  pub best_token : {k : ℕ} → Best node (Token k) (k ∷ [])
  best_token {k} = best_of d_token before
    where
      before : (other : List ℕ) → Derives node (Token k) other → Before (k ∷ []) other
      before other d_token = record { shorter = omega arith; lowers = λ alike. same ends }

  pub best_then : {l r : ℕ} {xs ys : List ℕ} → Best node (node l) xs → Best node (node r) ys → Best node (Then l r) (xs ++ ys)
  best_then {l} {r} {xs} {ys} one two = best_of (d_then one.derived two.derived) before
    where
      before : (other : List ℕ) → Derives node (Then l r) other → Before (xs ++ ys) other
      before other (d_then d e) = before-append (best_before one _ d) (best_before two _ e)

  pub best_tagged : {l t : ℕ} {run : List ℕ} → Best node (node l) run → Best node (Tagged l t) run
  best_tagged {l} {t} {run} best = best_of (d_tagged best.derived) before
    where
      before : (other : List ℕ) → Derives node (Tagged l t) other → Before run other
      before other (d_tagged d) = best_before best other d

  pub best_ref : {l : ℕ} {run : List ℕ} → Best node (node l) run → Best node (Ref l) run
  best_ref {l} {run} best = best_of (d_ref best.derived) before
    where
      before : (other : List ℕ) → Derives node (Ref l) other → Before run other
      before other (d_ref d) = best_before best other d

  -- ---- by the least weights

  module _ {weights : List ℕ} (are : Weights node weights) (kinded : Kinded node) where
    -- a best run has the least weight
    pub best_weight : {n : ℕ} {run : List ℕ} → weight_at weights n < CAP → Best node (node n) run → weight_of run ≡ weight_at weights n
    best_weight {n} {run} below best =
        let own = weight_lightest are n below in
        let small = head_small kinded (kinded n) best.derived in
        let more = weight_none_lighter are n run best.derived in
        let shorter = best.shortest own.run own.derived in
        let alike : length own.run ≡ length run = omega (arith, small, more, shorter, own.weighs) in
        omega (arith, alike, more, own.weighs, no_higher_head (best.lowest own.run own.derived alike))

    -- a best run that is lighter than any of a node comes before these
    best_lighter : {n m : ℕ} {run : List ℕ} → weight_at weights n < CAP → Best node (node n) run → weight_at weights n < weight_at weights m
        → (other : List ℕ) → Derives node (node m) other → Before run other
    best_lighter {n} {m} {run} below best less other e =
        lighter_before run other (head_small kinded (kinded n) best.derived) (head_small kinded (kinded m) e)
        (omega (arith, best_weight below best, less, weight_none_lighter are m other e))

    module _ {l r : ℕ} {run : List ℕ} where
      pub best_left : weight_at weights l < CAP → weight_at weights l < weight_at weights r → Best node (node l) run
          → Best node (Either l r) run
      best_left below less best = best_of (d_left best.derived) before
        where
          before : (other : List ℕ) → Derives node (Either l r) other → Before run other
          before other (d_left d) = best_before best other d
          before other (d_right e) = best_lighter below best less other e

      pub best_right : weight_at weights r < CAP → weight_at weights r < weight_at weights l → Best node (node r) run
          → Best node (Either l r) run
      best_right below less best = best_of (d_right best.derived) before
        where
          before : (other : List ℕ) → Derives node (Either l r) other → Before run other
          before other (d_left d) = best_lighter below best less other d
          before other (d_right e) = best_before best other e

    -- the best run of a node lighter than an event is empty
    pub empty_derived : (n : ℕ) → weight_at weights n < 64 → Derives node (node n) []
    empty_derived n light = nothing own.run own.derived (omega (arith, own.weighs))
      where
        own : Lightest node (node n) (weight_at weights n)
        own = weight_lightest are n (omega arith)

        nothing : (run : List ℕ) → Derives node (node n) run → length run ≡ 0 → Derives node (node n) []
        nothing [] d e = d
        nothing (k ∷ run) d e = absurd (omega arith)

    pub best_empty : (n : ℕ) → weight_at weights n < 64 → Best node (node n) []
    best_empty n light = best_of (empty_derived n light) (λ other e. empty_before other)

    pub empty_nullable : (n : ℕ) → weight_at weights n < 64 → Nullable node (node n)
    empty_nullable n light = derives_opens (empty_derived n light)

    -- the first kind of a node's weight is in FIRST
    pub weight_first : (n m k : ℕ) → weight_at weights n ≡ 64 * m + k → k < 64 → 0 < m → m < 65536 → First node (node n) k
    weight_first n m k is small some few = begins own.run own.derived own.weighs
      where
        own : Lightest node (node n) (weight_at weights n)
        own = weight_lightest are n (omega (arith, is))

        begins : (run : List ℕ) → Derives node (node n) run → weight_of run ≡ weight_at weights n → First node (node n) k
        begins [] d weighs = absurd (omega (arith, is))
        begins (j ∷ run) d weighs =
            let e : j ≡ k = omega (arith, is, head_small kinded (kinded n) d) in
            subst (First node (node n)) e (derives_opens d)
