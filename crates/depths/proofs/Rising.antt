-- Where some way weighs more than there are nodes, ways weigh as much as one likes. With so few nodes there is a weight that no node's
-- ways end at: from each node whose ways weigh at least that much, some weigh more; and then it is so for every greater weight too.
use Prim.Native.Nat.{ℕ, zero, suc, ◌+◌, ◌≤◌, ◌<◌}
use native.Mathlib.Omega.{arith}
use mathlib.Core.Path.{◌≡◌}
use mathlib.Core.Bool.{Bool, true}
use mathlib.Core.Logic.{◌↔◌}
use Rattle.book.specs.Book.{Book, WellFormed}
use Rattle.book.specs.declared.Node.{Node}
use Rattle.book.specs.declared.Node.TheVariants.{Then}
use Rattle.grammar.specs.Rules.{Productive}
use Rattle.rules.proofs.Bounds.{named_below}
use Rattle.rules.proofs.Least.{size, size_more, size_bound, Differ, none, some, differ}
use Rattle.depths.specs.Ways.{Weighs, w_token, w_left, w_right, w_hold, w_pass, w_tagged, w_ref, AtLeast}

-- one weight less, of nothing nothing
abbrev pub before : ℕ → ℕ
before zero = zero
before (suc j) = j

-- from every node whose ways weigh at least so much some weigh more
abbrev pub Rises : (ℕ → Node) → ℕ → Type 0
Rises node i = (n : ℕ) → AtLeast node (node n) i → AtLeast node (node n) (suc i)

module _ {node : ℕ → Node} where
  pub at_least_as : {top low : Node} {j : ℕ} → ((w : ℕ) → Weighs node low w → Weighs node top w) → AtLeast node low j → AtLeast node top j
  at_least_as up a = record { weight = a.weight; way = up a.weight a.way; least = a.least }

  pub at_least_less : {top : Node} {i j : ℕ} → i ≤ j → AtLeast node top j → AtLeast node top i
  at_least_less h a = record { weight = a.weight; way = a.way; least = omega (arith, a.least) }

  pub weighs_at_least : {top : Node} {w : ℕ} → Weighs node top w → AtLeast node top w
  weighs_at_least {w = w} way = record { weight = w; way = way; least = omega arith }

  pub held_at_least : (j : ℕ) {l r : ℕ} → Productive node (node r) → AtLeast node (node l) (before j) → AtLeast node (Then l r) j
  held_at_least zero p a = record { weight = suc a.weight; way = w_hold a.way p; least = omega arith }
  held_at_least (suc j) p a = record { weight = suc a.weight; way = w_hold a.way p; least = omega (arith, a.least) }

  -- a way that weighs something goes from a then to its left
  rises_along : {i w : ℕ} {top : Node} → Rises node i → Weighs node top w → suc i ≤ w → AtLeast node top (suc (suc i))
  rises_along rises w_token h = absurd (omega arith)
  rises_along rises (w_left way) h = at_least_as (λ w. w_left) (rises_along rises way h)
  rises_along rises (w_right way) h = at_least_as (λ w. w_right) (rises_along rises way h)
  rises_along {i} rises (w_hold {l} {w = w} way p) h =
      let a = rises l (record { weight = w; way = way; least = omega arith }) in
      record { weight = suc a.weight; way = w_hold a.way p; least = omega (arith, a.least) }
  rises_along rises (w_pass p way) h = at_least_as (λ w. w_pass p) (rises_along rises way h)
  rises_along rises (w_tagged way) h = at_least_as (λ w. w_tagged) (rises_along rises way h)
  rises_along rises (w_ref way) h = at_least_as (λ w. w_ref) (rises_along rises way h)

  rises_next : {i : ℕ} → Rises node i → Rises node (suc i)
  rises_next rises n a = rises_along rises a.way a.least

  -- and so without end
  rises_on : (m : ℕ) {i n : ℕ} → Rises node i → AtLeast node (node n) i → AtLeast node (node n) (m + i)
  rises_on zero {i} {n} rises a = at_least_less (omega arith) a
  rises_on (suc m) {i} {n} rises a = at_least_less {j = m + suc i} (omega arith) (rises_on m (rises_next rises) (rises n a))

-- a test whether ways from the nodes below a count weigh at least so much, for weights below a bound
pub record Tested (node : ℕ → Node) (count bound : ℕ) : Type 0 where
  pub test : ℕ → ℕ → Bool
  pub test_is : (j n : ℕ) → j < bound → n < count → (test j n ≡ true) ↔ AtLeast node (node n) j

-- a node from which there is a way is one of the book's
pub way_below : (b : Book) → WellFormed b → (n : ℕ) {w : ℕ} → Weighs b.node (b.node n) w → n < b.count
way_below b wf n {w} way = named_below b wf (λ x. Weighs b.node x w) (elim [ ]) n way

module _ (b : Book) (wf : WellFormed b) {bound : ℕ} (tested : Tested b.node b.count bound) where
  -- ways rise at a weight, or fewer nodes have ways that weigh more
  rises_or : {A : Type 0} (j : ℕ) → suc j < bound → (Rises b.node j → A)
      → (size (tested.test (suc j)) b.count < size (tested.test j) b.count → A)
      → Differ (tested.test j) (tested.test (suc j)) b.count → A
  rises_or j room rise fewer (none kept) =
      rise (λ n a. let below = way_below b wf n a.way in
      (tested.test_is (suc j) n room below).0 (kept n below ((tested.test_is j n (omega arith) below).1 a)))
  rises_or j room rise fewer (some n below here more) =
      fewer (size_more (tested.test (suc j)) (tested.test j) b.count n keeps below more here)
    where
      keeps : (n : ℕ) → n < b.count → tested.test (suc j) n ≡ true → tested.test j n ≡ true
      keeps n below e = (tested.test_is j n (omega arith) below).1 (at_least_less (omega arith) ((tested.test_is (suc j) n room below).0 e))

  -- there is a weight, at most the count, at which ways rise
  rises_some : (left j : ℕ) → b.count + 1 < bound → j + left ≤ b.count → size (tested.test j) b.count ≤ left
      → (i : ℕ) × (i ≤ b.count) × Rises b.node i
  rises_some zero j room within few =
      rises_or j (omega arith) (λ rises. (j, omega arith, rises)) (λ fewer. absurd (omega arith))
      (differ (tested.test j) (tested.test (suc j)) b.count)
  rises_some (suc left) j room within few =
      rises_or j (omega arith) (λ rises. (j, omega arith, rises)) (λ fewer. rises_some left (suc j) room (omega arith) (omega arith))
      (differ (tested.test j) (tested.test (suc j)) b.count)

  -- where some way weighs as much as there are nodes, ways weigh as much as one likes
  pub heavy_unbounded : {n : ℕ} → b.count + 1 < bound → AtLeast b.node (b.node n) b.count → (m : ℕ)
      → AtLeast b.node (b.node n) m
  heavy_unbounded room a m =
      let (i, within, rises) = rises_some b.count 0 room (omega arith) (size_bound (tested.test 0) b.count) in
      at_least_less (omega arith) (rises_on m rises (at_least_less within a))
