-- The weights are those of ways: what a node has by its sides is a way's weight, and weights that have at every node what it has by its
-- sides have every way's.
use Prim.Native.Nat.{ℕ, zero, suc, ◌≤◌, ◌<◌}
use native.Mathlib.Omega.{arith}
use mathlib.Core.Path.{◌≡◌}
use mathlib.Core.Bool.{Bool, true, false}
use mathlib.Core.List.{List}
use mathlib.Core.Logic.Iff
use mathlib.Core.Logic.{◌↔◌, ⊎_elim}
use lib.ListN.{length, get_or}
use Rattle.kinds.proofs.Laws.{has?_is}
use Rattle.book.specs.Book.{WellFormed, Proper}
use Rattle.book.specs.Form.{book_of}
use Rattle.book.specs.declared.Node.{Node}
use Rattle.book.specs.declared.Node.TheVariants.{Fail, Empty, Token, Either, Then, Tagged, Ref}
use Rattle.grammar.specs.Rules.{Productive}
use Rattle.rules.specs.Facts.{facts_at}
use Rattle.rules.specs.Growth.{Sound, Visited, Turned}
use Rattle.rules.specs.Step.{left_from, right_from}
use Rattle.rules.proofs.Bounds.{named_below}
use Rattle.rules.proofs.Reading.{left_below, right_below}
use Rattle.verdict.specs.Conflicts.{Known}
use Rattle.verdict.proofs.Books.{book_well_formed}
use Rattle.depths.specs.Ways.{Weighs, w_token, w_left, w_right, w_hold, w_pass, w_tagged, w_ref, AtLeast}
use Rattle.depths.proofs.Rising.{at_least_as, at_least_less, weighs_at_least, before, held_at_least, way_below}
use Rattle.profile.specs.Weights.{MOST, weighing, one_more, where_so, side_at, weight_of, Raised, WeightAt, WeightClosed, Weighed}
use Rattle.profile.proofs.Raising.{greater_below, greater-left, greater_right, so_below, so_above, more_below, more_above}
use Rattle.profile.proofs.Raising.{raised_grown, raised_held}

before_less : (j w : ℕ) → j ≤ suc w → before j ≤ w
before_less zero w h = omega arith
before_less (suc j) w h = omega arith

before_small : (j : ℕ) → j < MOST → before j < MOST
before_small zero h = h
before_small (suc j) h = omega arith

module _ {bytes table : List ℕ} {count : ℕ} (known : Known bytes count table) where
  abbrev node : ℕ → Node
  node = (book_of bytes).node

  wf : WellFormed (book_of bytes)
  wf = book_well_formed known.good

  proper : (n : ℕ) → n < count → Proper (book_of bytes).kinds count n (node n)
  proper n below = rw known.good.count_is (wf.proper n (omega (arith, known.good.count_is)))

  -- the sides of a node are among the book's
  left_in : {n : ℕ} → n < count → left_from n (node n) < count
  left_in {n} below = left_below below (proper n below)

  right_in : {n : ℕ} → n < count → right_from n (node n) < count
  right_in {n} below = right_below below (proper n below)

  -- and so are those of a node that was read
  pub left_read : {n l : ℕ} {at : Node} → n < count → at ≡ node n → l ≡ left_from n at → l < count
  left_read {n} below read is = rw (is, read) (left_in below)

  pub right_read : {n r : ℕ} {at : Node} → n < count → at ≡ node n → r ≡ right_from n at → r < count
  right_read {n} below read is = rw (is, read) (right_in below)

  -- the table's mark is whether a node is productive
  abbrev makes? : List ℕ → ℕ → Bool
  makes? list n = (side_at table list n).makes

  made : (list : List ℕ) (n : ℕ) → n < count → (makes? list n ≡ true) ↔ Productive node (node n)
  made list n below = Iff.trans (has?_is (facts_at table n).productive 0) (known.facts.productive_is n 0 below (omega arith))

  -- ---- sound

  weight_way : (list : List ℕ) → Sound weighing (WeightAt node) list → (n j : ℕ) (top : Node) → left_from n top < count
      → right_from n top < count → j < weight_of table list n top → AtLeast node top j
  weight_way list sound n j Fail left right h = absurd (omega arith)
  weight_way list sound n j Empty left right h = absurd (omega arith)
  weight_way list sound n j (Token k) left right h = at_least_less (omega arith) (weighs_at_least w_token)
  weight_way list sound n j (Either l r) left right h =
      ⊎_elim (λ x. at_least_as (λ w. w_left) (sound.by l j x).heavy) (λ x. at_least_as (λ w. w_right) (sound.by r j x).heavy)
      (greater_below (get_or list l 0) (get_or list r 0) j h)
  weight_way list sound n j (Then l r) left right h =
      ⊎_elim
      (λ x.
      let (makes, y) = so_below (makes? list r) (one_more (get_or list l 0)) j x in
      held_at_least j ((made list r right).0 makes) (sound.by l (before j) (more_below (get_or list l 0) j y)).heavy)
      (λ x.
      let (makes, y) = so_below (makes? list l) (get_or list r 0) j x in
      at_least_as (λ w. w_pass ((made list l left).0 makes)) (sound.by r j y).heavy)
      (greater_below (where_so (makes? list r) (one_more (get_or list l 0))) (where_so (makes? list l) (get_or list r 0)) j h)
  weight_way list sound n j (Tagged l t) left right h = at_least_as (λ w. w_tagged) (sound.by l j h).heavy
  weight_way list sound n j (Ref l) left right h = at_least_as (λ w. w_ref) (sound.by l j h).heavy

  -- raising a node's number to what it has by its sides is a visit of the node
  pub raised_visited : {list after : List ℕ} {n : ℕ} {changed : Bool} → Sound weighing (WeightAt node) list → n < count
      → count ≤ length list → Raised list after n (weight_of table list n (node n)) changed
      → Visited weighing (WeightAt node) (WeightClosed node table) n list after changed
  raised_visited {list} {n = n} sound below long raised = record {
    grown =
        raised_grown (omega arith) raised
        (λ j h. record { heavy = weight_way list sound n j (node n) (left_in below) (right_in below) h });
    closed = λ e. record { closed = raised_held (omega arith) raised e };
  }

  -- ---- complete

  module _ (list : List ℕ) (closed : (n : ℕ) → n < count → WeightClosed node table list n) where
    -- a number that a node has by its sides stands among the weights
    stands : (n j : ℕ) {w : ℕ} → Weighs node (node n) w → j < weight_of table list n (node n) → j < get_or list n 0
    stands n j way h =
        let below = way_below (book_of bytes) wf n way in
        omega (arith, h, (closed n (omega (arith, below, known.good.count_is))).closed)

    productive_in : {n : ℕ} → Productive node (node n) → n < count
    productive_in {n} p = omega (arith, named_below (book_of bytes) wf (Productive node) (elim [ ]) n p, known.good.count_is)

    way_weight : (own j : ℕ) {top : Node} {w : ℕ} → Weighs node top w → j ≤ w → j < MOST → j < weight_of table list own top
    way_weight own j w_token h small = omega arith
    way_weight own j (w_left {l} {r} way) h small =
        greater-left (get_or list l 0) (get_or list r 0) j (stands l j way (way_weight l j way h small))
    way_weight own j (w_right {l} {r} way) h small =
        greater_right (get_or list l 0) (get_or list r 0) j (stands r j way (way_weight r j way h small))
    way_weight own j (w_hold {l} {r} {w} way p) h small =
        let left = stands l (before j) way (way_weight l (before j) way (before_less j w h) (before_small j small)) in
        greater-left (where_so (makes? list r) (one_more (get_or list l 0))) (where_so (makes? list l) (get_or list r 0)) j
        (so_above (makes? list r) (one_more (get_or list l 0)) j ((made list r (productive_in p)).1 p)
        (more_above (get_or list l 0) j left small))
    way_weight own j (w_pass {l} {r} p way) h small =
        let right = stands r j way (way_weight r j way h small) in
        greater_right (where_so (makes? list r) (one_more (get_or list l 0))) (where_so (makes? list l) (get_or list r 0)) j
        (so_above (makes? list l) (get_or list r 0) j ((made list l (productive_in p)).1 p) right)
    way_weight own j (w_tagged {l} way) h small = stands l j way (way_weight l j way h small)
    way_weight own j (w_ref {l} way) h small = stands l j way (way_weight l j way h small)

  -- sound weights that a turn leaves as they are are those of all nodes
  pub turned_weighed : {list after : List ℕ} {changed : Bool} → Sound weighing (WeightAt node) list
      → Turned weighing (WeightAt node) (WeightClosed node table) count list after changed → changed ≡ false → Weighed node count after
  turned_weighed {list} sound turned unchanged =
      rw (turned.grown.still unchanged)
      (record {
        told = λ n j below small. (
          (λ h. (sound.by n j h).heavy),
          (λ a.
              stands list (turned.closed unchanged) n j a.way
              (way_weight list (turned.closed unchanged) n j a.way a.least small)),
        );
      })
