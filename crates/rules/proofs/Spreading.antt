-- Marks that spread from marked nodes to their children: each stands for a reachable node, and where none is new, all of those are marked.
use Prim.Native.Nat.{ℕ, ◌+◌, ◌*◌, ◌/◌, ◌%◌, ◌≤◌, ◌<◌}
use mathlib.Core.Path.{◌≡◌, refl, sym, ◌∙◌, subst}
use mathlib.Core.Bool.{Bool, true, false, ◌||◌, true≢false, false≢true}
use mathlib.Core.List.{List}
use mathlib.Core.Logic.{◌↔◌, ⊎_elim}
use native.Mathlib.Omega.{arith}
use lib.ListN.{length}
use Rattle.kinds.specs.Kinds.{Has, only_kind}
use Rattle.kinds.proofs.Laws.{has?_is, has_single}
use Rattle.book.specs.Book.{Proper}
use Rattle.book.specs.Nodes.{Placed, node_in, AreGood}
use Rattle.book.specs.declared.Node.{Node}
use Rattle.book.specs.declared.Node.TheVariants.{Fail, Empty, Token, Either, Then, Tagged, Ref}
use Rattle.grammar.specs.Rules.{Child, either_left, either_right, then_left, then_right, tagged_left, ref_left, Reach, r_start, r_child}
use Rattle.rules.specs.Facts.{marks_size, marked?, IsMarked, AllMarked, Reached}
use Rattle.rules.specs.Growth.{masks, Sound, Blank, Joined, Grown, Turned}
use Rattle.rules.specs.Step.{left_from, right_from, ReachAt, ChildClosed, Spread, SpreadAll}
use Rattle.rules.proofs.Growing.{or_false, grown_then, grown_sound, blank_sound, joined-grown, joined_has, joined_held}
use Rattle.rules.proofs.Growing.{Settling, settling_more}
use Rattle.rules.proofs.Reading.{read_left, read_right}
use Rattle.rules.proofs.Bounds.{child_side, reach_within}

-- ---- marks

-- the test of a mark decides
pub marked_is : (marks : List ℕ) (n : ℕ) → (marked? marks n ≡ true) ↔ IsMarked marks n
marked_is marks n = ((λ e. record { mark = (has?_is _ _).0 e }), (λ marked. (has?_is _ _).1 marked.mark))

pub told_marked : {marks : List ℕ} {n : ℕ} {told : Bool} → told ≡ marked? marks n → told ≡ true → IsMarked marks n
told_marked {marks} {n} is on = (marked_is marks n).0 (sym is ∙ on)

module _ {before after : List ℕ} {n : ℕ} {changed : Bool} (inside : n / 64 < length before)
    (joined : Joined before after (n / 64) (only_kind (n % 64)) changed) where
  -- a mark set on a reachable node is growth by reaching
  pub mark_grown : {node : ℕ → Node} {start : ℕ} → Reach node start n → Grown masks (ReachAt node start) before after changed
  mark_grown {node} {start} reach = joined-grown inside joined by
    where
      by : (k : ℕ) → Has (only_kind (n % 64)) k → ReachAt node start (n / 64) k
      by k has =
          let whole : 64 * (n / 64) + k ≡ n = omega (arith, (has_single k (n % 64)).0 has) in
          record { reach = rw whole reach }

  -- the node is then marked
  pub mark_set : IsMarked after n
  mark_set = record { mark = joined_has inside joined (n % 64) ((has_single (n % 64) (n % 64)).1 refl) }

  -- where a mark is not new, it was there
  pub mark_held : changed ≡ false → IsMarked before n
  mark_held unchanged = record { mark = joined_held inside joined unchanged (n % 64) ((has_single (n % 64) (n % 64)).1 refl) }

-- blank marks with the start marked are sound, and have the start
module _ {before after : List ℕ} {start n : ℕ} {changed : Bool} (blank : Blank marks_size before) (few : start < 512)
    (joined : Joined before after (n / 64) (only_kind (n % 64)) changed) (same : n ≡ start) where
  start_in : n / 64 < length before
  start_in = omega (arith, blank.long)

  pub start_sound : {node : ℕ → Node} → Sound masks (ReachAt node start) after
  start_sound = grown_sound (mark_grown start_in joined (rw same r_start)) (blank_sound blank)

  pub start_marked : IsMarked after start
  start_marked = rw same at (mark_set start_in joined)

marked_reach : {node : ℕ → Node} {start : ℕ} {marks : List ℕ} {n : ℕ} → Sound masks (ReachAt node start) marks → IsMarked marks n → Reach node start n
marked_reach {node} {start} {marks} {n} sound marked =
    let whole : 64 * (n / 64) + n % 64 ≡ n = omega arith in
    rw whole at (sound.by (n / 64) (n % 64) marked.mark).reach

-- ---- children

module _ {node : ℕ → Node} {start n : ℕ} (reach : Reach node start n) where
  child_of : {at : Node} {m : ℕ} → node n ≡ at → Child at m → Reach node start m
  child_of {at} {m} is child = r_child reach (subst (λ (a : Node). Child a m) (sym is) child)

  -- the left of a reachable node, or the node itself where it has none, is reachable, and so is the right
  reach_left : (at : Node) → node n ≡ at → Reach node start (left_from n at)
  reach_left Fail is = reach
  reach_left Empty is = reach
  reach_left (Token k) is = reach
  reach_left (Either l r) is = child_of is either_left
  reach_left (Then l r) is = child_of is then_left
  reach_left (Tagged l t) is = child_of is tagged_left
  reach_left (Ref l) is = child_of is ref_left

  reach_right : (at : Node) → node n ≡ at → Reach node start (right_from n at)
  reach_right Fail is = reach
  reach_right Empty is = reach
  reach_right (Token k) is = reach
  reach_right (Either l r) is = child_of is either_right
  reach_right (Then l r) is = child_of is then_right
  reach_right (Tagged l t) is = reach
  reach_right (Ref l) is = reach

-- a marked node that was read, whose left and right have been marked
module _ {nodes : Placed} {n l r : ℕ} {at : Node} {before between after : List ℕ} {c d : Bool} (good : AreGood nodes)
    (below : n < nodes.count) (read : at ≡ node_in nodes n) (room : marks_size ≤ length before)
    (here : IsMarked before n) (l-is : l ≡ left_from n at) (left : Joined before between (l / 64) (only_kind (l % 64)) c)
    (r-is : r ≡ right_from n at) (right : Joined between after (r / 64) (only_kind (r % 64)) d) where
  is : node_in nodes n ≡ at
  is = sym read

  l_in : l / 64 < length before
  l_in = omega (arith, read_left {at = nodes} good below read, good.few_nodes)

  module _ (start : ℕ) (sound : Sound masks (ReachAt (node_in nodes) start) before) where
    first : Grown masks (ReachAt (node_in nodes) start) before between c
    first = mark_grown l_in left (rw l-is (reach_left (marked_reach sound here) at is))

    r_in : r / 64 < length between
    r_in = omega (arith, read_right {at = nodes} good below read, good.few_nodes, first.long)

    second : Grown masks (ReachAt (node_in nodes) start) between after d
    second = mark_grown r_in right (rw r-is (reach_right (marked_reach sound here) at is))

    closed : (c || d) ≡ false → (m : ℕ) → Child (node_in nodes n) m → IsMarked before m
    closed unchanged m child =
        let (e, f) = or_false c d unchanged in
        ⊎_elim
        (λ same. subst (IsMarked before) (l-is ∙ same) (mark_held l_in left e))
        (λ same. subst (IsMarked before) (r-is ∙ same) (rw (first.still e) at (mark_held r_in right f)))
        (child_side n (rw is at child))

  pub children_spread : Spread (node_in nodes) n before after (c || d)
  children_spread = record {
    from = λ start sound. record {
      grown = grown_then (first start sound) (second start sound);
      closed = λ unchanged. record { children = λ m child marked. closed start sound unchanged m child };
    };
  }

-- a node that is not marked has nothing to spread
pub unmarked_closed : {node : ℕ → Node} {marks : List ℕ} {n : ℕ} {told : Bool} → told ≡ marked? marks n → told ≡ false → ChildClosed node marks n
unmarked_closed {marks = marks} {n = n} is off = record {
  children = λ m child marked. absurd (true≢false (sym ((marked_is marks n).1 marked) ∙ sym is ∙ off));
}

-- ---- all nodes

-- marks that stand for reachable nodes do so after a turn
pub spread_more : {node : ℕ → Node} {start count : ℕ} {first before after : List ℕ} {changed : Bool}
    → Settling masks (ReachAt node start) first before → SpreadAll node count before after changed → Settling masks (ReachAt node start) first after
spread_more settling spread = settling_more settling (spread.from _ settling.sound).grown

-- where all nodes are marked, and all marks stand for reachable nodes, the marks have the reachable nodes
pub all_reached : {node : ℕ → Node} {start count : ℕ} {marks : List ℕ} → Sound masks (ReachAt node start) marks → AllMarked marks count
    → Reached node start count marks
all_reached sound all = record { reach_is = λ n below. (marked_reach sound, (λ reach. all n below)) }

-- ---- all reachable nodes

module _ {node : ℕ → Node} {kinds start count : ℕ} (proper : (n : ℕ) → n < count → Proper kinds count n (node n)) (start_below : start < count) where
  -- after a turn over sound marks that changed nothing, the reachable nodes are marked
  pub turned_reached : {before after : List ℕ} {changed : Bool} → Sound masks (ReachAt node start) before → IsMarked before start
      → Turned masks (ReachAt node start) (ChildClosed node) count before after changed → changed ≡ false → Reached node start count after
  turned_reached {before} {after} sound started turned unchanged =
      rw (turned.grown.still unchanged) (record { reach_is = λ n below. (marked_reach sound, marked) })
    where
      marked : {n : ℕ} → Reach node start n → IsMarked before n
      marked r_start = started
      marked (r_child {n = n} {m = m} reach child) = (turned.closed unchanged n (reach_within proper start_below reach)).children m child (marked reach)

  -- so it is once the start was marked and turns have been made, the last of which changed nothing
  pub spread_end : {first before after : List ℕ} {changed : Bool} → IsMarked first start
      → Settling masks (ReachAt node start) first before → SpreadAll node count before after changed → changed ≡ false
      → Reached node start count after × (false ≡ true → AllMarked after count)
  spread_end started settling spread still = (
    turned_reached settling.sound (record { mark = settling.keeps _ _ started.mark }) (spread.from _ settling.sound) still,
    λ is. absurd (false≢true is),
  )
