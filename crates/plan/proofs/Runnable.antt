-- What the bytes of a runnable plan say: where cells and nodes stand, and where a cell sends a walk.
use mathlib.Core.Path.{◌≡◌, refl, sym, ap, ◌∙◌}
use mathlib.Core.Logic.{◌⊎◌, ⊎_elim}
use mathlib.Core.List.{List}
use Prim.Native.Nat.{ℕ, zero, suc, ◌+◌, ◌*◌, ◌≤◌, ◌<◌}
use native.Mathlib.Omega.{arith}
use native.Mathlib.Decide.{dec_lt}
use lib.Arith.{digits_lt}
use lib.ListN.{length}
use Rattle.book.specs.Book.{left_of, right_of, tag_of}
use Rattle.book.specs.Book.{Proper, fail_is, empty_is, token_is, either_is, then_is, tagged_is, ref_is}
use Rattle.book.specs.declared.Node.{Node}
use Rattle.book.specs.Decode.{node_of, nodes, node_at, type_at, left_at, right_at}
use Rattle.book.specs.Form.{DONE}
use Rattle.book.proofs.Decoded.{nodes_below, nodes_beyond}
use Rattle.plan.specs.Form.{plan_nodes_at, plan_count, plan_kinds, plan_start, plan_from, plan_of, plan_judged, row_at, due_at, Runnable, RowHas}
use Rattle.plan.proofs.Laws.{Legal, Done, done, size_small}
use Rattle.plan.proofs.Children.{left_below, right_below}

-- a legal cell is none from a number on where the type's cells are all below it
too_high : {A : Type 0} {one other : ℕ} (least c : ℕ) → (c ≡ 0) ⊎ ((c ≡ one) ⊎ (c ≡ other))
    → (0 < least) × (one < least) × (other < least) → least ≤ c → A
too_high least c legal low high =
    absurd (⊎_elim (λ e. omega arith) (λ either. ⊎_elim (λ e. omega arith) (λ e. omega arith) either) legal)

-- where a legal cell is above 1 the node's left is its left field, and where it is above 2 its right is its right field
cell_sides : (t l r c : ℕ) → Legal (node_of t l r) c
    → (2 ≤ c → left_of (node_of t l r) ≡ l) × (3 ≤ c → right_of (node_of t l r) ≡ r)
cell_sides zero l r c legal = (too_high 2 c legal (omega arith), too_high 3 c legal (omega arith))
cell_sides (suc zero) l r c legal = (too_high 2 c legal (omega arith), too_high 3 c legal (omega arith))
cell_sides (suc (suc zero)) l r c legal = (too_high 2 c legal (omega arith), too_high 3 c legal (omega arith))
cell_sides (suc (suc (suc zero))) l r c legal = (λ high. refl, λ high. refl)
cell_sides (suc (suc (suc (suc zero)))) l r c legal = (λ high. refl, λ high. refl)
cell_sides (suc (suc (suc (suc (suc zero))))) l r c legal = (λ high. refl, too_high 3 c legal (omega arith))
cell_sides (suc (suc (suc (suc (suc (suc zero)))))) l r c legal = (λ high. refl, too_high 3 c legal (omega arith))
cell_sides (suc (suc (suc (suc (suc (suc (suc t))))))) l r c legal = (too_high 2 c legal (omega arith), too_high 3 c legal (omega arith))

-- the tag of a node, by its type: none where a legal cell is above 2, and none but a tagged node's right field
cell_untagged : (t l r c : ℕ) → Legal (node_of t l r) c → 3 ≤ c → tag_of (node_of t l r) ≡ 0
cell_untagged zero l r c legal high = refl
cell_untagged (suc zero) l r c legal high = refl
cell_untagged (suc (suc zero)) l r c legal high = refl
cell_untagged (suc (suc (suc zero))) l r c legal high = refl
cell_untagged (suc (suc (suc (suc zero)))) l r c legal high = refl
cell_untagged (suc (suc (suc (suc (suc zero))))) l r c legal high = too_high 3 c legal (omega arith) high
cell_untagged (suc (suc (suc (suc (suc (suc zero)))))) l r c legal high = refl
cell_untagged (suc (suc (suc (suc (suc (suc (suc t))))))) l r c legal high = refl

other_tag : (t l r : ℕ) → (t ≡ 5 → ⊥) → tag_of (node_of t l r) ≡ 0
other_tag zero l r other = refl
other_tag (suc zero) l r other = refl
other_tag (suc (suc zero)) l r other = refl
other_tag (suc (suc (suc zero))) l r other = refl
other_tag (suc (suc (suc (suc zero)))) l r other = refl
other_tag (suc (suc (suc (suc (suc zero))))) l r other = absurd (other refl)
other_tag (suc (suc (suc (suc (suc (suc zero)))))) l r other = refl
other_tag (suc (suc (suc (suc (suc (suc (suc t))))))) l r other = refl

-- a proper node's tag is a label
proper_tag : {kinds count own : ℕ} {node : Node} → Proper kinds count own node → tag_of node < 65536
proper_tag fail_is = omega arith
proper_tag empty_is = omega arith
proper_tag (token_is k) = omega arith
proper_tag (either_is l r) = omega arith
proper_tag (then_is l r) = omega arith
proper_tag (tagged_is l label) = omega (arith, label.1)
proper_tag (ref_is l) = omega arith

-- of bytes judged a plan
module _ (bytes : List ℕ) (good : (plan_judged bytes).number ≡ DONE) where
  shown : Done bytes
  shown = done bytes good

  -- the contents and settings stand in the bytes
  pub settings_inside : plan_nodes_at ≤ length bytes
  settings_inside = omega (arith, shown.formed_is.size.is)

  -- a node stands in the bytes, and its number is small
  pub node_inside : {n : ℕ} → n < plan_count bytes → (plan_nodes_at + 6 * n + 6 ≤ length bytes) × (n < 512)
  node_inside below = let size = shown.formed_is.size in omega (arith, size.is, size.few_nodes)

  -- a row's cell for a kind sends a walk to the node's fields
  module _ (n : ℕ) (below : n < plan_count bytes) (kind : ℕ) (known : kind < plan_kinds bytes) where
    sides : (2 ≤ (plan_of bytes).cell n kind → left_of (node_at bytes plan_nodes_at n) ≡ left_at bytes plan_nodes_at n)
        × (3 ≤ (plan_of bytes).cell n kind → right_of (node_at bytes plan_nodes_at n) ≡ right_at bytes plan_nodes_at n)
    unfolding plan_from node_at
    sides =
        cell_sides (type_at bytes plan_nodes_at n) (left_at bytes plan_nodes_at n) (right_at bytes plan_nodes_at n) _
        (rw (nodes_below bytes plan_nodes_at (plan_count bytes) n below) at (shown.cell_legal n kind below known))

  -- the tag of a node, by its type
  pub tag_none : {n : ℕ} → n < plan_count bytes → (type_at bytes plan_nodes_at n ≡ 5 → ⊥) → (plan_of bytes).tag n ≡ 0
  unfolding plan_from node_at
  tag_none {n} below other = ap tag_of (nodes_below bytes plan_nodes_at (plan_count bytes) n below) ∙ other_tag _ _ _ other

  pub tag_right : {n : ℕ} → n < plan_count bytes → type_at bytes plan_nodes_at n ≡ 5 → (plan_of bytes).tag n ≡ right_at bytes plan_nodes_at n
  unfolding plan_from node_at
  tag_right {n} below is =
      ap tag_of (nodes_below bytes plan_nodes_at (plan_count bytes) n below)
      ∙ ap (λ (t : ℕ). tag_of (node_of t (left_at bytes plan_nodes_at n) (right_at bytes plan_nodes_at n))) is

  pub left_is : {n : ℕ} → n < plan_count bytes → RowHas bytes n 2 → left_at bytes plan_nodes_at n ≡ (plan_of bytes).left n
  unfolding plan_from
  left_is {n} below has =
      sym (ap left_of (nodes_below bytes plan_nodes_at (plan_count bytes) n below) ∙ (sides n below has.kind has.known).0 has.high)

  pub right_is : {n : ℕ} → n < plan_count bytes → RowHas bytes n 3 → right_at bytes plan_nodes_at n ≡ (plan_of bytes).right n
  unfolding plan_from
  right_is {n} below has =
      sym (ap right_of (nodes_below bytes plan_nodes_at (plan_count bytes) n below) ∙ (sides n below has.kind has.known).1 has.high)

-- of a runnable plan, by its count and kinds
module _ {bytes : List ℕ} {count kinds : ℕ} (runs : Runnable bytes count kinds) where
  all : Done bytes
  all = done bytes runs.good

  pub some_node : 0 < count
  some_node = rw runs.count_is all.formed_is.size.some_node

  pub few_nodes : count ≤ 512
  few_nodes = rw runs.count_is all.formed_is.size.few_nodes

  pub few_kinds : kinds ≤ 64
  few_kinds = rw runs.kinds_is all.formed_is.few_kinds

  pub start_node : plan_start bytes < count
  start_node = rw runs.count_is all.formed_is.start_below

  -- the plan that its bytes are
  pub same-plan : plan_from bytes count kinds ≡ plan_of bytes
  same-plan = rw (runs.count_is, runs.kinds_is) refl

  -- a cell stands in the bytes, which are few
  pub cell_inside : {n column : ℕ} → n < count → column ≤ kinds → (row_at count kinds n + column < length bytes) × (length bytes < 65536)
  cell_inside {n} {column} below within =
      let size : length bytes ≡ row_at count kinds count + 2 * count = rw (runs.count_is, runs.kinds_is) all.formed_is.size.is in
      omega (
        arith,
        size,
        size_small count kinds few_nodes few_kinds,
        digits_lt {q = n} {m = count} {r = column} {c = kinds + 1} below (omega arith),
      )

  -- and so does what is due for a node
  pub due_inside : {n : ℕ} → n < count → (due_at count kinds n + 1 < length bytes) × (length bytes < 65536)
  due_inside {n} below =
      let size : length bytes ≡ row_at count kinds count + 2 * count = rw (runs.count_is, runs.kinds_is) all.formed_is.size.is in
      omega (arith, size, size_small count kinds few_nodes few_kinds)

  -- what the sides of a node are asked with, where the node has a cell that is at least a number
  pub side_asks : {n kind : ℕ} (least : ℕ) → n < count → kind < kinds → least ≤ (plan_from bytes count kinds).cell n kind
      → ((plan_judged bytes).number ≡ DONE) × (n < plan_count bytes) × RowHas bytes n least
  side_asks {n} {kind} least below known high =
      (runs.good, rw (← runs.count_is) below, record { kind = kind; known = rw (← runs.kinds_is) known; high = rw (← same-plan) high })

  -- left and right are nodes
  pub left_node : (n : ℕ) → (plan_from bytes count kinds).left n < count
  unfolding plan_from
  left_node n = by_count (dec_lt n count)
    where
      by_count : Dec (n < count) → left_of (nodes bytes plan_nodes_at count n) < count
      by_count (yes below) = left_below below (rw (← runs.count_is, ← runs.kinds_is) at all.formed_is.good.proper n below)
      by_count (no above) = rw (nodes_beyond bytes plan_nodes_at count n (omega arith)) some_node

  pub right_node : (n : ℕ) → (plan_from bytes count kinds).right n < count
  unfolding plan_from
  right_node n = by_count (dec_lt n count)
    where
      by_count : Dec (n < count) → right_of (nodes bytes plan_nodes_at count n) < count
      by_count (yes below) = right_below below (rw (← runs.count_is, ← runs.kinds_is) at all.formed_is.good.proper n below)
      by_count (no above) = rw (nodes_beyond bytes plan_nodes_at count n (omega arith)) some_node

  -- a node with a cell above 2 is not tagged, and tags are labels
  pub untagged : {n kind : ℕ} → n < count → kind < kinds → 3 ≤ (plan_from bytes count kinds).cell n kind
      → (plan_from bytes count kinds).tag n ≡ 0
  unfolding plan_from node_at
  untagged {n} {kind} below known high =
      let legal = rw (← runs.count_is, ← runs.kinds_is) at (all.cell_legal n kind (rw (← runs.count_is) below) (rw (← runs.kinds_is) known)) in
      ap tag_of (nodes_below bytes plan_nodes_at count n below)
      ∙ cell_untagged (type_at bytes plan_nodes_at n) (left_at bytes plan_nodes_at n) (right_at bytes plan_nodes_at n) _
      (rw (nodes_below bytes plan_nodes_at count n below) at legal) high

  pub tag_label : (n : ℕ) → (plan_from bytes count kinds).tag n < 65536
  unfolding plan_from
  tag_label n = by_count (dec_lt n count)
    where
      by_count : Dec (n < count) → tag_of (nodes bytes plan_nodes_at count n) < 65536
      by_count (yes below) = proper_tag (rw (← runs.count_is, ← runs.kinds_is) at all.formed_is.good.proper n below)
      by_count (no above) = rw (nodes_beyond bytes plan_nodes_at count n (omega arith)) (omega arith)

-- the left and right of a node of bytes judged a plan
module _ (bytes : List ℕ) (good : (plan_judged bytes).number ≡ DONE) where
  pub own : Runnable bytes (plan_count bytes) (plan_kinds bytes)
  own = record { good = good; count_is = refl; kinds_is = refl }

  pub left_of_node : (n : ℕ) → (plan_of bytes).left n < plan_count bytes
  left_of_node = left_node own

  pub right_of_node : (n : ℕ) → (plan_of bytes).right n < plan_count bytes
  right_of_node = right_node own
