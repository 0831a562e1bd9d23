use mathlib.Core.Path.{◌≡◌, refl, sym, ap, ◌∙◌}
use Prim.Native.Nat.{ℕ, ◌+◌, ◌*◌, ◌-◌, ◌≤◌, ◌<◌}
use native.Mathlib.Nat.{sub-zero}
use native.Mathlib.Omega.{arith}
use lib.ListN.{length}
use Rattle.running.specs.Running.{Plan, Move, move_of}
use Rattle.plan.specs.Errors.{move_by}
use Rattle.plan.specs.Form.{plan_count, plan_kinds, plan_from, plan_of, Runnable, RowHas}
use Rattle.plan.proofs.Runnable.{own, few_nodes, untagged}
use Rattle.plan.proofs.Steps.{least, least_cell}
use Rattle.running.specs.Stages.{inside}
use Rattle.reader.specs.Machine.{slot_of, walk_of}
use Rattle.reader.proofs.Simulation.{bounded}
use Rattle.reader.proofs.WalkUnderWay.{Visiting, walk_ends, visits, visit_takes, visit_refuses, visit_deep}
use Rattle.reader.proofs.WalkUnderWay.{goes_left, goes_right, holds_right, skips_left}
use Rattle.reader.proofs.walk.Goals as goal
use Rattle.reader.proofs.walk.Goals.{After-step_at, In-loop, in-Left, in-Hold+else-held-standing, in-Skip, in-Right}

-- a turn, and its visit once the cell is read
abbrev Turn : Type 0
Turn = In-loop

abbrev Visited : Type 0
Visited = After-step_at

abbrev plan-of : Turn → Plan
plan-of t = plan_of t.args.plan.now

runs : (t : Turn) → Runnable t.args.plan.now (plan_count t.args.plan.now) (plan_kinds t.args.plan.now)
runs t = own _ t.nodes-end.ensures.good

few : (t : Turn) → plan_count t.args.plan.now ≤ 512
few t = few_nodes (runs t)

-- the node of a turn is one of the plan's
below : (t : Turn) → t.loop.node < plan_count t.args.plan.now
unfolding plan_from
below t = t.loop.invariant.node_below

abbrev plan-at : Visited → Plan
plan-at v = plan_of v.args.plan.now

-- the visit of a turn
abbrev Visit : Visited → Type 0
Visit v =
    let a = v.args in
    let l = v.loop in
    let nodes = plan_count a.plan.now in
    Visiting (plan-at v) a.kind
    (walk_of (plan-at v) a.kind nodes a.from a.outer a.standing.count a.standing.written a.held.now a.tree.now)
    (length a.held.now) (length a.tree.now) (a.standing.written + a.standing.count + 2 * nodes)
    (nodes - (l.counter + 1)) l.node l.label l.standing.count (l.standing.written + 1) l.held v.note.new.tree

visit : (v : Visited) → Visit v
visit v = visits v.loop.invariant (omega (arith, v.loop-test.true, v.nodes-end.ensures.count)) v.note.ensures

-- what its cell says, and how high it is then
says : (v : Visited) {m : Move} → move_by v.step_at.result ≡ m → move_of ((plan-at v).cell v.loop.node v.args.kind) ≡ m
says v is = sym v.step_at.ensures ∙ is

high : (v : Visited) (n : ℕ) {m : Move} → move_by v.step_at.result ≡ m → n ≤ least m → n ≤ (plan-at v).cell v.loop.node v.args.kind
high v n is most =
    omega (arith, rw (says v is) at (least_cell ((plan-at v).cell v.loop.node v.args.kind)))

-- a cell that is high enough sends the walk to left or right
asks : (v : Visited) (n : ℕ) {m : Move} → move_by v.step_at.result ≡ m → n ≤ least m
    → (v.loop.node < plan_count v.args.plan.now) × RowHas v.args.plan.now v.loop.node n
unfolding plan_from
asks v n is most = (
  v.loop.invariant.node_below,
  record { kind = v.args.kind; known = v.requires.1; high = high v n is most },
)

-- the label inside the node is that around it where the cell is above 2
plain : (v : Visited) (runs-now : Runnable v.args.plan.now (plan_count v.args.plan.now) (plan_kinds v.args.plan.now)) {m : Move}
    → move_by v.step_at.result ≡ m → 3 ≤ least m
    → v.loop.label ≡ inside ((plan-at v).tag v.loop.node) v.loop.label
unfolding plan_from
plain v runs-now is most =
    rw (untagged runs-now (v.loop.invariant.node_below) v.requires.1 (high v 3 is most)) refl

pub loop-init : goal.loop-init
unfolding plan_from
loop-init c =
    let pre = c.requires in
    record {
      rest = rw sub-zero refl;
      label_small = pre.3;
      node_below = pre.2;
      few = pre.0.parts.few;
      held_long = refl;
      tree_long = refl;
      small = omega arith;
    }

pub note-requires : goal.note-requires
note-requires c = omega (arith, below (goal.at.note-requires c).In-loop, few (goal.at.note-requires c).In-loop)

pub overflow_add-standing : goal.overflow_add-standing
overflow_add-standing c =
    omega (arith, c.loop.invariant.small, c.requires.0.few_records, few (goal.at.overflow_add-standing c).In-loop)

pub step_at-requires : goal.step_at-requires
step_at-requires c = (below (goal.at.step_at-requires c).In-loop, c.requires.1)

-- the event is taken
pub returns-in-Take : goal.returns-in-Take
returns-in-Take c =
    let v = (goal.at.returns-in-Take c).After-step_at in
    visit_takes (visit v) (says v (ap move_by c.in-Take.is))

-- the walk goes left, into the stage of a tagged node
pub tag-requires : goal.tag-requires
tag-requires c = below (goal.at.tag-requires c).In-loop

pub left-node-requires : goal.left-node-requires
left-node-requires c = asks (goal.at.left-node-requires c).After-step_at 2 (ap move_by c.in-Left.is) (omega arith)

-- right is held where a slot is free, and the walk goes left
pub returns-then-held-standing : goal.returns-then-held-standing
returns-then-held-standing c =
    let v = (goal.at.returns-then-held-standing c).After-step_at in
    visit_deep (visit v) (says v (ap move_by c.in-Hold.is)) c.if-held-standing.true

pub right-requires : goal.right-requires
right-requires c = asks (goal.at.right-requires c).After-step_at 3 (ap move_by c.in-Hold.is) (omega arith)

pub left-node-requires-in-Hold : goal.left-node-requires-in-Hold
left-node-requires-in-Hold c = asks (goal.at.left-node-requires-in-Hold c).After-step_at 2 (ap move_by c.in-Hold.is) (omega arith)

-- an empty record for left, and the walk goes right
pub left-requires : goal.left-requires
left-requires c = asks (goal.at.left-requires c).After-step_at 2 (ap move_by c.in-Skip.is) (omega arith)

pub right-node-requires : goal.right-node-requires
right-node-requires c = asks (goal.at.right-node-requires c).After-step_at 3 (ap move_by c.in-Skip.is) (omega arith)

-- the walk goes right
pub right-node-requires-in-Right : goal.right-node-requires-in-Right
right-node-requires-in-Right c = asks (goal.at.right-node-requires-in-Right c).After-step_at 3 (ap move_by c.in-Right.is) (omega arith)

-- the event is refused
pub returns-in-Refuse : goal.returns-in-Refuse
returns-in-Refuse c =
    let v = (goal.at.returns-in-Refuse c).After-step_at in
    visit_refuses (visit v) (says v (ap move_by c.in-Refuse.is))

-- no visit is left
pub returns : goal.returns
returns c = walk_ends c.loop.invariant (omega (arith, c.loop-test.false, c.nodes-end.ensures.count))

-- each other move goes on
pub loop-preserved : goal.loop-preserved
loop-preserved c =
    let v = (goal.at.loop-preserved c).After-step_at in
    let now-runs = runs (goal.at.loop-preserved c).In-loop in
    let b = bounded now-runs in
    elim c.match-step_at.branch [
      | in-Left w ↦
          let is = ap move_by w.in-Left.is in
          let label_is = w.inner-label.ensures ∙ ap (λ (t : ℕ). inside t c.loop.label) w.tag.ensures.tag in
          rw (w.held-is, w.tree-is, w.node-is, w.label-is, w.standing-is)
          (goes_left (visit v) b label_is (says v is) w.left-node.ensures.left)
      | in-Hold+else-held-standing w ↦
          let is = ap move_by w.in-Hold.is in
          rw (w.held-is, w.tree-is, w.node-is, w.label-is, w.standing-is)
          (holds_right (visit v) b (plain v now-runs is (omega arith)) (says v is) w.if-held-standing.false w.left-node-in-Hold.ensures.left
          (w.slot_of.ensures ∙ ap (λ (n : ℕ). slot_of n c.loop.label) w.right.ensures.right))
      | in-Skip w ↦
          let is = ap move_by w.in-Skip.is in
          rw (w.held-is, w.tree-is, w.node-is, w.label-is, w.standing-is)
          (skips_left (visit v) b (plain v now-runs is (omega arith)) (says v is) w.left.ensures.left w.right-node.ensures.right
          w.note-in-Skip.ensures)
      | in-Right w ↦
          let is = ap move_by w.in-Right.is in
          rw (w.held-is, w.tree-is, w.node-is, w.label-is, w.standing-is)
          (goes_right (visit v) b (plain v now-runs is (omega arith)) (says v is) w.right-node-in-Right.ensures.right)
    ]
