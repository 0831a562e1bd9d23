use Prim.Native.Nat.{◌<◌}
use native.Mathlib.Omega.{arith}
use mathlib.Core.Path.{◌≡◌, sym}
use Rattle.book.specs.Form.{book_of}
use Rattle.rules.proofs.Growing.{turning_none, turning_more, turning_end, grown_sound}
use Rattle.verdict.specs.Conflicts.{Known}
use Rattle.verdict.proofs.Clashes.{node_room}
use Rattle.profile.proofs.Weighing.{left_read, right_read, raised_visited}
use Rattle.profile.proofs.raise_all.Goals.{In-loop-n, After-node-node}
use Rattle.profile.proofs.raise_all.Goals as goal

pub loop-n-init : goal.loop-n-init
loop-n-init c = turning_none _ (λ m below. omega (arith, below))

-- the node of a turn is one of the book's
inside : (v : In-loop-n) → v.loop-n.n < (book_of v.args.known.now.bytes).count
inside v = omega (arith, v.loop-n-test.true, rw v.book-book.ensures.book at v.count-n-end.ensures.count)

read : (v : After-node-node) → v.node-node.result ≡ (book_of v.args.known.now.bytes).node v.loop-n.n
read v = rw (v.nodes-nodes.ensures.node, v.book-book.ensures.book) at v.node-node.ensures

pub node-node-requires : goal.node-node-requires
node-node-requires c =
    let below = inside (goal.at.node-node-requires c).In-loop-n in
    omega (arith, below, rw c.book-book.ensures.book at c.nodes-nodes.ensures.count)

pub side_at-left-requires : goal.side_at-left-requires
side_at-left-requires c =
    let known = c.book-book.ensures.at_hand.known in
    let within =
    left_read known (inside (goal.at.side_at-left-requires c).In-loop-n) (read (goal.at.side_at-left-requires c).After-node-node) c.left_from.ensures in
    record {
      n_in_table = node_room c.table-table.result.now (rw (sym c.table-table.ensures) at known) within;
      n_in_bounds = omega (arith, within, c.requires.count_in_bounds, c.loop-n.auto.weights);
    }

pub side_at-right-requires : goal.side_at-right-requires
side_at-right-requires c =
    let known = c.book-book.ensures.at_hand.known in
    let within =
    right_read known (inside (goal.at.side_at-right-requires c).In-loop-n) (read (goal.at.side_at-right-requires c).After-node-node)
    c.right_from.ensures in
    record {
      n_in_table = node_room c.table-table.result.now (rw (sym c.table-table.ensures) at known) within;
      n_in_bounds = omega (arith, within, c.requires.count_in_bounds, c.loop-n.auto.weights);
    }

pub loop-n-preserved : goal.loop-n-preserved
loop-n-preserved c =
    let pre = c.requires in
    let turning = c.loop-n.invariant in
    let below = inside (goal.at.loop-n-preserved c).In-loop-n in
    let raised =
    rw (
      c.weight_by.ensures,
      c.side_at-left.ensures,
      c.side_at-right.ensures,
      c.left_from.ensures,
      c.right_from.ensures,
      read (goal.at.loop-n-preserved c).After-node-node,
      c.table-table.ensures,
    ) at c.raise-changed.ensures
    in
    turning_more turning
    (raised_visited c.book-book.ensures.at_hand.known (grown_sound turning.grown pre.sound) below
    (omega (arith, c.loop-n.auto.weights, pre.count_in_bounds))
    raised)
    (λ m more other. omega (arith, more, other))

pub returns : goal.returns
returns c =
    let count = rw c.book-book.ensures.book at c.count-n-end.ensures.count in
    turning_end c.loop-n.invariant (λ m below. omega (arith, below, c.loop-n-test.false, count))
