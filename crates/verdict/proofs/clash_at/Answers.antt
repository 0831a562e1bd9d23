-- `verdict::clash_at` meets its contract: the node is read, and the table has the facts of its left and right.
use native.Mathlib.Omega.{arith}
use Rattle.verdict.proofs.Clashes.{left_in, right_in, told_read, clashes_some, clashes_none}
use Rattle.verdict.proofs.clash_at.Goals as goal

pub facts-left-requires : goal.facts-left-requires
facts-left-requires c =
    omega (arith, c.left_from.ensures, left_in c.book.ensures.at_hand.known c.requires (rw c.book.ensures.book at c.node-node.ensures))

pub facts-right-requires : goal.facts-right-requires
facts-right-requires c =
    omega (arith, c.right_from.ensures, right_in c.book.ensures.at_hand.known c.requires (rw c.book.ensures.book at c.node-node.ensures))

pub returns-then-clash : goal.returns-then-clash
returns-then-clash c =
    let hand = c.book.ensures.at_hand in
    let told = told_read hand.known c.requires (rw c.book.ensures.book at c.node-node.ensures) c.left_from.ensures c.facts-left.ensures
    c.right_from.ensures
    c.facts-right.ensures
    c.clash_of-clash.ensures
    in
    record { conflict = clashes_some _ told c.if-clash.true; told = told }

pub returns-else-clash : goal.returns-else-clash
returns-else-clash c =
    let hand = c.book.ensures.at_hand in
    let told = told_read hand.known c.requires (rw c.book.ensures.book at c.node-node.ensures) c.left_from.ensures c.facts-left.ensures
    c.right_from.ensures
    c.facts-right.ensures
    c.clash_of-clash.ensures
    in
    clashes_none _ told c.if-clash.false
