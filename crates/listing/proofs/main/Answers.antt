-- `listing::main` meets its contract: its buffers suffice, so there is something to write for every input.
use Rattle.std.proofs.Common.{rules, arith}
use Prim.Native.Nat.{◌≤◌, ◌<◌}
use mathlib.Core.Path.{sym}
use lib.ListN.{length}
use lib.Seq.{length-take-le}
use Rattle.listed.proofs.Buffers.{answers_some}
use Rattle.listing.proofs.main.Goals as goal
use Rattle.listing.proofs.main.Goals.{After-list-count}

-- what `list` wrote
written : (c : After-list-count) → (0 < c.list-count.result) × (c.list-count.result ≤ length c.list-count.new.out)
written c =
    answers_some _ _ _ _ _ _
    (record {
      decides = search rules;
      read = search rules;
      lines = search rules;
      cells = search rules;
      slots = search rules;
      records = search rules;
    })
    c.list-count.ensures

pub prove-unreachable-requires : goal.prove-unreachable-requires
prove-unreachable-requires c =
    let some = (written (goal.at.prove-unreachable-requires c).After-list-count).0 in omega arith

pub slice_bounds-out-end : goal.slice_bounds-out-end
slice_bounds-out-end c = (written (goal.at.slice_bounds-out-end c).After-list-count).1

pub slice_bounds-write_all-end : goal.slice_bounds-write_all-end
slice_bounds-write_all-end c = sym (length-take-le _ _ (written (goal.at.slice_bounds-write_all-end c).After-list-count).1)
