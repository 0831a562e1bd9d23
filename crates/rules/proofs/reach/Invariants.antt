-- `rules::reach` meets its contract. The loop's invariant: all marks stand for reachable nodes, and the start is marked. The measure is
-- what is left for the sum of the marks' numbers to grow.
use lib.ListN.{length}
use Rattle.book.specs.Nodes.{node_in}
use Rattle.rules.specs.Growth.{masks}
use Rattle.rules.specs.Step.{ReachAt}
use Rattle.rules.proofs.Growing.{Settling, room_left}
use Rattle.rules.proofs.reach.Given as goal

abbrev pub invariant-loop-marks : goal.invariant-loop-marks
invariant-loop-marks l = Settling masks (ReachAt (node_in l.nodes) l.start) l.initial.marks l.marks

abbrev pub decreases-loop-marks : goal.decreases-loop-marks
decreases-loop-marks l = room_left (length l.initial.marks) l.marks
