-- `outline::read_sheet` meets its contract. The loop's invariant: the rules so far are read, with their nodes and rows put down.
-- The measure is what is left of the text.
use Prim.Native.Nat.{◌-◌}
use lib.ListN.{length}
use Rattle.outline.proofs.Sheets.{Outlining}
use Rattle.outline.proofs.read_sheet.Given as goal

abbrev pub invariant-loop-at : goal.invariant-loop-at
invariant-loop-at l = Outlining l.s l.initial.nodes l.initial.rows l.at l.next l.rules l.nodes l.rows

abbrev pub decreases-loop-at : goal.decreases-loop-at
decreases-loop-at l = length l.s - l.at
