-- `marks::Position::behind` meets its contract. The loop's invariant: the bytes before `at` are gone through.
use Rattle.marks.proofs.Laws.{Gone}
use Rattle.marks.proofs.Position.behind.Given as goal

abbrev pub invariant-loop-at : goal.invariant-loop-at
invariant-loop-at l = Gone l.front l.at l.position
