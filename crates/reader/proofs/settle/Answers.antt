-- `reader::settle` meets its contract, by each of its tests.
use borrow.Author.Rules.{rules}
use Rattle.reader.proofs.Settles.{settled-refused, settled_full, settled_fits}
use Rattle.reader.proofs.settle.Goals as goal

pub returns-then-answer-ne-DONE : goal.returns-then-answer-ne-DONE
returns-then-answer-ne-DONE c = settled-refused _ _ c.if-answer-ne-DONE.true (search rules)

pub returns-then-tree-records : goal.returns-then-tree-records
returns-then-tree-records c =
    rw c.plain.ensures (settled_full _ _ c.if-answer-ne-DONE.false c.if-tree-records.true (search rules))

pub returns : goal.returns
returns c = settled_fits _ _ c.if-answer-ne-DONE.false c.if-tree-records.false (search rules)
