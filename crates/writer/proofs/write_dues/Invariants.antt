-- `writer::write_dues` meets its contract. The loop's invariant: the numbers left to store make up all, from where the next begins.
use Prim.Native.Nat.{◌+◌, ◌*◌}
use Rattle.writer.specs.Table.{due_bytes}
use Rattle.writer.proofs.Stored.{ListsStored}
use Rattle.writer.proofs.write_dues.Given as goal

abbrev pub invariant-loop-n : goal.invariant-loop-n
invariant-loop-n l = ListsStored (due_bytes l.lengths l.count) l.initial.plan l.plan l.from l.count (l.from + 2 * l.n) l.n
