-- `words::copy_bytes` meets its contract. The loop's invariant: the first i bytes are copied.
use Rattle.words.proofs.Stored.{Copied}
use Rattle.words.proofs.copy_bytes.Given as goal

abbrev pub invariant-loop-i : goal.invariant-loop-i
invariant-loop-i l = Copied l.from l.at l.initial.to l.to l.place l.i
