-- `forms::put_contents` meets its contract. The loop's invariant: the entries passed are written, those left are due.
use Rattle.forms.proofs.Entries.{Entered}
use Rattle.forms.proofs.put_contents.Given as goal

abbrev pub invariant-loop-i : goal.invariant-loop-i
invariant-loop-i l = Entered l.initial.bytes l.bytes l.sizes l.offset l.i
