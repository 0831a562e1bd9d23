-- `forms::contents_are` meets its contract. The loop's invariant: the entries passed stand, those left decide the answer.
use Rattle.forms.proofs.Entries.{Compared}
use Rattle.forms.proofs.contents_are.Given as goal

abbrev pub invariant-loop-i : goal.invariant-loop-i
invariant-loop-i l = Compared l.bytes l.sizes l.offset l.i
