-- `making::draft::Draft::put_names` meets its contract. The loop's invariant: the names passed are written.
use Rattle.resolving.specs.Letters.{word_at}
use Rattle.making.proofs.Naming.{Naming}
use Rattle.making.proofs.draft.Draft.put_names.Given as goal

abbrev pub invariant-loop-kind : goal.invariant-loop-kind
invariant-loop-kind l = Naming (word_at l.self-inside.text.now) l.self-inside.kinds.now l.initial.book l.book l.from l.at l.kind-index
