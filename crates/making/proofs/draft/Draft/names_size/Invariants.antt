-- `making::draft::Draft::names_size` meets its contract. The loop's invariant: the sizes of the names passed are added.
use Rattle.resolving.specs.Letters.{word_at}
use Rattle.making.proofs.Naming.{Measuring}
use Rattle.making.proofs.draft.Draft.names_size.Given as goal

abbrev pub invariant-loop-kind : goal.invariant-loop-kind
invariant-loop-kind l = Measuring (word_at l.self-inside.text.now) l.self-inside.kinds.now l.size l.kind-index
