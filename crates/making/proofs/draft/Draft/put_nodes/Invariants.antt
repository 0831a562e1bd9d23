-- `making::draft::Draft::put_nodes` meets its contract. The loop's invariant: the nodes passed are written.
use Rattle.making.specs.Bytes.{down, node_written}
use Rattle.making.proofs.Noding.{Noding}
use Rattle.making.proofs.draft.Draft.put_nodes.Given as goal

abbrev pub invariant-loop-n : goal.invariant-loop-n
invariant-loop-n l =
    Noding (node_written (down l.self-inside.text.now l.self-inside.nodes.now l.self-inside.rows.now l.self-inside.kinds.now))
    l.self-inside.nodes.now l.initial.book l.book l.from l.n
