-- `making::draft::Draft::put_nodes` meets its contract.
use mathlib.Core.Path.{◌≡◌, ap, subst}
use native.Mathlib.Omega.{arith}
use lib.ListN.{length}
use lib.Seq.{sets}
use Rattle.words.specs.Words.{word_bytes}
use Rattle.book.specs.Encode.{node_words}
use Rattle.book.proofs.Holding.{length_node}
use Rattle.making.specs.Bytes.{Down, nodes_words}
use Rattle.making.proofs.Numbers.{node_small}
use Rattle.making.proofs.Noding.{noding_none, noding_more, noding_all}
use Rattle.making.proofs.draft.Draft.put_nodes.Goals as goal

pub loop-n-init : goal.loop-n-init
loop-n-init c = noding_none _ _ _ _

pub put_node-requires : goal.put_node-requires
put_node-requires c =
    let count = ap (λ (d : Down). length d.nodes) c.self.view_is in (
      omega (arith, c.loop-n.invariant.long, c.requires, c.loop-n-test.true, count),
      node_small _ c.self.invariant _ c.loop-n-test.true (ap node_words c.resolve-node.ensures),
    )

pub loop-n-preserved : goal.loop-n-preserved
loop-n-preserved c =
    noding_more _ _ c.loop-n.invariant _ (λ raw. length_node _) c.loop-n-test.true (ap node_words c.resolve-node.ensures)
    c.put_node.ensures

pub returns : goal.returns
returns c =
    subst (λ (d : Down). c.loop-n.book ≡ sets c.args.book.now c.args.from (word_bytes (nodes_words d))) c.self.view_is
    (noding_all _ _ c.loop-n.invariant c.loop-n-test.false)
