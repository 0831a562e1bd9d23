use borrow.Author.Rules.{rules}
use Rattle.rules.proofs.Growing.{downward_order, settling_none, settling_more}
use Rattle.book.specs.Nodes.{node_in}
use Rattle.lengths.specs.Measures.{fitting_laws}
use Rattle.lengths.proofs.Kinded.{nodes_kinded, kinded_fitting, none_beyond}
use Rattle.lengths.proofs.Lowering.{caps_sound, turned_leasts}
use Rattle.lengths.proofs.least.Goals as goal

pub loop-table-init : goal.loop-table-init
loop-table-init g c = settling_none (caps_sound c.requires)

pub lower_all-requires-clause-sound : goal.lower_all-requires-clause-sound
lower_all-requires-clause-sound g c = c.loop-table.invariant.sound

pub lower_all-requires-in-loop-table-clause-order : goal.lower_all-requires-in-loop-table-clause-order
lower_all-requires-in-loop-table-clause-order g c = downward_order _ (λ step below. search rules) (λ step n given. search rules)

pub lower_all-requires-in-loop-table-clause-sound : goal.lower_all-requires-in-loop-table-clause-sound
lower_all-requires-in-loop-table-clause-sound g c = (settling_more c.loop-table.invariant c.lower_all.ensures.lowered.grown).sound

pub loop-table-preserved : goal.loop-table-preserved
loop-table-preserved g c =
    settling_more (settling_more c.loop-table.invariant c.lower_all.ensures.lowered.grown) c.lower_all-in-loop-table.ensures.lowered.grown

pub returns-else-lower_all : goal.returns-else-lower_all
returns-else-lower_all g c =
    let good = c.lower_all.ensures.good in
    let laws = fitting_laws g.met.M.Measure.laws in
    turned_leasts laws (kinded_fitting laws (node_in c.args.nodes.now) (nodes_kinded c.args.nodes.now good)) (none_beyond c.args.nodes.now) c.requires
    (settling_more c.loop-table.invariant c.lower_all.ensures.lowered.grown)
    c.lower_all-in-loop-table.ensures.lowered
    c.if-lower_all.false

pub returns-after-loop-table : goal.returns-after-loop-table
returns-after-loop-table g c =
    let good = c.lower_all.ensures.good in
    let laws = fitting_laws g.met.M.Measure.laws in
    turned_leasts laws (kinded_fitting laws (node_in c.args.nodes.now) (nodes_kinded c.args.nodes.now good)) (none_beyond c.args.nodes.now) c.requires c.loop-table.invariant
    c.lower_all.ensures.lowered
    c.loop-table-test.false
