use Prim.Native.Nat.{◌<◌}
use native.Mathlib.Omega.{arith}
use Rattle.book.specs.Form.{book_of}
use Rattle.book.proofs.Decoded.{formed, well_formed}
use Rattle.rules.proofs.Flat.{flat_longer}
use Rattle.rules.proofs.Growing.{grown_sound}
use Rattle.rules.proofs.Reading.{left_or_zero, right_or_zero, kind_inside}
use Rattle.rules.proofs.Steps.{rules_put}
use Rattle.rules.proofs.Climbing.{climbed_none, climbed_more, climbed_end}
use Rattle.rules.proofs.visit_all.Goals as goal

pub loop-n-init : goal.loop-n-init
loop-n-init c = (climbed_none _, λ narrow. narrow)

pub node-requires : goal.node-requires
node-requires c = omega (arith, c.loop-n-test.true, c.count-n-end.ensures.count)

pub ruled-facts-requires : goal.ruled-facts-requires
ruled-facts-requires c =
    let form = c.count-n-end.ensures.form in
    let below : c.loop-n.n < (book_of c.args.book.now).count = omega (arith, c.loop-n-test.true, c.count-n-end.ensures.count) in
    let climbed = c.loop-n.invariant.0 in
    let pre = c.requires in
    record {
      node_bound = kind_inside _ form below c.node.ensures;
      node_in_bounds = omega (arith, left_or_zero _ form below c.node.ensures, flat_longer c.args.table.now c.loop-n.table climbed.grown.long, pre.count_in_bounds);
      node_in_bounds_2 = omega (arith, right_or_zero _ form below c.node.ensures, flat_longer c.args.table.now c.loop-n.table climbed.grown.long, pre.count_in_bounds);
    }

pub loop-n-preserved : goal.loop-n-preserved
loop-n-preserved c =
    let wf = well_formed (formed _ c.count-n-end.ensures.form) in
    let below : c.loop-n.n < (book_of c.args.book.now).count = omega (arith, c.loop-n-test.true, c.count-n-end.ensures.count) in
    let climbed = c.loop-n.invariant.0 in (
      climbed_more wf.proper below climbed
          (rules_put (grown_sound climbed.grown c.requires.sound) c.node.ensures c.ruled-facts.ensures c.put-changed.ensures.put),
      λ narrow. c.put-changed.ensures.narrow (c.loop-n.invariant.1 narrow),
    )

pub shape_of-table : goal.shape_of-table
shape_of-table c = flat_longer _ _ c.loop-n.invariant.0.grown.long

pub returns-clause-climbed : goal.returns-clause-climbed
returns-clause-climbed c = climbed_end (omega (arith, c.loop-n-test.false, c.count-n-end.ensures.count)) c.loop-n.invariant.0

pub returns-clause-narrow : goal.returns-clause-narrow
returns-clause-narrow c = c.loop-n.invariant.1
