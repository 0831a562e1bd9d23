use native.Mathlib.Omega.{arith}
use Rattle.laying.proofs.Laying.{start_inside, writing_none, visit-inside, visit_kind, writing_long, event_fits, room_inside, visit_sides}
use Rattle.laying.proofs.Laying.{writing_fewer, writing_more, writing_end}
use Rattle.laying.proofs.write_sample.Goals as goal

pub push_due-requires : goal.push_due-requires
push_due-requires c =
    let ready = c.requires.ready in (
      rw c.none-parts.ensures (omega arith),
      start_inside ready c.start.ensures.start,
      omega (arith, ready.long),
    )

pub loop-n-init : goal.loop-n-init
loop-n-init c =
    writing_none c.requires.ready c.start.ensures.start c.requires.run_value (rw c.none-parts.ensures at c.push_due.ensures)

pub node-node-requires : goal.node-node-requires
node-node-requires c = visit-inside c.requires.ready c.loop-n.invariant c.in-Some.ensures

pub put_event-at-requires : goal.put_event-at-requires
put_event-at-requires c =
    let ready = c.requires.ready in
    let inv = c.loop-n.invariant in
    let read = c.node-node.ensures in (
      visit_kind ready inv c.in-Some.ensures read,
      omega (arith, writing_long inv, event_fits ready inv c.in-Some.ensures read),
    )

pub push_parts-requires-clause-room : goal.push_parts-requires-clause-room
push_parts-requires-clause-room c =
    let ready = c.requires.ready in (room_inside ready c.loop-n.invariant c.in-Some.ensures, omega (arith, ready.long))

pub push_parts-requires-clause-sides : goal.push_parts-requires-clause-sides
push_parts-requires-clause-sides c =
    visit_sides c.requires.ready c.loop-n.invariant c.in-Some.ensures c.node-node.ensures

pub loop-n-smaller : goal.loop-n-smaller
loop-n-smaller c =
    let put = c.put_event-at.ensures in
    writing_fewer c.requires.ready c.loop-n.invariant c.in-Some.ensures c.node-node.ensures put.0 put.1 c.push_parts.ensures

pub loop-n-preserved : goal.loop-n-preserved
loop-n-preserved c =
    let put = c.put_event-at.ensures in
    writing_more c.requires.ready c.loop-n.invariant c.in-Some.ensures c.node-node.ensures put.0 put.1 c.push_parts.ensures

pub shape_of-run : goal.shape_of-run
shape_of-run c = writing_long c.loop-n.invariant

pub returns : goal.returns
returns c = writing_end c.requires.ready c.loop-n.invariant c.in_default.ensures
