-- `sample::hand_run` meets its contract: 24, 25, or the sample is written.
use native.Mathlib.Omega.{arith}
use Rattle.sample.proofs.Answers.{weights_reach, weight_is, answered_long, answered_room, ready_for, answered_done}
use Rattle.sample.proofs.hand_run.Goals as goal

pub weight_at-weight-requires : goal.weight_at-weight-requires
weight_at-weight-requires c = weights_reach c.requires.judges c.start.ensures.below c.requires.weights.1

pub returns-then-weight : goal.returns-then-weight
returns-then-weight c =
    let pre = c.requires in
    let is = weight_is c.args.weights.now c.weight_at-weight.ensures.0 c.start.ensures.start in
    answered_long pre.judges pre.weights.0 (omega (arith, c.if-weight.true, is))

pub returns-then-run-size : goal.returns-then-run-size
returns-then-run-size c =
    let pre = c.requires in
    let is = weight_is c.args.weights.now c.weight_at-weight.ensures.0 c.start.ensures.start in
    answered_room pre.judges pre.weights.0 (omega (arith, c.if-weight.false, is)) pre.weights.1 (omega (arith, c.if-run-size.true, is))

pub write_sample-requires-clause-ready : goal.write_sample-requires-clause-ready
write_sample-requires-clause-ready c =
    let pre = c.requires in
    let is = weight_is c.args.weights.now c.weight_at-weight.ensures.0 c.start.ensures.start in
    ready_for pre.judges pre.weights.0 (omega (arith, c.if-weight.false, is)) pre.weights.1 _
    (omega (arith, c.if-run-size.false, is, c.fill.ensures.len))

pub returns : goal.returns
returns c =
    let pre = c.requires in
    let is = weight_is c.args.weights.now c.weight_at-weight.ensures.0 c.start.ensures.start in
    answered_done pre.judges pre.weights.0 (omega (arith, c.if-weight.false, is)) pre.weights.1 (omega (arith, is))
    (omega (arith, c.if-run-size.false, is)) c.fill.ensures.len c.write_sample.ensures
