use borrow.Author.Rules.{rules}
use mathlib.Core.Path.{ap}
use mathlib.Core.Bool.{Bool, ◌||◌}
use native.Mathlib.Omega.{arith}
use Rattle.book.specs.Nodes.{node_in}
use Rattle.rules.proofs.Growing.{downward_order, settling_none, settling_less, grown_then}
use Rattle.rules.proofs.Spreading.{start_sound, start_marked, spread_more, spread_end, all_reached}
use Rattle.rules.proofs.reach.Goals as goal

pub mark-requires : goal.mark-requires
mark-requires c = omega (arith, c.requires.start, c.count-count.ensures.good.few_nodes, c.requires.blank.long)

pub loop-marks-init : goal.loop-marks-init
loop-marks-init c =
    settling_none
    (start_sound c.requires.blank (omega (arith, c.requires.start, c.count-count.ensures.good.few_nodes)) c.mark.ensures (omega arith)
    {node = node_in c.args.nodes.now})

pub spread_all-requires-clause-order : goal.spread_all-requires-clause-order
spread_all-requires-clause-order c = downward_order _ (λ step below. search rules) (λ step n given. search rules)

pub returns-then-all_marked : goal.returns-then-all_marked
returns-then-all_marked c =
    let all = rw c.count-count.ensures.count at (c.all_marked.ensures c.if-all_marked.true) in
    (all_reached (spread_more c.loop-marks.invariant c.spread_all.ensures).sound all, (λ is. all))

pub returns-then-not-spread_all : goal.returns-then-not-spread_all
returns-then-not-spread_all c =
    let good = c.count-count.ensures.good in
    let started = start_marked c.requires.blank (omega (arith, c.requires.start, good.few_nodes)) c.mark.ensures (omega arith) in
    spread_end good.proper c.requires.start started (spread_more c.loop-marks.invariant c.spread_all.ensures)
    c.spread_all-in-loop-marks.ensures
    c.if-not-spread_all.true

pub returns-then-all_marked-2 : goal.returns-then-all_marked-2
returns-then-all_marked-2 c =
    let all = rw c.count-count.ensures.count at (c.all_marked-in-loop-marks.ensures c.if-all_marked-2.true) in
    let settling = spread_more (spread_more c.loop-marks.invariant c.spread_all.ensures) c.spread_all-in-loop-marks.ensures in
    (all_reached settling.sound all, (λ is. all))

pub loop-marks-preserved : goal.loop-marks-preserved
loop-marks-preserved c = spread_more (spread_more c.loop-marks.invariant c.spread_all.ensures) c.spread_all-in-loop-marks.ensures

pub loop-marks-smaller : goal.loop-marks-smaller
loop-marks-smaller c =
    let settling = c.loop-marks.invariant in
    let first = c.spread_all.ensures.from _ settling.sound in
    let second = c.spread_all-in-loop-marks.ensures.from _ (spread_more settling c.spread_all.ensures).sound in
    settling_less settling (grown_then first.grown second.grown) (ap (λ (changed : Bool). changed || c.spread_all-in-loop-marks.result) c.loop-marks-test.true)
    (search rules)

pub returns : goal.returns
returns c =
    let good = c.count-count.ensures.good in
    let started = start_marked c.requires.blank (omega (arith, c.requires.start, good.few_nodes)) c.mark.ensures (omega arith) in
    spread_end good.proper c.requires.start started c.loop-marks.invariant c.spread_all.ensures c.loop-marks-test.false
