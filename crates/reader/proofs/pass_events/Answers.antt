use mathlib.Core.Path.{◌≡◌, refl, ap, ◌∙◌}
use Prim.Native.Nat.{ℕ}
use native.Mathlib.Omega.{arith}
use lib.ListN.{length, set, length-set}
use Rattle.plan.specs.Form.{plan_from, plan_of}
use Rattle.plan.proofs.Runnable.{own, few_nodes}
use Rattle.reader.specs.Machine.{after, slot_of, pass_of}
use Rattle.reader.specs.Ready.{Ready}
use Rattle.reader.proofs.Simulation.{bounded}
use Rattle.reader.proofs.RunUnderWay.{run_ends, run-refused, run_intact, run_goes}
use Rattle.reader.proofs.Stops.{started}
use Rattle.reader.specs.Results.{spot_of}
use Rattle.reader.proofs.Bars.{not_done}
use Rattle.std.specs.declared.result.Result.TheVariants.{Ok, Err}
use mathlib.Core.Bool.{false}
use Rattle.reader.proofs.pass_events.Goals as goal
use Rattle.reader.proofs.pass_events.Goals.{At-loop-at}

pub slot_of-requires : goal.slot_of-requires
slot_of-requires c = (omega (arith, c.start.ensures.few), omega arith)

pub loop-at-init : goal.loop-at-init
unfolding plan_from
loop-at-init c =
    let held = c.args.held.now in
    let runs = own _ c.start.ensures.good in
    record {
      within = omega arith;
      rest = refl;
      safe = rw (length-set held 0 c.slot_of.result, c.slot_of.ensures) (started held (few_nodes runs) c.start.ensures.below c.requires.1);
      tree_long = refl;
      small = omega arith;
    }

-- the events from the first slot's start
same_start : (l : At-loop-at)
    → let a = l.args in
    let p = plan_of a.plan.now in
    pass_of p 0 a.run.now 1 0 (set a.held.now 0 l.slot_of.result) a.tree.now
    ≡ pass_of p 0 a.run.now 1 0 (set a.held.now 0 (slot_of p.start 0)) a.tree.now
same_start l =
    let a = l.args in
    ap (λ (n : ℕ). pass_of (plan_of a.plan.now) 0 a.run.now 1 0 (set a.held.now 0 n) a.tree.now)
    (l.slot_of.ensures ∙ ap (λ (n : ℕ). slot_of n 0) l.start.ensures.start)

-- a state with few records is ready for a step
ready : (l : At-loop-at) → Ready l.args.plan.now l.loop-at.standing.count l.loop-at.standing.written l.loop-at.held
unfolding plan_from
ready l =
    let inv = l.loop-at.invariant in
    record { parts = rw inv.safe.long inv.safe; few_records = omega (arith, inv.small, inv.within, l.requires.0) }

pub take_event-requires : goal.take_event-requires
take_event-requires c = ready (goal.at.take_event-requires c).At-loop-at

pub returns-in-Err : goal.returns-in-Err
unfolding plan_from
returns-in-Err c =
    let l = (goal.at.returns-in-Err c).At-loop-at in
    let e = c.take_event in
    let out = after (spot_of false (Err c.in-Err.refused)) e.new.held e.new.tree in
    let steps = rw c.from.ensures at c.in-Err.ensures in
    let more = c.loop-at-test.true in (
      run-refused _ _ _ _ _ c.loop-at.invariant more out steps (not_done c.in-Err.refused.refusal) ∙ same_start l,
      λ whole.
          let safe = run_intact _ _ _ _ _ c.loop-at.invariant more out steps whole in
          record { parts = rw safe.long safe; few_records = (ready l).few_records },
      c.start.ensures.good,
    )

pub loop-at-preserved : goal.loop-at-preserved
unfolding plan_from
loop-at-preserved c =
    let runs = own _ c.start.ensures.good in
    let e = c.take_event in
    run_goes _ _ _ _ _ c.loop-at.invariant c.loop-at-test.true (after (spot_of false (Ok c.in-Ok.taken)) e.new.held e.new.tree)
    (rw c.from.ensures at c.in-Ok.ensures) (bounded runs) (few_nodes runs) refl e.auto.tree

-- the run is at its end
pub returns : goal.returns
returns c =
    let l = (goal.at.returns c).At-loop-at in
    let past : c.loop-at.at ≡ length c.args.run.now = omega (arith, c.loop-at.invariant.within, c.loop-at-test.false) in
    (rw past at (run_ends _ _ _ _ _ c.loop-at.invariant c.loop-at-test.false) ∙ same_start l, λ whole. ready l, c.start.ensures.good)
