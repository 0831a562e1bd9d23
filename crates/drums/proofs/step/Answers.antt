-- `drums::step` meets its contract: the reader's event on a copy of the slots.
use mathlib.Core.Path.{refl, ap, ◌∙◌}
use mathlib.Core.Bool.{false}
use Prim.Native.Nat.{◌+◌, ◌*◌, ◌-◌}
use native.Mathlib.Numerals.{add-one}
use native.Mathlib.Omega.{arith}
use Rattle.std.specs.declared.result.Result.TheVariants.{Ok, Err}
use Rattle.plan.specs.Form.{plan_count, plan_from, plan_of}
use Rattle.plan.proofs.Runnable.{own, few_nodes}
use Rattle.reader.specs.declared.Reading.{Reading}
use Rattle.reader.specs.Machine.{After, after}
use Rattle.reader.specs.Results.{spot_of}
use Rattle.reader.proofs.Bars.{not_done}
use Rattle.reader.proofs.Bounds.{Safe}
use Rattle.reader.proofs.Simulation.{bounded}
use Rattle.drums.specs.Drums.{drum_slots, stepped, idle_drum}
use Rattle.drums.proofs.Parts.{sound_ready}
use Rattle.drums.proofs.Steps.{step_long, step-taken, step-refused, step_safe}
use Rattle.drums.proofs.step.Goals as goal
use Rattle.drums.proofs.step.Goals.{In-Ok, In-Err}

pub returns-then-d-eq-MOST_EVENTS : goal.returns-then-d-eq-MOST_EVENTS
returns-then-d-eq-MOST_EVENTS c =
    (c.stop.ensures ∙ ap (λ (r : Reading). stepped r idle_drum) c.answer.ensures) ∙ step_long _ _ _ c.if-d-eq-MOST_EVENTS.true

pub take_event-requires : goal.take_event-requires
take_event-requires c = sound_ready c.requires.1 refl

-- the event is taken, and how the machine stands then
abbrev out : In-Ok → After
out v = after (spot_of false (Ok v.in-Ok.taken)) v.take_event.new.held v.take_event.new.tree

safe : (v : In-Ok)
    → let d = v.args.d.now in
    let nodes = plan_count v.args.plan.now in
    Safe nodes drum_slots (d.records + (d.held + 2 * nodes - 1)) (out v)
unfolding plan_from
safe v =
    step_safe (plan_of v.args.plan.now) _ (bounded (own _ v.requires.0)) v.requires.1 _ _ v.if-d-eq-MOST_EVENTS.false (out v)
    v.in-Ok.ensures refl

pub go_on-requires : goal.go_on-requires
go_on-requires c =
    let it = safe (goal.at.go_on-requires c).In-Ok in (
      it.parts,
      omega (arith, it.records, c.requires.1.few_records, c.requires.1.parts.few, few_nodes (own _ c.requires.0)),
    )

pub returns : goal.returns
unfolding plan_from
returns c =
    rw (add-one c.args.d.now.events) at c.go_on.ensures
    ∙ step-taken _ _ (bounded (own _ c.requires.0)) c.requires.1 _ _ c.if-d-eq-MOST_EVENTS.false (out (goal.at.returns c).In-Ok)
    c.in-Ok.ensures refl

-- or refused
pub returns-in-Err : goal.returns-in-Err
unfolding plan_from
returns-in-Err c =
    (c.stop-in-Err.ensures ∙ ap (λ (r : Reading). stepped r idle_drum) c.refuse_event.ensures)
    ∙ step-refused _ _ (bounded (own _ c.requires.0)) c.requires.1 _ _ c.if-d-eq-MOST_EVENTS.false
    (after (spot_of false (Err c.in-Err.refused)) c.take_event.new.held c.take_event.new.tree) c.in-Err.ensures
    (not_done c.in-Err.refused.refusal)
