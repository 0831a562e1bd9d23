-- `reader::events` meets its contract: the run, by where its events stop. Where the slots were written over, reading the events before
-- again gives the parts held before the event refused.
use mathlib.Core.Path.{◌≡◌, refl, sym, ◌∙◌}
use mathlib.Core.List.{List}
use Prim.Native.Nat.{ℕ, ◌<◌}
use native.Mathlib.Omega.{arith}
use borrow.Author.Rules.{rules}
use lib.ListN.{length, set, take}
use lib.Seq.{length-take-le}
use Rattle.std.specs.declared.result.Result.TheVariants.{Ok, Err}
use Rattle.book.specs.Form.{DONE}
use Rattle.plan.specs.Form.{plan_from, plan_of, plan_judged}
use Rattle.plan.proofs.Runnable.{own, start_node}
use Rattle.reader.specs.Machine.{Passed, slot_of, stopped_at, pass_of}
use Rattle.reader.specs.Reads.{outcome}
use Rattle.reader.specs.Results.{stop_of}
use Rattle.reader.proofs.Bars.{not_done, passed_all, whole, silent}
use Rattle.reader.proofs.Simulation.{bounded}
use Rattle.reader.proofs.Stops.{Passing, stop_within, run-closed, run_silent, run-refused, again_intact, run_again}
use Rattle.reader.proofs.events.Goals as goal
use Rattle.reader.proofs.events.Goals.{In-Err}

-- events passed stop so
passing : (bytes run held tree : List ℕ) {met : Passed} → (plan_judged bytes).number ≡ DONE → 0 < length held
    → met ≡ pass_of (plan_of bytes) 0 run 1 0 (set held 0 (slot_of (plan_of bytes).start 0)) tree
    → Passing (plan_of bytes) run held tree met
unfolding plan_from
passing bytes run held tree good some stops =
    record { go_nodes = bounded (own _ good); start_below = start_node (own _ good); some_slot = some; stops = stops }

-- where an event was refused
abbrev met : In-Err → Passed
met v = stopped_at (stop_of (length v.args.run.now) (Err v.in-Err.stop)) v.pass_events.new.held v.pass_events.new.tree

refused : (v : In-Err) → Passing (plan_of v.args.plan.now) v.args.run.now v.args.held.now v.args.tree.now (met v)
refused v = passing _ _ _ _ v.in-Err.ensures.2 v.requires.1 v.in-Err.ensures.0

-- the place is small
at_small : (v : In-Err) → v.in-Err.stop.at < 65536
at_small v = omega (arith, stop_within (refused v), v.requires.0)

pub returns-in-Ok : goal.returns-in-Ok
unfolding plan_from
returns-in-Ok c =
    let passed = passing _ _ _ _ c.in-Ok.ensures.2 c.requires.1 c.in-Ok.ensures.0 in
    run-closed passed refl (rw c.pass_events.auto.held at (c.in-Ok.ensures.1 refl).parts) (outcome c.close.result c.close.new.tree)
    c.close.ensures (c.close.auto.tree ∙ c.pass_events.auto.tree)

pub overflow_cast-stop : goal.overflow_cast-stop
overflow_cast-stop c = omega (arith, at_small (goal.at.overflow_cast-stop c).In-Err)

pub slice_bounds-pass_events-end : goal.slice_bounds-pass_events-end
slice_bounds-pass_events-end c = sym (length-take-le _ _ (stop_within (refused (goal.at.slice_bounds-pass_events-end c).In-Err)))

-- the events before it are read again
pub unwrap-again-requires : goal.unwrap-again-requires
unwrap-again-requires c =
    let size = length (take c.in-Err.stop.at c.args.run.now) in
    let again = c.pass_events-in-Zero in
    passed_all size again.result
    (again_intact (refused (goal.at.unwrap-again-requires c).In-Err) (not_done c.in-Err.stop.refusal) c.pass_events.new.held
    (take 0 c.pass_events.new.tree) c.pass_events.auto.held (stopped_at (stop_of size again.result) again.new.held again.new.tree)
    again.ensures.0).1

pub refuse-requires : goal.refuse-requires
refuse-requires c =
    let again = c.pass_events-in-Zero in
    (((rw c.unwrap-again.ensures at again.ensures.1) refl).parts, at_small (goal.at.refuse-requires c).In-Err)

pub refuse-requires-in_default : goal.refuse-requires-in_default
refuse-requires-in_default c =
    let r = c.in-Err.stop.refusal in (
      (c.in-Err.ensures.1 (whole r c.in_default.not-Deep c.in_default.not-Zero c.in_default.not-Runaway).0).parts,
      at_small (goal.at.refuse-requires-in_default c).In-Err,
    )

pub returns-in-Deep : goal.returns-in-Deep
returns-in-Deep c =
    let r = c.in-Err.stop.refusal in
    run_silent (refused (goal.at.returns-in-Deep c).In-Err) (not_done r) c.pass_events.new.tree c.pass_events.auto.tree
    (silent r c.in-Deep.is) (rw c.from.ensures at c.plain.ensures)

pub returns-in-Zero : goal.returns-in-Zero
returns-in-Zero c =
    let size = length (take c.in-Err.stop.at c.args.run.now) in
    let again = c.pass_events-in-Zero in
    run_again (refused (goal.at.returns-in-Zero c).In-Err) (not_done c.in-Err.stop.refusal) c.pass_events.new.held
    (take 0 c.pass_events.new.tree) c.pass_events.auto.held
    (stopped_at (stop_of size (Ok c.unwrap-again.result)) again.new.held again.new.tree) (rw c.unwrap-again.ensures at again.ensures.0) _
    (search rules) (rw c.in-Zero.is refl) (rw c.from-in-Zero.ensures at c.refuse.ensures)

pub returns-in_default : goal.returns-in_default
returns-in_default c =
    let r = c.in-Err.stop.refusal in
    let out = whole r c.in_default.not-Deep c.in_default.not-Zero c.in_default.not-Runaway in
    run-refused (refused (goal.at.returns-in_default c).In-Err) (not_done r) c.pass_events.new.tree c.pass_events.auto.tree out.1 out.0
    (rw c.from-in_default.ensures at c.refuse-in_default.ensures)
