use mathlib.Core.Path.{ap, ◌∙◌}
use mathlib.Core.Bool.{Bool, ◌||◌}
use native.Mathlib.Omega.{arith}
use Rattle.book.proofs.Decoded.{formed, well_formed}
use Rattle.rules.proofs.Flat.{flat_longer, flat_room, blank_narrow}
use Rattle.rules.proofs.Growing.{grown_sound, grown_then, settling_none, settling_more}
use Rattle.rules.proofs.Growing.{blank_sound, settling_less}
use Rattle.rules.proofs.Climbing.{refs_facts}
use Rattle.rules.proofs.least_facts.Goals as goal

pub visit_all-requires : goal.visit_all-requires
visit_all-requires c =
    record {
      count_in_bounds = flat_room c.args.table.now c.requires;
      sound = blank_sound c.requires;
    }

pub loop-table-init : goal.loop-table-init
loop-table-init c =
    let blank = c.requires in (
      (settling_none (grown_sound c.visit_all.ensures.climbed.grown (blank_sound blank)), c.visit_all.ensures.climbed.closed),
      c.visit_all.ensures.narrow (blank_narrow blank),
    )

pub visit_refs-requires : goal.visit_refs-requires
visit_refs-requires c =
    let settling = c.loop-table.invariant.0.0 in
    record {
      count_in_bounds = omega (arith, flat_room c.args.table.now c.requires, flat_longer c.args.table.now _ c.visit_all.ensures.climbed.grown.long, flat_longer _ c.loop-table.table settling.long);
      sound = settling.sound;
    }

pub visit_all-requires-in-loop-table : goal.visit_all-requires-in-loop-table
visit_all-requires-in-loop-table c =
    let settling = settling_more c.loop-table.invariant.0.0 c.visit_refs.ensures.turned.grown in
    record {
      count_in_bounds = omega (arith, flat_room c.args.table.now c.requires, flat_longer c.args.table.now _ c.visit_all.ensures.climbed.grown.long, flat_longer _ c.visit_refs.new.table settling.long);
      sound = settling.sound;
    }

pub loop-table-smaller : goal.loop-table-smaller
loop-table-smaller c =
    settling_less c.loop-table.invariant.0.0
    (grown_then c.visit_refs.ensures.turned.grown c.visit_all-in-loop-table.ensures.climbed.grown)
    (ap (λ (changed : Bool). changed || c.visit_all-in-loop-table.result) c.loop-table-test.true)
    (c.visit_all-in-loop-table.ensures.narrow (c.visit_refs.ensures.narrow c.loop-table.invariant.1))

pub loop-table-preserved : goal.loop-table-preserved
loop-table-preserved c =
    let settling = settling_more c.loop-table.invariant.0.0 c.visit_refs.ensures.turned.grown in (
      (settling_more settling c.visit_all-in-loop-table.ensures.climbed.grown, c.visit_all-in-loop-table.ensures.climbed.closed),
      c.visit_all-in-loop-table.ensures.narrow (c.visit_refs.ensures.narrow c.loop-table.invariant.1),
    )

pub shape_of-table : goal.shape_of-table
shape_of-table c =
    flat_longer _ _
    ((settling_more c.loop-table.invariant.0.0 c.visit_refs.ensures.turned.grown).long ∙ c.visit_all.ensures.climbed.grown.long)

pub returns : goal.returns
returns c =
    let ((settling, closed), narrow) = c.loop-table.invariant in (
      refs_facts (well_formed (formed _ c.visit_all.ensures.form)).proper settling.sound closed c.visit_refs.ensures.turned c.loop-table-test.false,
      c.visit_refs.ensures.narrow narrow,
    )
