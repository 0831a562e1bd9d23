use mathlib.Core.Path.{◌≡◌, refl, sym, ◌∙◌}
use native.Mathlib.Omega.{arith}
use Rattle.running.specs.Running.{row_first}
use Rattle.plan.specs.Form.{plan_kinds}
use Rattle.std.proofs.lemmas.Bool.{not-true, not-false}
use Rattle.reader.proofs.Rows.{row_without, row_with}
use Rattle.reader.proofs.row_first.Goals as goal
use Rattle.reader.proofs.row_first.Goals.{then-takes, else-takes}

pub loop-kind-init : goal.loop-kind-init
unfolding row_first
loop-kind-init c = refl

pub loop-kind-preserved : goal.loop-kind-preserved
loop-kind-preserved c =
    elim c.if-takes.branch [
      | then-takes w ↦
          w.first-is ∙ rw (c.loop-kind.invariant, w.single-first.ensures)
          (row_with _ c.args.node c.loop-kind.kind (not-true _ (sym c.takes.ensures ∙ w.if-takes.true)))
      | else-takes w ↦
          w.first-is ∙ c.loop-kind.invariant
          ∙ row_without _ c.args.node c.loop-kind.kind (not-false _ (sym c.takes.ensures ∙ w.if-takes.false))
    ]

pub returns : goal.returns
returns c =
    let passed : c.loop-kind.kind ≡ plan_kinds c.args.plan.now =
    omega (arith, c.kinds-kind-end.ensures.kinds, c.loop-kind-test.false, c.loop-kind.auto.kind-end) in
    rw passed at c.loop-kind.invariant
