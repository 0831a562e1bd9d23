use mathlib.Core.Path.{sym, ap, ◌∙◌}
use native.Mathlib.Omega.{arith}
use Rattle.names.specs.Names.{name_at}
use Rattle.names.proofs.Places.{name_first, ends-before, at_next}
use Rattle.names.proofs.name_at.Goals as goal

pub loop-init : goal.loop-init
loop-init c = sym (name_first _ _)

pub past_name-at-requires : goal.past_name-at-requires
past_name-at-requires c =
    let turn = c.loop in
    omega (
      arith,
      turn.invariant,
      c.requires,
      ends-before c.args.bytes.now c.args.base turn.counter c.args.n c.loop-test.true,
    )

pub loop-preserved : goal.loop-preserved
loop-preserved c =
    at_next _ _ _ c.loop.invariant c.past_name-at.ensures

pub returns : goal.returns
returns c = c.loop.invariant ∙ ap (name_at _ _) (omega arith)
