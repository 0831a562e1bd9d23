use mathlib.Core.Path.{sym}
use mathlib.Core.Bool.{true, false}
use native.Mathlib.Omega.{arith}
use Rattle.words.proofs.FirstBad.{searched_none, searched_more, searched_within, searched_every}
use Rattle.names.specs.Names.{name_new}
use Rattle.names.proofs.Places.{name_first, at_next, earlier_within, compared}
use Rattle.names.proofs.name_new.Goals as goal

pub loop-init : goal.loop-init
loop-init c = (sym (name_first _ _), searched_none _ _)

pub same_name-requires : goal.same_name-requires
same_name-requires c = (
  earlier_within c.args.bytes.now c.args.base _ c.args.n c.loop.invariant.0 c.requires.0
      c.loop-test.true (omega (arith, c.requires.1)),
  c.requires.1,
)

pub returns-then-same_name : goal.returns-then-same_name
unfolding name_new
returns-then-same_name c =
    let turn = c.loop in
    sym
    (searched_within _ turn.invariant.1 c.loop-test.true
    (compared c.args.bytes.now c.args.base turn.counter c.args.n turn.invariant.0 c.requires.0
    c.same_name.ensures true c.if-same_name.true))

pub past_name-earlier-requires : goal.past_name-earlier-requires
past_name-earlier-requires c =
    omega (
      arith,
      earlier_within c.args.bytes.now c.args.base _ c.args.n c.loop.invariant.0
          c.requires.0 c.loop-test.true (omega (arith, c.requires.1)),
    )

pub loop-preserved : goal.loop-preserved
loop-preserved c =
    let turn = c.loop in (
      at_next _ _ _ turn.invariant.0 c.past_name-earlier.ensures,
      searched_more _ turn.invariant.1 c.loop-test.true
          (compared c.args.bytes.now c.args.base turn.counter c.args.n turn.invariant.0 c.requires.0
          c.same_name.ensures false c.if-same_name.false),
    )

pub returns : goal.returns
unfolding name_new
returns c = sym (searched_every _ c.loop.invariant.1 c.loop-test.false)
