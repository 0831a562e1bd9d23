use native.Mathlib.Omega.{arith}
use Rattle.words.proofs.FirstBad.{searched_none, searched_more, searched_bad, searched_all}
use Rattle.names.proofs.Places.{name_first, at_next, good_whole, bad_found, none_found}
use mathlib.Core.Path.{◌≡◌, sym, ◌∙◌}
use lib.Dec.{eqb}
use lib.ListN.{length}
use borrow.Author.Tests.{eq-eqb, ne_eqb}
use Rattle.names.specs.Names.{names_good, first_bad_name}
use Rattle.names.proofs.find_bad.Goals as goal
use Rattle.names.proofs.find_bad.Goals.{After-loop-n}

pub loop-n-init : goal.loop-n-init
loop-n-init c = (sym (name_first _ _), c.requires, searched_none _ _)

pub name_good-requires : goal.name_good-requires
name_good-requires c = (c.loop-n.invariant.0, c.loop-n.invariant.1)

pub returns-then-not-name_good : goal.returns-then-not-name_good
returns-then-not-name_good c =
    let turn = c.loop-n in
    let bad = searched_bad _ turn.invariant.2 c.loop-n-test.true (sym c.name_good.ensures ∙ c.if-not-name_good.true) in
    (bad_found _ _ turn.invariant.0 c.loop-n-test.true bad, bad)

pub past_name-at-requires : goal.past_name-at-requires
past_name-at-requires c =
    omega (
      arith,
      (good_whole c.args.bytes.now c.args.base _ c.loop-n.invariant.0
          (sym c.name_good.ensures ∙ c.if-not-name_good.false)).within,
    )

pub loop-n-preserved : goal.loop-n-preserved
loop-n-preserved c =
    let turn = c.loop-n in
    let good = sym c.name_good.ensures ∙ c.if-not-name_good.false in (
      at_next _ _ _ turn.invariant.0 c.past_name-at.ensures,
      omega (arith, c.past_name-at.ensures, (good_whole c.args.bytes.now c.args.base _ turn.invariant.0 good).within),
      searched_more _ turn.invariant.2 c.loop-n-test.true good,
    )

-- past the last name: the answer is whether it ends where the bytes do
ended : (c : After-loop-n) → let bytes = c.args.bytes.now in
    (eqb c.loop-n.at (length bytes) ≡ names_good bytes c.args.base c.args.count) × (c.args.count ≡ first_bad_name bytes c.args.base c.args.count)
ended c =
    let turn = c.loop-n in
    let past = searched_all _ turn.invariant.2 c.loop-n-test.false in
    let all : turn.n ≡ c.args.count = omega (arith, c.loop-n-test.false, turn.invariant.2.within) in
    (none_found _ _ turn.invariant.0 all past, sym all ∙ past)

pub returns-then-at-bytes : goal.returns-then-at-bytes
returns-then-at-bytes c =
    let (is, first) = ended (goal.at.returns-then-at-bytes c).After-loop-n in
    (sym is ∙ ne_eqb _ _ (λ same. omega (arith, same, c.if-at-bytes.true)), first)

pub returns : goal.returns
returns c = sym (ended (goal.at.returns c).After-loop-n).0 ∙ eq-eqb _ _ (omega (arith, c.if-at-bytes.false, c.loop-n.invariant.1))
