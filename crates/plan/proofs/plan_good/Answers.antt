-- `plan::plan_good` meets its contract: the length is tested first, then the rest at once.
use mathlib.Core.Path.{◌≡◌, sym, ◌∙◌}
use mathlib.Core.Bool.{Bool, true, not, and-true, and-false}
use native.Mathlib.Omega.{arith}
use Prim.Native.Nat.{ℕ, ◌<◌}
use lib.Dec.{leb}
use Rattle.std.specs.Prelude.{Option, Some, None, MatchOption}
use Rattle.std.specs.Option.{is_some}
use borrow.Author.Tests.{not-true, not-false}
use Rattle.std.proofs.lemmas.Bool.{le-leb, lt-leb}
use lib.ListN.{length}
use Rattle.forms.specs.Forms.{contents_are}
use Rattle.plan.specs.Form.{plan_sections, size_good, plan_good}
use Rattle.plan.proofs.Laws.{Sized, sized}
use Rattle.plan.proofs.plan_good.Goals as goal
use Rattle.plan.proofs.plan_good.Goals.{Else-not-size_good}

-- the length is good past the first test
size-test : (c : Else-not-size_good) → size_good (length c.args.plan.now) c.args.count c.args.kinds ≡ true
size-test c = sym c.size_good.ensures ∙ c.if-not-size_good.false

size_is : (c : Else-not-size_good) → Sized (length c.args.plan.now) c.args.count c.args.kinds
size_is c = sized _ _ _ (size-test c)

pub returns-then-not-size_good : goal.returns-then-not-size_good
unfolding plan_good
returns-then-not-size_good c = rw (sym c.size_good.ensures ∙ c.if-not-size_good.true)

pub plan_contents_good-requires : goal.plan_contents_good-requires
plan_contents_good-requires c = omega (arith, size_is (goal.at.plan_contents_good-requires c).Else-not-size_good)

pub settings_good-requires : goal.settings_good-requires
settings_good-requires c = omega (arith, size_is (goal.at.settings_good-requires c).Else-not-size_good)

pub first_bad-requires : goal.first_bad-requires
first_bad-requires c = omega (arith, size_is (goal.at.first_bad-requires c).Else-not-size_good)

-- that there is no bad node is that the first one is no lower than the count
none_bad : (found : Option ℕ) (count first : ℕ) (none : Bool) → MatchOption found (first ≡ count) (λ n. (n < count) × (n ≡ first))
    → is_some found ≡ not none → leb count first ≡ none
none_bad None count first none is some = le-leb count first (omega (arith, is)) ∙ sym (not-false none (sym some))
none_bad (Some n) count first none is some = lt-leb count first (omega (arith, is.0, is.1)) ∙ sym (not-true none (sym some))

pub returns-then-not-settings_good : goal.returns-then-not-settings_good
unfolding plan_good
returns-then-not-settings_good c =
    rw (
      size-test (goal.at.returns-then-not-settings_good c).Else-not-size_good,
      sym c.settings_good.ensures ∙ c.if-not-settings_good.true,
      and-false (contents_are c.args.plan.now (plan_sections c.args.count c.args.kinds)),
    )

pub returns : goal.returns
unfolding plan_good
returns c =
    rw (
      size-test (goal.at.returns c).Else-not-size_good,
      sym c.settings_good.ensures ∙ c.if-not-settings_good.false,
      ← c.plan_contents_good.ensures,
      and-true c.plan_contents_good.result,
      none_bad _ _ _ _ c.first_bad.ensures c.is_none.ensures,
    )
