-- `Plan::read` meets its contract: each return is the law of `plan_judged` for the tests that led there.
use mathlib.Core.Path.{◌≡◌, refl, sym, ap, ◌∙◌}
use mathlib.Core.Bool.{true}
use borrow.Author.Rules.{rules}
use Rattle.book.specs.declared.Judged.{Judged}
use Rattle.plan.specs.Form.{plan_count, plan_kinds, plan_good, cells_judged, plan_judged}
use Rattle.plan.proofs.Laws.{formed, formed_size, short_bad, judged_form, judged_cells}
use Rattle.plan.proofs.good.Plan.read.Goals as goal
use Rattle.plan.proofs.good.Plan.read.Goals.{After-plan_good, Else-not-plan_good}

pub returns-then-bytes-lt-PLAN_NODES_AT : goal.returns-then-bytes-lt-PLAN_NODES_AT
returns-then-bytes-lt-PLAN_NODES_AT c = judged_form _ (short_bad _ _ _ c.if-bytes-lt-PLAN_NODES_AT.true)

-- the form test's answer, for the plan's own count and kinds
tested : (v : After-plan_good)
    → let bytes = v.args.bytes.now in
    v.plan_good.result ≡ plan_good bytes (plan_count bytes) (plan_kinds bytes)
tested v = rw (← v.plan_count-nodes.ensures.0, ← v.plan_kinds-kinds.ensures.0) v.plan_good.ensures

pub returns-then-not-plan_good : goal.returns-then-not-plan_good
returns-then-not-plan_good c =
    judged_form _ (sym (tested (goal.at.returns-then-not-plan_good c).After-plan_good) ∙ c.if-not-plan_good.true)

form-good : (v : Else-not-plan_good)
    → let bytes = v.args.bytes.now in
    plan_good bytes (plan_count bytes) (plan_kinds bytes) ≡ true
form-good v = rw (← v.plan_count-nodes.ensures.0, ← v.plan_kinds-kinds.ensures.0) (sym v.plan_good.ensures ∙ v.if-not-plan_good.false)

-- what is judged then is the cells
cells : (v : Else-not-plan_good)
    → plan_judged v.args.bytes.now ≡ cells_judged v.args.bytes.now v.plan_count-nodes.result v.plan_kinds-kinds.result
cells v = rw (v.plan_count-nodes.ensures.0, v.plan_kinds-kinds.ensures.0) (judged_cells _ (form-good v))

pub check_cells-requires : goal.check_cells-requires
check_cells-requires c =
    rw (c.plan_count-nodes.ensures.0, c.plan_kinds-kinds.ensures.0)
    (formed_size (formed _ (form-good (goal.at.check_cells-requires c).Else-not-plan_good)))

pub returns-in_err-check_cells : goal.returns-in_err-check_cells
returns-in_err-check_cells c =
    search (rules, cells (goal.at.returns-in_err-check_cells c).Else-not-plan_good ∙ c.in_err-check_cells.ensures)

pub invariant_of-result : goal.invariant_of-result
invariant_of-result c =
    record {
      good = ap (λ (j : Judged). j.number) (cells (goal.at.invariant_of-result c).Else-not-plan_good ∙ c.in_ok-check_cells.ensures);
      count_is = c.plan_count-nodes.ensures.0;
      kinds_is = c.plan_kinds-kinds.ensures.0;
    }

pub returns : goal.returns
returns c = (refl, cells (goal.at.returns c).Else-not-plan_good ∙ c.in_ok-check_cells.ensures)
