-- `compiler::compile_by` meets its contract: what judging says, or on to the plan.
use mathlib.Core.Path.{refl}
use Rattle.compiler.proofs.Answers.{answered-refused}
use Rattle.compiler.proofs.compile_by.Goals as goal

pub returns-in_err-passed : goal.returns-in_err-passed
returns-in_err-passed c =
    answered-refused _ _ _ c.in_err-passed.field-0.0 c.from_residual.ensures.1 c.in_err-passed.ensures.judges c.requires.clear

pub of-requires : goal.of-requires
of-requires c = rw c.in_ok-passed.ensures.0 (c.in_ok-passed.ensures.1.known refl)

pub put_plan-requires : goal.put_plan-requires
put_plan-requires c =
    let left = c.in_ok-passed.ensures.1 in
    rw (c.of.ensures, c.in_ok-passed.ensures.0)
    (record { judges = left.judges; fresh = c.requires.fresh (left.known refl).good.form; clear = c.requires.clear })

pub returns : goal.returns
returns c = rw (c.of.ensures, c.in_ok-passed.ensures.0) at c.put_plan.ensures
