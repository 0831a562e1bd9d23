-- `plan::plan_size` meets its contract: what is left is that the size is small.
use native.Mathlib.Omega.{arith}
use Rattle.plan.proofs.Laws.{size_small}
use Rattle.plan.proofs.plan_size.Goals as goal

pub overflow_mul-result-2 : goal.overflow_mul-result-2
overflow_mul-result-2 c = record { fits = omega (arith, size_small c.args.count c.args.kinds c.requires.0 c.requires.1) }

pub overflow_add-result-3 : goal.overflow_add-result-3
overflow_add-result-3 c = record { fits = omega (arith, size_small c.args.count c.args.kinds c.requires.0 c.requires.1) }

pub overflow_add-result-4 : goal.overflow_add-result-4
overflow_add-result-4 c = record { fits = omega (arith, size_small c.args.count c.args.kinds c.requires.0 c.requires.1) }

pub returns : goal.returns
returns c = omega (arith, size_small c.args.count c.args.kinds c.requires.0 c.requires.1)
