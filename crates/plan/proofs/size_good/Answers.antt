-- `plan::size_good` meets its contract.
use Prim.Native.Nat.{◌+◌, ◌*◌, ◌≤◌}
use native.Mathlib.Nat.{mul-le-mul}
use native.Mathlib.Omega.{arith}
use Rattle.plan.proofs.size_good.Goals as goal
use Rattle.plan.proofs.size_good.Goals.{Start}

-- the product of two small numbers is small
small : (c : Start) → c.args.count * (c.args.kinds + 1) ≤ 65535 * 65536
small c = mul-le-mul {n₂ = 65535} {m₂ = 65536} (omega arith) (omega arith)

pub overflow_mul-result-2 : goal.overflow_mul-result-2
overflow_mul-result-2 c = omega (arith, small (goal.at.overflow_mul-result-2 c).Start)

pub overflow_add-result-3 : goal.overflow_add-result-3
overflow_add-result-3 c = omega (arith, small (goal.at.overflow_add-result-3 c).Start)

pub overflow_add-result-4 : goal.overflow_add-result-4
overflow_add-result-4 c = omega (arith, small (goal.at.overflow_add-result-4 c).Start)
