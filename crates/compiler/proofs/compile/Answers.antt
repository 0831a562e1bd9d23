-- `compiler::compile` meets its contract: small tables are enough for a small book, and large ones for every book.
use native.Mathlib.Omega.{arith}
use Rattle.compiler.proofs.Answers.{few_claimed, few_any}
use Rattle.compiler.proofs.compile.Goals as goal

pub compile_with-requires : goal.compile_with-requires
compile_with-requires c = record {
  large = λ good. few_claimed _ c.count_claimed.ensures c.if-count_claimed-le-SMALL_TABLE.true good;
  few = omega arith;
}

pub compile_with-requires-else-count_claimed-le-SMALL_TABLE : goal.compile_with-requires-else-count_claimed-le-SMALL_TABLE
compile_with-requires-else-count_claimed-le-SMALL_TABLE c = record {
  large = λ good. few_any _ good;
  few = omega arith;
}
