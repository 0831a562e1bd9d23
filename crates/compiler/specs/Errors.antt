-- The answer that each thing that stands against compiling comes to.
use Rattle.verdict.specs.declared.Refusal.{Refusal}
use Rattle.verdict.specs.Refusals.{verdict_by}
use Rattle.compiler.specs.declared.Compiled.{Compiled}
use Rattle.compiler.specs.declared.CompileError.{CompileError}
use Rattle.compiler.specs.declared.CompileError.TheVariants.{Book, PlanRoom}
use Rattle.compiler.specs.Compiles.{PLAN-ROOM, answer}

-- what stands against compiling a book that is refused
abbrev pub refused_book : Refusal → CompileError
refused_book = Book

-- a refusal's number and place, and of a conflict the flag and the set; or PLAN ROOM, with the size
abbrev pub compiled_by : CompileError → Compiled
compiled_by (Book refusal) =
    answer (verdict_by refusal).number (verdict_by refusal).place 0 (verdict_by refusal).both (verdict_by refusal).clash
compiled_by (PlanRoom size) = answer PLAN-ROOM 0 size 0 0
