-- `compiler::compile_with` meets its contract: the table of facts is fresh, and long enough for the book.
use Rattle.rules.proofs.Flat.{flat_fresh}
use Rattle.compiler.proofs.compile_with.Goals as goal

pub compile_by-requires-clause-blank : goal.compile_by-requires-clause-blank
compile_by-requires-clause-blank g c = λ good. flat_fresh _ (c.requires.large good)
