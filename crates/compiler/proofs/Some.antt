-- Compiling has an answer, for all bytes and any plan room.
use Prim.Native.Nat.{ℕ}
use native.Mathlib.Omega.{arith}
use native.Mathlib.Decide.{dec_lt, ℕ_discrete}
use mathlib.Core.Path.{◌≡◌}
use mathlib.Core.List.{List}
use Rattle.book.specs.Form.{DONE, book_of}
use Rattle.verdict.specs.declared.Verdict.{Verdict}
use Rattle.verdict.specs.Judges.{Judges}
use Rattle.verdict.proofs.Passing.{passed, passed_judges}
use Rattle.verdict.proofs.Some.{judges_some}
use Rattle.running.proofs.Found.{marks_are}
use Rattle.compiler.specs.declared.Compiled.{Compiled}
use Rattle.compiler.specs.Compiles.{Compiles, refused, no_room, done, size_of}

module _ (bytes : List ℕ) (room : ℕ) where
  -- an answer that compiling may come to
  abbrev pub Answered : Type 0
  Answered = (a : Compiled) × (p : List ℕ) × Compiles bytes room a p

  unfoldable pub by_verdict : (v : Verdict) → Judges bytes v → Dec (v.number ≡ DONE) → Answered
  by_verdict v judges (no bad) = (_, _, refused judges bad)
  by_verdict v judges (yes is) =
      let good = passed_judges judges is in
      elim (dec_lt room (size_of (book_of bytes))) [
        | yes short ↦ (_, _, no_room good short)
        | no enough ↦ (_, _, done good (omega arith) (marks_are (book_of bytes) (passed judges is).by_rules.well_formed))
      ]

  -- compiling has an answer
  unfoldable pub compiles_some : (a : Compiled) × (p : List ℕ) × Compiles bytes room a p
  compiles_some = let some = judges_some bytes in by_verdict some.0 some.1 (ℕ_discrete some.0.number DONE)
