-- Each way out of compiling, and the row of the table of answers that it is.
use Prim.Native.Nat.{ℕ, ◌-◌, ◌≤◌, ◌<◌}
use native.Mathlib.Omega.{arith}
use mathlib.Core.Path.{◌≡◌, sym, subst}
use mathlib.Core.List.{List, ◌++◌}
use lib.ListN.{length}
use Rattle.words.specs.Words.{zeros}
use Rattle.book.specs.Form.{DONE, count_claimed, form_of, book_of}
use Rattle.book.proofs.Decoded.{formed, well_formed, claimed_is}
use Rattle.lengths.specs.Least.{Lengths}
use Rattle.verdict.specs.declared.Refusal.{Refusal}
use Rattle.verdict.specs.Refusals.{verdict_by}
use Rattle.verdict.proofs.Answers.{refusal_number}
use Rattle.std.specs.Prelude.{Result}
use Rattle.std.specs.Result.{MatchResult, IsErrAnd}
use Rattle.std.proofs.lemmas.Result.{err_from_is_err_and}
use Rattle.compiler.specs.declared.CompileError.{CompileError}
use Rattle.compiler.specs.declared.CompileError.TheVariants.{Book}
use Rattle.compiler.specs.Errors.{compiled_by}
use Rattle.verdict.specs.Judges.{judgement, Judges}
use Rattle.verdict.specs.Conflicts.{Known}
use Rattle.verdict.proofs.Books.{book_well_formed}
use Rattle.writer.specs.Bytes.{plan_bytes}
use Rattle.writer.specs.Table.{marks_of, with_due}
use Rattle.writer.proofs.TableMarks.{table-marked}
use Rattle.compiler.specs.Compiles.{Compiles, refused, no_room, done, answer, PLAN-ROOM, size_of}

-- a book of good form that claims few nodes has few, and any has at most 512
pub few_claimed : (bytes : List ℕ) {claimed : ℕ} → claimed ≡ count_claimed bytes → claimed ≤ 64 → (form_of bytes).number ≡ DONE
    → (book_of bytes).count ≤ 64
few_claimed bytes is few good = omega (arith, is, few, claimed_is (formed bytes good))

pub few_any : (bytes : List ℕ) → (form_of bytes).number ≡ DONE → (book_of bytes).count ≤ 512
few_any bytes good = (well_formed (formed bytes good)).few_nodes

-- 1 to 6, 19 and 22: what judging says
pub answered-refused : {bytes : List ℕ} (plan : List ℕ) {A : Type 0} (Written : A → Type 0) (answer : Result A CompileError) (of : Refusal)
    → IsErrAnd answer (λ error. error ≡ Book of) → Judges bytes (verdict_by of) → plan ≡ zeros (length plan)
    → MatchResult answer Written (λ error. Compiles bytes (length plan) (compiled_by error) plan)
answered-refused {bytes} plan Written answer of is judges clear =
    let p = err_from_is_err_and answer is in
    rw (p.1, p.2) (subst (Compiles bytes (length plan) (compiled_by (Book of))) (sym clear) (refused judges (refusal_number of)))

module _ {bytes : List ℕ} (judges : Judges bytes (judgement DONE 0 0 0)) {size : ℕ} (size_is : size ≡ size_of (book_of bytes)) where
  -- 7: the plan buffer is shorter than the plan
  pub answered_no_room : {plan : List ℕ} → length plan < size → plan ≡ zeros (length plan)
      → Compiles bytes (length plan) (answer PLAN-ROOM 0 size 0 0) plan
  answered_no_room {plan} short clear =
      rw size_is (subst (Compiles bytes (length plan) (answer PLAN-ROOM 0 (size_of (book_of bytes)) 0 0)) (sym clear) (no_room judges (rw size_is at short)))

  -- 0: done
  pub answered_done : {table least written : List ℕ} {room : ℕ} → Known bytes (book_of bytes).count table
      → Lengths (book_of bytes).node (book_of bytes).count least → size ≤ room
      → written
      ≡ plan_bytes (book_of bytes) (with_due (marks_of table (book_of bytes).count) least (book_of bytes).count) ++ zeros (room - size_of (book_of bytes))
      → Compiles bytes room (answer DONE 0 size 0 0) written
  answered_done known lengths enough written_is =
      rw (written_is, size_is)
      (done judges (rw size_is at enough) (table-marked (book_of bytes) (book_well_formed known.good) known.facts lengths known.narrow))
