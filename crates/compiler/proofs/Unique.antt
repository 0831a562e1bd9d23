-- Compiling has one answer: the verdict, the marks and with them the plan's bytes are determined, and no two rows of the table of answers
-- hold together.
use Prim.Native.Nat.{ℕ, ◌-◌}
use native.Mathlib.Omega.{arith}
use mathlib.Core.Path.{◌≡◌, refl, sym, ap}
use mathlib.Core.Bool.{Bool, true, false}
use mathlib.Core.Logic.{◌↔◌, ◌≢◌}
use mathlib.Core.List.{List, ◌++◌}
use Rattle.words.specs.Words.{zeros}
use Rattle.book.specs.declared.Node.{Node}
use Rattle.book.specs.Form.{DONE, book_of}
use Rattle.verdict.specs.declared.Verdict.{Verdict}
use Rattle.verdict.specs.Judges.{judgement, Judges}
use Rattle.verdict.proofs.Unique.{judges_unique}
use Rattle.lengths.proofs.Cutting.{least_cut_unique}
use Rattle.running.specs.Cells.{Marks, Marked}
use Rattle.writer.specs.Bytes.{plan_bytes}
use Rattle.compiler.specs.declared.Compiled.{Compiled}
use Rattle.compiler.specs.Compiles.{Compiles, refused, no_room, done, answer, size_of}

-- two tests of one fact agree
same_test : {a b : Bool} {P : Type 0} → (a ≡ true) ↔ P → (b ≡ true) ↔ P → a ≡ b
same_test {a = true} {b = b} f g = sym (g.1 (f.0 refl))
same_test {a = false} {b = true} f g = f.1 (g.0 refl)
same_test {a = false} {b = false} f g = refl

-- marks that are the facts and the least lengths are the same marks
pub marks_unique : {node : ℕ → Node} {m m' : Marks} → Marked node m → Marked node m' → m ≡ m'
marks_unique f g =
    λ i. record {
      first = λ n k. same_test (f.first_is n k) (g.first_is n k) i;
      null = λ n. same_test (f.null_is n) (g.null_is n) i;
      due = λ n. least_cut_unique (f.due_is n) (g.due_is n) i;
    }

-- a book that passes is not refused
not_both : {bytes : List ℕ} {v : Verdict} {A : Type 0} → Judges bytes v → v.number ≢ DONE → Judges bytes (judgement DONE 0 0 0) → A
not_both judges bad good = absurd (bad (ap (λ (v : Verdict). v.number) (judges_unique judges good)))

-- no two rows of the table of answers hold together, and each row determines the answer and the plan buffer
pub compiles_unique : {bytes : List ℕ} {room : ℕ} {a a' : Compiled} {p p' : List ℕ}
    → Compiles bytes room a p
    → Compiles bytes room a' p'
    → (a ≡ a') × (p ≡ p')
compiles_unique (refused judges _) (refused judges' _) =
    (ap (λ (v : Verdict). answer v.number v.place 0 v.both v.clash) (judges_unique judges judges'), refl)
compiles_unique (refused judges bad) (no_room good _) = not_both judges bad good
compiles_unique (refused judges bad) (done good _ _) = not_both judges bad good
compiles_unique (no_room good _) (refused judges bad) = not_both judges bad good
compiles_unique (no_room _ _) (no_room _ _) = (refl, refl)
compiles_unique (no_room _ short) (done _ fits _) = absurd (omega arith)
compiles_unique (done good _ _) (refused judges bad) = not_both judges bad good
compiles_unique (done _ fits _) (no_room _ short) = absurd (omega arith)
compiles_unique {bytes} {room} (done _ _ marked) (done _ _ marked') =
    (refl, ap (λ m. plan_bytes (book_of bytes) m ++ zeros (room - size_of (book_of bytes))) (marks_unique marked marked'))
