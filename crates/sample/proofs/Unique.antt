-- Asking for a sample has one answer: the verdict and the sample are determined, and no two rows of the answers hold together.
use Prim.Native.Nat.{ℕ}
use native.Mathlib.Omega.{arith}
use mathlib.Core.Path.{◌≡◌, refl, ap}
use mathlib.Core.Logic.{◌≢◌}
use mathlib.Core.List.{List}
use lib.ListN.{length}
use Rattle.book.specs.Form.{DONE}
use Rattle.verdict.specs.declared.Verdict.{Verdict}
use Rattle.verdict.specs.Judges.{judgement, Judges}
use Rattle.verdict.proofs.Unique.{judges_unique}
use Rattle.written.specs.Written.{Out, refused_with, handed_over}
use Rattle.sampling.proofs.Best.{best_unique}
use Rattle.sample.specs.Samples.{Samples, refused, too_long, no_room, done}

-- a book that passes is not refused
not_both : {bytes : List ℕ} {v : Verdict} {A : Type 0} → Judges bytes v → v.number ≢ DONE → Judges bytes (judgement DONE 0 0 0) → A
not_both judges bad good = absurd (bad (ap (λ (v : Verdict). v.number) (judges_unique judges good)))

pub samples_unique : {bytes : List ℕ} {room : ℕ} {a c : Out} → Samples bytes room a → Samples bytes room c → a ≡ c
samples_unique {room = room} (refused judges _) (refused judges' _) =
    ap (λ (v : Verdict). refused_with v.number v.place room) (judges_unique judges judges')
samples_unique (refused judges bad) (too_long good _) = not_both judges bad good
samples_unique (refused judges bad) (no_room good _ _ _) = not_both judges bad good
samples_unique (refused judges bad) (done good _ _ _) = not_both judges bad good
samples_unique (too_long good _) (refused judges bad) = not_both judges bad good
samples_unique (too_long _ _) (too_long _ _) = refl
samples_unique (too_long _ long) (no_room _ sample few _) = absurd (omega (arith, long _ sample.derived))
samples_unique (too_long _ long) (done _ sample few _) = absurd (omega (arith, long _ sample.derived))
samples_unique (no_room good _ _ _) (refused judges bad) = not_both judges bad good
samples_unique (no_room _ sample few _) (too_long _ long) = absurd (omega (arith, long _ sample.derived))
samples_unique (no_room _ _ _ _) (no_room _ _ _ _) = refl
samples_unique (no_room _ sample _ short) (done _ other _ fits) = absurd (omega (arith, ap length (best_unique sample other)))
samples_unique (done good _ _ _) (refused judges bad) = not_both judges bad good
samples_unique (done _ sample few _) (too_long _ long) = absurd (omega (arith, long _ sample.derived))
samples_unique (done _ sample _ fits) (no_room _ other _ short) = absurd (omega (arith, ap length (best_unique sample other)))
samples_unique {room = room} (done _ sample _ _) (done _ other _ _) = ap (λ (run : List ℕ). handed_over run room) (best_unique sample other)
