-- Asking for a sample has an answer, for all bytes and any room.
use Prim.Native.Nat.{ℕ, ◌<◌}
use native.Mathlib.Omega.{arith}
use native.Mathlib.Decide.{dec_lt, ℕ_discrete}
use mathlib.Core.Path.{◌≡◌, refl}
use mathlib.Core.List.{List}
use lib.ListN.{length}
use Rattle.book.specs.Form.{DONE, book_of}
use Rattle.verdict.specs.declared.Verdict.{Verdict}
use Rattle.verdict.specs.Judges.{judgement, Judges}
use Rattle.verdict.proofs.Passing.{passed, passed_judges}
use Rattle.verdict.proofs.Some.{judges_some}
use Rattle.written.specs.Written.{Out}
use Rattle.weights.specs.Weight.{CAP, weight_at}
use Rattle.weights.proofs.Deciding.{LeastWeights, least_weights}
use Rattle.sampling.specs.Sample.{Sample}
use Rattle.sampling.proofs.Writing.{sample_due, book_kinded}
use Rattle.sample.specs.Samples.{Samples, refused, too_long, no_room, done}
use Rattle.sample.proofs.Answers.{answered_long}

module _ (bytes : List ℕ) (room : ℕ) where
  -- an answer that asking may come to
  abbrev pub Answered : Type 0
  Answered = (a : Out) × Samples bytes room a

  module _ (good : Judges bytes (judgement DONE 0 0 0)) where
    least : LeastWeights (book_of bytes).node
    least =
        let wf = (passed good refl).by_rules.well_formed in
        least_weights (book_of bytes).node (book_kinded (book_of bytes) wf) (book_of bytes).count wf.beyond

    with_sample : {run : List ℕ} → Sample (book_of bytes) run → Dec (65535 < length run) → Dec (room < length run) → Answered
    with_sample sample (yes long) any = (_, too_long good (λ other d. omega (arith, sample.shortest other d)))
    with_sample sample (no few) (yes short) = (_, no_room good sample (omega arith) short)
    with_sample sample (no few) (no enough) = (_, done good sample (omega arith) (omega arith))

    by_weight : Dec (weight_at least.weights (book_of bytes).start < CAP) → Answered
    by_weight (yes below) =
        let due = sample_due (book_of bytes) (passed good refl).by_rules least.weights least.are below in
        with_sample due.sample (dec_lt 65535 (length due.run)) (dec_lt room (length due.run))
    by_weight (no cap) = (_, answered_long good least.are (omega arith))

  by_verdict : (v : Verdict) → Judges bytes v → Dec (v.number ≡ DONE) → Answered
  by_verdict v judges (no bad) = (_, refused judges bad)
  by_verdict v judges (yes is) =
      let good = passed_judges judges is in
      by_weight good (dec_lt (weight_at (least good).weights (book_of bytes).start) CAP)

  pub samples_some : (a : Out) × Samples bytes room a
  samples_some = let some = judges_some bytes in by_verdict some.0 some.1 (ℕ_discrete some.0.number DONE)
