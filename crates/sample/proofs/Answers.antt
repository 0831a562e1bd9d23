-- Each test of asking for a sample, and the answer that it gives.
use Prim.Native.Nat.{ℕ, ◌/◌, ◌≤◌, ◌<◌}
use native.Mathlib.Omega.{arith}
use mathlib.Core.Path.{◌≡◌, refl, sym, ap, ◌∙◌, subst}
use mathlib.Core.List.{List}
use lib.ListN.{length, replicate}
use Rattle.book.specs.Form.{DONE, form_of, book_of}
use Rattle.book.proofs.Decoded.{formed, well_formed}
use Rattle.grammar.specs.Derivations.{Lawful}
use Rattle.grammar.specs.Passing.{Passes}
use Rattle.verdict.specs.Judges.{judgement, Judges}
use Rattle.verdict.specs.Conflicts.{Leaves}
use Rattle.verdict.specs.declared.Refusal.{Refusal}
use Rattle.verdict.specs.Refusals.{verdict_by}
use Rattle.verdict.proofs.Answers.{refusal_number}
use Rattle.std.specs.Prelude.{Result}
use Rattle.std.specs.Result.{MatchResult, IsErrAnd}
use Rattle.std.proofs.lemmas.Result.{err_from_is_err_and}
use Rattle.verdict.proofs.Passing.{passed}
use Rattle.written.specs.Written.{written, with_zeros, refused_with}
use Rattle.weights.specs.Weight.{CAP, weight_at, Weights}
use Rattle.weights.specs.Falling.{Fresh}
use Rattle.weights.proofs.Weighing.{head_small}
use Rattle.weights.proofs.Lowering.{fresh_caps, fresh_less, weight_none_lighter}
use Rattle.sampling.proofs.Writing.{sample_due, book_kinded}
use Rattle.sample.specs.Samples.{RUN-LONG, RUN-ROOM, out, Samples, refused, too_long, no_room, done}
use Rattle.sample.specs.Errors.{refused_by}
use Rattle.sample.specs.declared.SampleError.{SampleError}
use Rattle.sample.specs.declared.SampleError.TheVariants.{Judged}
use Rattle.laying.specs.Stacked.{Ready, Wrote}
use Rattle.laying.proofs.Laying.{sample_length}

-- one that `?` hands on
pub handed_on : {A : Type 0} (Passed : A → Type 0) (Refused : SampleError → Type 0) (answer : Result A SampleError) (of : SampleError)
    → IsErrAnd answer (λ x. x ≡ of) → Refused of → MatchResult answer Passed Refused
handed_on Passed Refused answer of is holds = let p = err_from_is_err_and answer is in rw (p.1, p.2) holds

-- what a refusal of the book comes to
pub book_refused : {bytes table : List ℕ} {room : ℕ} (of : Refusal) → Leaves bytes (verdict_by of) table
    → Samples bytes room (refused_by (Judged of) room)
book_refused of left = refused left.judges (refusal_number of)

-- a fresh table is long enough for any book
pub fresh_any : (bytes : List ℕ) → (form_of bytes).number ≡ DONE → Fresh (book_of bytes).count (replicate 512 CAP)
fresh_any bytes good = fresh_less (well_formed (formed bytes good)).few_nodes (fresh_caps 512)

-- the weight that is read is that of the start
pub weight_is : (weights : List ℕ) {weight n start : ℕ} → weight ≡ weight_at weights n → n ≡ start → weight ≡ weight_at weights start
weight_is weights read is = read ∙ ap (weight_at weights) is

module _ {bytes : List ℕ} (good : Judges bytes (judgement DONE 0 0 0)) where
  passes : Passes (book_of bytes)
  passes = (passed good refl).by_rules

  pub weights_reach : {start long : ℕ} → start < (book_of bytes).count → long ≡ 512 → start < long
  weights_reach below whole = omega (arith, below, whole, passes.well_formed.few_nodes)

module _ {bytes weights : List ℕ} (good : Judges bytes (judgement DONE 0 0 0)) (are : Weights (book_of bytes).node weights) where
  abbrev weight : ℕ
  weight = weight_at weights (book_of bytes).start

  -- 24: no lawful run has fewer than 65,536 events
  pub answered_long : {room : ℕ} → CAP ≤ weight → Samples bytes room (refused_with RUN-LONG 0 room)
  answered_long cap = too_long good long
    where
      long : (run : List ℕ) → Lawful (book_of bytes) run → 65535 < length run
      long run d =
          let kinded = book_kinded (book_of bytes) (passes good).well_formed in
          omega (arith, weight_none_lighter are (book_of bytes).start run d, head_small kinded (kinded (book_of bytes).start) d)

  module _ (below : weight < CAP) (long : length weights ≡ 512) where
    pub ready_for : (room : ℕ) → weight / 64 ≤ room → Ready (book_of bytes) weights room
    ready_for room fits = record { passes = passes good; are = are; long = long; short = below; fits = fits }

    -- 25: the sample is longer than the buffer
    pub answered_room : {room : ℕ} → room < weight / 64 → Samples bytes room (refused_with RUN-ROOM 0 room)
    answered_room short =
        let due = sample_due (book_of bytes) (passes good) weights are below in
        let size = sample_length (ready_for (weight / 64) (omega arith)) due.sample in
        no_room good due.sample (omega (arith, size)) (omega (arith, size, short))

    -- 0: the sample is written
    pub answered_done : {room clear size : ℕ} {buffer : List ℕ} → size ≡ weight / 64 → size ≤ room → clear ≡ room → Wrote (book_of bytes) buffer clear
        → Samples bytes room (out (written DONE size 0) buffer)
    answered_done {room} {clear} {size} {buffer} size_is fits whole wrote =
        let long : length wrote.run ≡ size = sample_length (ready_for room (omega (arith, size_is))) wrote.sample ∙ sym size_is in
        let held : buffer ≡ with_zeros wrote.run room = wrote.out_is ∙ ap (with_zeros wrote.run) whole in
        subst (Samples bytes room) (λ i. out (written DONE (long i) 0) (sym held i))
        (done good wrote.sample (omega (arith, long, size_is)) (omega (arith, long, fits)))
