-- What is so of every answer to asking for a sample, from `Samples` alone.
use Prim.Native.Nat.{ℕ, zero, suc, ◌≤◌, ◌<◌}
use native.Mathlib.Omega.{arith}
use mathlib.Core.Path.{◌≡◌, refl, sym, ap, subst}
use mathlib.Core.Logic.{◌↔◌, ◌≢◌, ◌⊎◌, inl, inr, ⊎_elim}
use mathlib.Core.List.{List, [], ◌∷◌}
use lib.ListN.{length, take, get_or}
use Rattle.book.specs.Book.{Book}
use Rattle.book.specs.Form.{DONE, book_of}
use Rattle.book.proofs.Laws.{form_listed}
use Rattle.grammar.specs.Derivations.{Lawful}
use Rattle.verdict.specs.declared.Verdict.{Verdict}
use Rattle.verdict.specs.Judges.{judgement, Judges, malformed, unused, barren, conflict, passes}
use Rattle.verdict.proofs.Unique.{judges_unique}
use Rattle.written.specs.Written.{Out, refused_with, handed_over, taken, Settled}
use Rattle.written.proofs.Handing.{room_enough_lem, refused_settles, handed_settles, taken_over}
use Rattle.sampling.specs.Sample.{NoHigher, ends, same, lower, Sample}
use Rattle.sampling.proofs.Best.{best_unique}
use Rattle.sample.specs.Samples.{RUN-LONG, RUN-ROOM, Samples, refused, too_long, no_room, done}
use Rattle.sample.specs.Given.{SampleAnswers, SampleGiven}
use Rattle.sample.proofs.Unique.{samples_unique}

headed : List ℕ → ℕ
headed xs = get_or xs 0 0

tailed : List ℕ → List ℕ
tailed [] = []
tailed (k ∷ xs) = xs

-- a run that is no higher has the lower kind at the first place where two differ
no_higher_at : {xs ys : List ℕ} → NoHigher xs ys → (i : ℕ) → take i xs ≡ take i ys → get_or xs i 0 ≢ get_or ys i 0 → get_or xs i 0 < get_or ys i 0
unfolding headed tailed
no_higher_at ends i alike differ = absurd (differ refl)
no_higher_at (same h) zero alike differ = absurd (differ refl)
no_higher_at (same h) (suc i) alike differ = no_higher_at h i (ap tailed alike) differ
no_higher_at (lower l) zero alike differ = l
no_higher_at (lower l) (suc i) alike differ = absurd (omega (arith, l, ap headed alike))

sample_given : {b : Book} {run : List ℕ} → Sample b run → SampleGiven b run
sample_given sample = record {
  lawful = sample.derived;
  shortest = sample.shortest;
  lowest = λ other d alike. no_higher_at (sample.lowest other d alike);
}

-- the verdict's numbers
abbrev Listed : ℕ → Type 0
Listed number = (number ≤ 6) ⊎ ((number ≡ 19) ⊎ ((number ≡ 22) ⊎ ((number ≡ RUN-LONG) ⊎ (number ≡ RUN-ROOM))))

judged_listed : {bytes : List ℕ} {v : Verdict} → Judges bytes v → Listed v.number
judged_listed {bytes} (malformed bad) = ⊎_elim (λ low. inl (omega arith)) (λ names. inr (inl names)) (form_listed bytes)
judged_listed (unused _ _ _ _) = inr (inr (inl refl))
judged_listed (barren _ _ _) = inl (omega arith)
judged_listed (conflict _ _ _ _ _ _) = inl (omega arith)
judged_listed (passes _ _ _ _) = inl (omega arith)

handed_over_settles : (run : List ℕ) (room : ℕ) → length run ≤ room → Settled room (handed_over run room)
handed_over_settles run room fits = subst (Settled room) (room_enough_lem run room fits) (handed_settles run room)

module _ {bytes : List ℕ} {room : ℕ} where
  pub answers_listed : {o : Out} → Samples bytes room o → SampleAnswers room o
  answers_listed (refused {v} judges bad) =
      record { listed = judged_listed judges; settled = refused_settles v.number v.place room }
  answers_listed (too_long _ _) = record { listed = inr (inr (inr (inl refl))); settled = refused_settles RUN-LONG 0 room }
  answers_listed (no_room _ _ _ _) = record { listed = inr (inr (inr (inr refl))); settled = refused_settles RUN-ROOM 0 room }
  answers_listed (done {run} _ _ _ fits) = record { listed = inl (omega arith); settled = handed_over_settles run room fits }

  -- what is written is the sample of the book
  pub done_gives : {o : Out} → Samples bytes room o → o.answer.number ≡ DONE → SampleGiven (book_of bytes) (taken o)
  done_gives (refused _ bad) is = absurd (bad is)
  done_gives (too_long _ _) is = absurd (omega arith)
  done_gives (no_room _ _ _ _) is = absurd (omega arith)
  done_gives (done {run} _ sample _ _) is =
      subst (SampleGiven (book_of bytes)) (sym (taken_over run room)) (sample_given sample)

  -- the book's own refusals
  pub refused_as_judged : {o : Out} {v : Verdict} → Samples bytes room o → Judges bytes v → v.number ≢ DONE
      → o ≡ refused_with v.number v.place room
  refused_as_judged samples judges bad = samples_unique samples (refused judges bad)

  module _ (good : Judges bytes (judgement DONE 0 0 0)) {o : Out} (samples : Samples bytes room o) where
    -- 24 exactly if every lawful run is over 65,535 events
    pub long_exactly : (o.answer.number ≡ RUN-LONG) ↔ ((run : List ℕ) → Lawful (book_of bytes) run → 65535 < length run)
    long_exactly = (says samples, λ long. ap (λ (a : Out). a.answer.number) (samples_unique samples (too_long good long)))
      where
        says : {o : Out} → Samples bytes room o → o.answer.number ≡ RUN-LONG
            → (run : List ℕ) → Lawful (book_of bytes) run → 65535 < length run
        says (refused judges bad) is = absurd (bad (ap (λ (v : Verdict). v.number) (judges_unique judges good)))
        says (too_long _ long) is = long
        says (no_room _ _ _ _) is = absurd (omega arith)
        says (done _ _ _ _) is = absurd (omega arith)

    -- else 25 exactly if the buffer is shorter than the sample
    pub room_exactly : {run : List ℕ} → Sample (book_of bytes) run → length run ≤ 65535
        → (o.answer.number ≡ RUN-ROOM) ↔ (room < length run)
    room_exactly {run} sample few =
        (says samples, λ short. ap (λ (a : Out). a.answer.number) (samples_unique samples (no_room good sample few short)))
      where
        says : {o : Out} → Samples bytes room o → o.answer.number ≡ RUN-ROOM → room < length run
        says (refused judges bad) is = absurd (bad (ap (λ (v : Verdict). v.number) (judges_unique judges good)))
        says (too_long _ _) is = absurd (omega arith)
        says (no_room _ other _ short) is = omega (arith, short, ap length (best_unique other sample))
        says (done _ _ _ _) is = absurd (omega arith)
