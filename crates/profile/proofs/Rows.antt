-- Each way out of measuring and of a profile, and the row of the table of answers that it is.
use Prim.Native.Nat.{ℕ, max, ◌-◌, ◌≤◌, ◌<◌}
use native.Mathlib.Omega.{arith}
use mathlib.Core.Path.{◌≡◌, refl, sym, subst}
use mathlib.Core.List.{List}
use mathlib.Core.Logic.{◌≢◌}
use lib.Dec.{ltb}
use lib.ListN.{get_or}
use borrow.Author.Tests.{ltb-true, lt-ltb}
use Rattle.book.specs.Book.{WellFormed}
use Rattle.book.specs.Form.{DONE, book_of}
use Rattle.grammar.specs.Passing.{Passes}
use Rattle.verdict.specs.Judges.{judgement, Judges}
use Rattle.verdict.proofs.Passing.{passed}
use Rattle.depths.specs.Ways.{AtLeast, held_by}
use Rattle.depths.proofs.Rising.{Tested, heavy_unbounded}
use Rattle.depths.proofs.Numbers.{greatest_by, greatest_none}
use Rattle.running.proofs.Found.{marks, marks_are}
use Rattle.std.specs.Prelude.{Result}
use Rattle.std.specs.Result.{MatchResult, IsErrAnd}
use Rattle.std.proofs.lemmas.Result.{err_from_is_err_and}
use Rattle.std.proofs.lemmas.Bool.Decides.{nat_tests}
use Rattle.verdict.specs.declared.Refusal.{Refusal}
use Rattle.verdict.specs.Refusals.{verdict_by}
use Rattle.verdict.proofs.Answers.{refusal_number}
use Rattle.profile.specs.declared.DepthError.{DepthError}
use Rattle.profile.specs.declared.DepthError.TheVariants.{Book, Unbounded, Deeper, Slots}
use Rattle.profile.specs.Errors.{depth_by}
use Rattle.profile.specs.Weights.{MOST, Weighed}
use Rattle.profile.specs.Profiles.{UNBOUNDED, depth, Measures, refused, unbounded, measured, Profiles, refused_anyhow}

-- a way of one weight or two holds one part, and one of more weights one less
pub held_is : (weight : ℕ) → max (weight - 1) 1 ≡ held_by weight
held_is weight = grind (arith, nat_tests)

-- the start's number among the weights of a book that passes
module _ {bytes list : List ℕ} {count start : ℕ} (judges : Judges bytes (judgement DONE 0 0 0)) (count_is : count ≡ (book_of bytes).count)
    (weighed : Weighed (book_of bytes).node count list) (start_is : start ≡ (book_of bytes).start) where
  passes : Passes (book_of bytes)
  passes = (passed judges refl).by_rules

  wf : WellFormed (book_of bytes)
  wf = passes.well_formed

  pub start_in : start < count
  start_in = omega (arith, start_is, count_is, wf.start_below)

  abbrev Heavy : ℕ → Type 0
  Heavy j = AtLeast (book_of bytes).node ((book_of bytes).node (book_of bytes).start) j

  heavy : (j : ℕ) → j < MOST → j < get_or list start 0 → Heavy j
  heavy j small h = rw start_is at ((weighed.told start j start_in small).0 h)

  tested : Tested (book_of bytes).node (book_of bytes).count MOST
  tested = record {
    test = λ j n. ltb j (get_or list n 0);
    test_is = λ j n small below.
        let told = weighed.told n j (omega (arith, below, count_is)) small in
        ((λ e. told.0 (ltb-true j (get_or list n 0) e)), (λ a. lt-ltb j (get_or list n 0) (told.1 a)));
  }

  -- at the most: there is no greatest number
  pub start_unbounded : MOST ≤ get_or list start 0 → Measures bytes (depth UNBOUNDED 0 0)
  start_unbounded most =
      unbounded judges
      (greatest_none passes (marks (book_of bytes) wf) (marks_are (book_of bytes) wf)
      (heavy_unbounded (book_of bytes) wf tested (omega (arith, wf.few_nodes))
      (heavy (book_of bytes).count (omega (arith, wf.few_nodes)) (omega (arith, wf.few_nodes, most)))))

  -- below: the number
  pub start_measured : get_or list start 0 < MOST → Measures bytes (depth DONE 0 (held_by (get_or list start 0)))
  start_measured small =
      measured judges
      (greatest_by passes (marks (book_of bytes) wf) (marks_are (book_of bytes) wf) (get_or list start 0) (λ j h. heavy j (omega arith) h)
      (λ a.
      let own = subst (λ (s : ℕ). AtLeast (book_of bytes).node ((book_of bytes).node s) (get_or list start 0)) (sym start_is) a in
      absurd (omega (arith, (weighed.told start (get_or list start 0) start_in small).1 own))))

-- ---- what stands against a book or a profile

-- is no answer that is done
depth_number : (error : DepthError) → (depth_by error).number ≢ DONE
depth_number (Book refusal) is = refusal_number refusal is
depth_number Unbounded is = absurd (omega (arith, is))
depth_number (Deeper m) is = absurd (omega (arith, is))
depth_number Slots is = absurd (omega (arith, is))

module _ {bytes : List ℕ} where
  -- a book that is refused
  pub book_refused : {A : Type 0} (Held : A → Type 0) (answer : Result A DepthError) (of : Refusal) → IsErrAnd answer (λ error. error ≡ Book of)
      → Judges bytes (verdict_by of) → MatchResult answer Held (λ error. Measures bytes (depth_by error))
  book_refused Held answer of is judges =
      let p = err_from_is_err_and answer is in
      rw (p.1, p.2) (refused judges (refusal_number of))

  -- and whatever stands against a book stands against a profile
  pub profile_refused : {slots : ℕ} {A : Type 0} (Held : A → Type 0) (answer : Result A DepthError) (of : DepthError)
      → IsErrAnd answer (λ error. error ≡ of) → 1 ≤ slots → slots ≤ 64 → Measures bytes (depth_by of)
      → MatchResult answer Held (λ error. Profiles bytes slots (depth_by error))
  profile_refused Held answer of is some few measures =
      let p = err_from_is_err_and answer is in
      rw (p.1, p.2) (refused_anyhow some few measures (depth_number of))
