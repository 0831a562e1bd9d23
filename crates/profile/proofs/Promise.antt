-- What the answers say: the number is the greatest, and a profile takes a book exactly if there is one and it is at most the slots.
use Prim.Native.Nat.{ℕ, ◌≤◌}
use native.Mathlib.Omega.{arith}
use mathlib.Core.Path.{◌≡◌, refl, ap}
use mathlib.Core.List.{List}
use mathlib.Core.Logic.{◌↔◌, ◌≢◌, ⊎_elim}
use Rattle.book.specs.Form.{DONE, book_of}
use Rattle.grammar.specs.Passing.{Passes}
use Rattle.verdict.specs.declared.Verdict.{Verdict}
use Rattle.verdict.specs.Judges.{judgement, Judges}
use Rattle.verdict.proofs.Passing.{passed, verdict_listed}
use Rattle.depths.specs.Depths.{Greatest, NoGreatest}
use Rattle.profile.specs.declared.Depth.{Depth}
use Rattle.profile.specs.Profiles.{UNBOUNDED, depth, Measures, refused, unbounded, measured}
use Rattle.profile.specs.Profiles.{Profiles, no_profile, refused_anyhow, deeper, fits}
use Rattle.profile.proofs.Unique.{measures_unique, profiles_unique}

module _ {bytes : List ℕ} where
  -- done: the book passes, and the number is the greatest
  pub measured_greatest : {d : Depth} → Measures bytes d → d.number ≡ DONE → Passes (book_of bytes) × Greatest (book_of bytes) d.held
  measured_greatest (refused judges bad) is = absurd (bad is)
  measured_greatest (unbounded judges none) is = absurd (omega (arith, is))
  measured_greatest (measured judges one) is = ((passed judges refl).by_rules, one)

  -- UNBOUNDED: there is no greatest
  pub measured_none : {d : Depth} → Measures bytes d → d.number ≡ UNBOUNDED → NoGreatest (book_of bytes)
  measured_none (refused judges bad) is =
      absurd
      (⊎_elim (λ few. omega (arith, few)) (⊎_elim (λ names. omega (arith, names)) (λ unused. omega (arith, unused)))
      (verdict_listed judges))
  measured_none (unbounded judges none) is = none
  measured_none (measured judges one) is = absurd (omega (arith, is))

  -- what is answered of a book with a verdict
  pub measures_refused : {d : Depth} {v : Verdict} → Measures bytes d → Judges bytes v → v.number ≢ DONE
      → d ≡ depth v.number v.place 0
  measures_refused measures judges bad = measures_unique measures (refused judges bad)

  -- and of one that passes: the number exactly if it is the greatest, UNBOUNDED exactly if there is none
  module _ {d : Depth} (measures : Measures bytes d) (judges : Judges bytes (judgement DONE 0 0 0)) where
    pub measures_number : (m : ℕ) → (d ≡ depth DONE 0 m) ↔ Greatest (book_of bytes) m
    measures_number m = (
      (λ is. (measured_greatest (rw is at measures) refl).1),
      (λ one. measures_unique measures (measured judges one)),
    )

    pub measures_none : (d ≡ depth UNBOUNDED 0 0) ↔ NoGreatest (book_of bytes)
    measures_none = (
      (λ is. measured_none (rw is at measures) refl),
      (λ none. measures_unique measures (unbounded judges none)),
    )

  -- a profile takes a book: it passes, and the number is the greatest and at most the slots
  pub taken_greatest : {slots : ℕ} {d : Depth} → Profiles bytes slots d → d.number ≡ DONE
      → Passes (book_of bytes) × Greatest (book_of bytes) d.held × (d.held ≤ slots)
  taken_greatest (no_profile out) is = absurd (omega (arith, is))
  taken_greatest (refused_anyhow some few measures bad) is = absurd (bad is)
  taken_greatest (deeper some few measures more) is = absurd (omega (arith, is))
  taken_greatest (fits some few measures most) is = let (passes, one) = measured_greatest measures refl in (passes, one, most)

  -- exactly if there is a greatest number and it is at most the slots
  pub takes_exactly : {slots : ℕ} {d : Depth} → Profiles bytes slots d → 1 ≤ slots → slots ≤ 64 → Judges bytes (judgement DONE 0 0 0)
      → (d.number ≡ DONE) ↔ ((m : ℕ) × Greatest (book_of bytes) m × (m ≤ slots))
  takes_exactly {d = d} profiles some few judges = (
    (λ is. let (passes, one, most) = taken_greatest profiles is in (d.held, one, most)),
    (λ known.
        let (m, one, most) = known in
        ap (λ (d : Depth). d.number) (profiles_unique profiles (fits some few (measured judges one) most))),
  )
