-- Measuring and profiles have an answer, for all bytes and slots.
use Prim.Native.Nat.{ℕ, ◌≤◌, ◌<◌}
use native.Mathlib.Omega.{arith}
use native.Mathlib.Decide.{ℕ_discrete, dec_lt}
use mathlib.Core.Path.{◌≡◌}
use mathlib.Core.List.{List}
use mathlib.Core.Logic.{inl, inr, ⊎_elim}
use Rattle.book.specs.Form.{DONE}
use Rattle.verdict.specs.declared.Verdict.{Verdict}
use Rattle.verdict.specs.Judges.{Judges}
use Rattle.verdict.proofs.Passing.{passed, passed_judges}
use Rattle.verdict.proofs.Some.{judges_some}
use Rattle.depths.proofs.Decided.{greatest_some}
use Rattle.profile.specs.declared.Depth.{Depth}
use Rattle.profile.specs.Profiles.{Measures, refused, unbounded, measured, Profiles, no_profile, refused_anyhow, deeper, fits}

module _ (bytes : List ℕ) where
  by_verdict : (v : Verdict) → Judges bytes v → Dec (v.number ≡ DONE) → (d : Depth) × Measures bytes d
  by_verdict v judges (no bad) = (_, refused judges bad)
  by_verdict v judges (yes is) =
      let good = passed_judges judges is in
      ⊎_elim (λ some. (_, measured good some.1)) (λ none. (_, unbounded good none)) (greatest_some (passed judges is).by_rules)

  -- measuring has an answer
  pub measures_some : (d : Depth) × Measures bytes d
  measures_some = let some = judges_some bytes in by_verdict some.0 some.1 (ℕ_discrete some.0.number DONE)

  module _ (slots : ℕ) where
    by_measure : {d : Depth} → 1 ≤ slots → slots ≤ 64 → Measures bytes d → (a : Depth) × Profiles bytes slots a
    by_measure some few (refused judges bad) = (_, refused_anyhow some few (refused judges bad) bad)
    by_measure some few (unbounded judges none) = (_, refused_anyhow some few (unbounded judges none) (λ e. omega (arith, e)))
    by_measure some few (measured {m} judges one) =
        elim (dec_lt slots m) [
          | yes more ↦ (_, deeper some few (measured judges one) more)
          | no most ↦ (_, fits some few (measured judges one) (omega arith))
        ]

    -- a profile has an answer
    pub profiles_some : (d : Depth) × Profiles bytes slots d
    profiles_some = go (dec_lt slots 1) (dec_lt 64 slots)
      where
        go : Dec (slots < 1) → Dec (64 < slots) → (d : Depth) × Profiles bytes slots d
        go (yes none) u = (_, no_profile (inl none))
        go (no some) (yes many) = (_, no_profile (inr many))
        go (no some) (no few) = by_measure (omega arith) (omega arith) measures_some.1
