-- Measuring and profiles have one answer: no two rows of the tables of answers hold together.
use Prim.Native.Nat.{ℕ}
use native.Mathlib.Omega.{arith}
use mathlib.Core.Path.{◌≡◌, refl, ap}
use mathlib.Core.List.{List}
use mathlib.Core.Logic.{◌≢◌, ⊎_elim}
use Rattle.book.specs.Form.{DONE}
use Rattle.verdict.specs.declared.Verdict.{Verdict}
use Rattle.verdict.specs.Judges.{judgement, Judges}
use Rattle.verdict.proofs.Unique.{judges_unique}
use Rattle.depths.proofs.Numbers.{greatest_once, greatest_or_none}
use Rattle.profile.specs.declared.Depth.{Depth}
use Rattle.profile.specs.Profiles.{DEEPER, depth, Measures, refused, unbounded, measured}
use Rattle.profile.specs.Profiles.{Profiles, no_profile, refused_anyhow, deeper, fits}

-- a book that passes is not refused
not_both : {bytes : List ℕ} {v : Verdict} {A : Type 0} → Judges bytes v → v.number ≢ DONE → Judges bytes (judgement DONE 0 0 0) → A
not_both judges bad good = absurd (bad (ap (λ (v : Verdict). v.number) (judges_unique judges good)))

-- measuring has one answer
pub measures_unique : {bytes : List ℕ} {d d' : Depth} → Measures bytes d → Measures bytes d' → d ≡ d'
measures_unique (refused judges _) (refused judges' _) = ap (λ (v : Verdict). depth v.number v.place 0) (judges_unique judges judges')
measures_unique (refused judges bad) (unbounded good _) = not_both judges bad good
measures_unique (refused judges bad) (measured good _) = not_both judges bad good
measures_unique (unbounded good _) (refused judges bad) = not_both judges bad good
measures_unique (unbounded _ _) (unbounded _ _) = refl
measures_unique (unbounded _ none) (measured _ one) = absurd (greatest_or_none one none)
measures_unique (measured good _) (refused judges bad) = not_both judges bad good
measures_unique (measured _ one) (unbounded _ none) = absurd (greatest_or_none one none)
measures_unique (measured _ one) (measured _ other) = ap (λ (m : ℕ). depth DONE 0 m) (greatest_once one other)

-- two measures of one book hold as many parts, and both or none are done
same_held : {bytes : List ℕ} {m n : ℕ} → Measures bytes (depth DONE 0 m) → Measures bytes (depth DONE 0 n) → m ≡ n
same_held one other = ap (λ (d : Depth). d.held) (measures_unique one other)

not_done : {bytes : List ℕ} {d : Depth} {m : ℕ} {A : Type 0} → Measures bytes d → d.number ≢ DONE → Measures bytes (depth DONE 0 m) → A
not_done one bad other = absurd (bad (ap (λ (d : Depth). d.number) (measures_unique one other)))

-- a profile has one answer
pub profiles_unique : {bytes : List ℕ} {slots : ℕ} {d d' : Depth} → Profiles bytes slots d → Profiles bytes slots d' → d ≡ d'
profiles_unique (no_profile _) (no_profile _) = refl
profiles_unique (no_profile out) (refused_anyhow some few _ _) = ⊎_elim (λ h. absurd (omega arith)) (λ h. absurd (omega arith)) out
profiles_unique (no_profile out) (deeper some few _ _) = ⊎_elim (λ h. absurd (omega arith)) (λ h. absurd (omega arith)) out
profiles_unique (no_profile out) (fits some few _ _) = ⊎_elim (λ h. absurd (omega arith)) (λ h. absurd (omega arith)) out
profiles_unique (refused_anyhow some few _ _) (no_profile out) = ⊎_elim (λ h. absurd (omega arith)) (λ h. absurd (omega arith)) out
profiles_unique (refused_anyhow _ _ one _) (refused_anyhow _ _ other _) = measures_unique one other
profiles_unique (refused_anyhow _ _ one bad) (deeper _ _ other _) = not_done one bad other
profiles_unique (refused_anyhow _ _ one bad) (fits _ _ other _) = not_done one bad other
profiles_unique (deeper some few _ _) (no_profile out) = ⊎_elim (λ h. absurd (omega arith)) (λ h. absurd (omega arith)) out
profiles_unique (deeper _ _ one _) (refused_anyhow _ _ other bad) = not_done other bad one
profiles_unique (deeper _ _ one _) (deeper _ _ other _) = ap (λ (m : ℕ). depth DEEPER m 0) (same_held one other)
profiles_unique (deeper _ _ one more) (fits _ _ other most) = let same = same_held one other in absurd (omega arith)
profiles_unique (fits some few _ _) (no_profile out) = ⊎_elim (λ h. absurd (omega arith)) (λ h. absurd (omega arith)) out
profiles_unique (fits _ _ one _) (refused_anyhow _ _ other bad) = not_done other bad one
profiles_unique (fits _ _ one most) (deeper _ _ other more) = let same = same_held one other in absurd (omega arith)
profiles_unique (fits _ _ one _) (fits _ _ other _) = measures_unique one other
