-- When a book passes, and what else is so of every verdict.
use Prim.Native.Nat.{ℕ, ◌≤◌}
use native.Mathlib.Omega.{arith}
use mathlib.Core.Path.{◌≡◌, refl, subst}
use mathlib.Core.Logic.{◌↔◌, ◌≢◌, ◌⊎◌, inl, inr}
use mathlib.Core.List.{List}
use Rattle.names.specs.Names.{NAMES}
use Rattle.book.specs.Form.{DONE, form_of, book_of}
use Rattle.book.proofs.Laws.{form_listed}
use Rattle.book.proofs.Decoded.{formed, well_formed}
use Rattle.grammar.specs.Rules.{Conflict}
use Rattle.grammar.specs.Passing.{AllReached, Fruitful, NoConflict, Passes}
use Rattle.verdict.specs.declared.Verdict.{Verdict}
use Rattle.verdict.specs.Judges.{UNUSED, CONFLICT, NoConflictBelow, Told, judgement, Judges, malformed, unused, barren, conflict, passes}

-- what is so of a verdict that a book passes
pub record Passed (bytes : List ℕ) (v : Verdict) : Type 0 where
  pub form : (form_of bytes).number ≡ DONE
  pub by_rules : Passes (book_of bytes)
  pub verdict_is : v ≡ judgement DONE 0 0 0

module _ {bytes : List ℕ} where
  pub passed : {v : Verdict} → Judges bytes v → v.number ≡ DONE → Passed bytes v
  passed (malformed bad) is = absurd (bad is)
  passed (unused _ _ _ _) is = absurd (omega arith)
  passed (barren _ _ _) is = absurd (omega arith)
  passed (conflict _ _ _ _ _ _) is = absurd (omega arith)
  passed (passes good reached fruitful none) is =
      record {
        form = good;
        by_rules = record {
          well_formed = well_formed (formed bytes good);
          all_reached = reached;
          productive = fruitful;
          no_conflict = none;
        };
        verdict_is = refl;
      }

  -- the verdict that it passes
  pub passed_judges : {v : Verdict} → Judges bytes v → v.number ≡ DONE → Judges bytes (judgement DONE 0 0 0)
  passed_judges judges is = subst (Judges bytes) (passed judges is).verdict_is judges

  -- a book of good form passes exactly when every node is reachable, its start can produce some run and no node has a conflict
  pub passes_exactly : {v : Verdict} → Judges bytes v → (form_of bytes).number ≡ DONE
      → (v.number ≡ DONE) ↔ (AllReached (book_of bytes) × Fruitful (book_of bytes) × NoConflict (book_of bytes))
  passes_exactly judges good =
      (λ is. let by_rules = (passed judges is).by_rules in (by_rules.all_reached, by_rules.productive, by_rules.no_conflict), by judges)
    where
      by : {v : Verdict} → Judges bytes v → AllReached (book_of bytes) × Fruitful (book_of bytes) × NoConflict (book_of bytes) → v.number ≡ DONE
      by (malformed bad) h = absurd (bad good)
      by (unused _ within _ not) h = absurd (not (h.0 _ within))
      by (barren _ _ bare) h = absurd (bare h.1)
      by (conflict _ _ _ _ here _) h = absurd (h.2 _ here)
      by (passes _ _ _ _) h = refl

  -- every verdict's number is on the list: 0 to 6, 19 and 22
  pub verdict_listed : {v : Verdict} → Judges bytes v → (v.number ≤ CONFLICT) ⊎ ((v.number ≡ NAMES) ⊎ (v.number ≡ UNUSED))
  verdict_listed (malformed _) = elim (form_listed bytes) [ inl few ↦ inl (omega arith) | inr names ↦ inr (inl names) ]
  verdict_listed (unused _ _ _ _) = inr (inr refl)
  verdict_listed (barren _ _ _) = inl (omega arith)
  verdict_listed (conflict _ _ _ _ _ _) = inl (omega arith)
  verdict_listed (passes _ _ _ _) = inl (omega arith)

  -- CONFLICT tells of the lowest node that has one
  pub conflict_tells : {v : Verdict} → Judges bytes v → v.number ≡ CONFLICT
      → NoConflictBelow (book_of bytes) v.place × Conflict (book_of bytes).node ((book_of bytes).node v.place)
      × Told (book_of bytes).node ((book_of bytes).node v.place) v.both v.clash
  conflict_tells (malformed _) is = elim (form_listed bytes) [ inl few ↦ absurd (omega (arith, is)) | inr names ↦ absurd (omega (arith, is, names)) ]
  conflict_tells (unused _ _ _ _) is = absurd (omega arith)
  conflict_tells (barren _ _ _) is = absurd (omega arith)
  conflict_tells (conflict _ _ _ least here told) is = (least, here, told)
  conflict_tells (passes _ _ _ _) is = absurd (omega arith)

  -- any other number tells of none
  pub others_silent : {v : Verdict} → Judges bytes v → v.number ≢ CONFLICT → (v.both ≡ 0) × (v.clash ≡ 0)
  others_silent (malformed _) other = (refl, refl)
  others_silent (unused _ _ _ _) other = (refl, refl)
  others_silent (barren _ _ _) other = (refl, refl)
  others_silent (conflict _ _ _ _ _ _) other = absurd (other refl)
  others_silent (passes _ _ _ _) other = (refl, refl)
