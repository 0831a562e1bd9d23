-- Each test of judging, and the verdict that it gives.
use Prim.Native.Nat.{ℕ}
use native.Mathlib.Omega.{arith}
use mathlib.Core.Path.{◌≡◌, refl, sym, ap, ◌∙◌, subst}
use mathlib.Core.Bool.{true, false, true≢false}
use mathlib.Core.List.{List}
use lib.ListN.{length}
use mathlib.Core.Logic.{◌↔◌, ◌≢◌}
use Rattle.std.specs.Result.{MatchResult, IsErrAnd}
use Rattle.std.specs.Prelude.{Result}
use Rattle.std.proofs.lemmas.Result.{err_from_is_err_and}
use Rattle.kinds.specs.Kinds.{Has, has?}
use Rattle.kinds.proofs.Laws.{has?_is}
use Rattle.book.specs.declared.BookError.{BookError}
use Rattle.book.specs.declared.BookError.TheVariants.{Length, Contents, Settings, Node, Names}
use Rattle.book.specs.declared.Judged.{Judged}
use Rattle.book.specs.Errors.{judged_by}
use Rattle.book.specs.Form.{judged, DONE, form_of, book_of}
use Rattle.grammar.specs.Rules.{Productive}
use Rattle.grammar.specs.Passing.{AllReached, Fruitful, NoConflict}
use Rattle.rules.specs.Facts.{flat, table_size, facts_at, Facts}
use Rattle.rules.specs.declared.NodeFacts.{NodeFacts}
use Rattle.rules.proofs.Flat.{flat_length}
use Rattle.rules.specs.Growth.{Narrow, Blank}
use Rattle.rules.proofs.Bounds.{conflict_below}
use Rattle.verdict.specs.declared.Clash.{Clash}
use Rattle.verdict.specs.declared.Refusal.{Refusal}
use Rattle.verdict.specs.declared.Refusal.TheVariants as refusal
use Rattle.verdict.specs.Judges.{BARREN, judgement, NoConflictBelow}
use Rattle.verdict.specs.Judges.{Judges, malformed, barren, conflict}
use Rattle.verdict.specs.Conflicts.{Known, Leaves, Clashes}
use Rattle.verdict.specs.Refusals.{verdict_by}
use Rattle.verdict.proofs.Books.{book_well_formed, start_below}

-- no refusal is the answer that a book passes
error_number : (error : BookError) → (judged_by error).number ≢ DONE
error_number Length is = absurd (omega (arith, is))
error_number Contents is = absurd (omega (arith, is))
error_number Settings is = absurd (omega (arith, is))
error_number (Node n) is = absurd (omega (arith, is))
error_number (Names n) is = absurd (omega (arith, is))

pub refusal_number : (of : Refusal) → (verdict_by of).number ≢ DONE
refusal_number (refusal.Form error) is = error_number error is
refusal_number (refusal.Unused n) is = absurd (omega (arith, is))
refusal_number (refusal.Barren n) is = absurd (omega (arith, is))
refusal_number (refusal.Conflict n clash) is = absurd (omega (arith, is))

-- a refusal leaves nothing in the table
pub left_refused : {bytes table : List ℕ} (of : Refusal) → Judges bytes (verdict_by of) → Leaves bytes (verdict_by of) table
left_refused of judges = record { judges = judges; known = λ done. absurd (refusal_number of done) }

-- and so does one that `?` hands on
pub handed_on : {bytes : List ℕ} (table : List ℕ) {A : Type 0} (Passed : A → Type 0) (answer : Result A Refusal) (of : Refusal)
    → IsErrAnd answer (λ x. x ≡ of) → Judges bytes (verdict_by of)
    → MatchResult answer Passed (λ x. Leaves bytes (verdict_by x) table)
handed_on table Passed answer of is judges = let p = err_from_is_err_and answer is in rw (p.1, p.2) (left_refused of judges)

-- the facts that were put into a blank table are known
pub facts_known : {bytes : List ℕ} (old table : List NodeFacts) → form_of bytes ≡ judged DONE 0
    → ((form_of bytes).number ≡ DONE → Blank (table_size (book_of bytes).count) (flat old)) → length table ≡ length old
    → Facts (book_of bytes).node (book_of bytes).count (flat table) × Narrow (flat table) → Known bytes (book_of bytes).count (flat table)
facts_known {bytes} old table form blank long facts = record {
  good = record { form = done; count_is = refl };
  long = omega (arith, (blank done).long, flat_length old, flat_length table, long);
  facts = facts.0;
  narrow = facts.1;
}
  where
    done : (form_of bytes).number ≡ DONE
    done = ap (λ (j : Judged). j.number) form

-- 1 to 4 and 19: what stands against the form
pub answered_malformed : {bytes : List ℕ} (error : BookError) → form_of bytes ≡ judged_by error → Judges bytes (verdict_by (refusal.Form error))
answered_malformed {bytes} error is =
    rw (← is) (malformed (λ done. error_number error (ap (λ (j : Judged). j.number) (sym is) ∙ done)))

module _ {bytes table : List ℕ} (known : Known bytes (book_of bytes).count table) (reached : AllReached (book_of bytes)) where
  module _ {start : ℕ} (start_is : start ≡ (book_of bytes).start) where
    fruitful_is : Has (facts_at table start).productive 0 ↔ Fruitful (book_of bytes)
    fruitful_is =
        subst (λ n. Has (facts_at table start).productive 0 ↔ Productive (book_of bytes).node ((book_of bytes).node n)) start_is
        (known.facts.productive_is start 0 (start_below known.good start_is) (omega arith))

    pub start_fruitful : has? (facts_at table start).productive 0 ≡ true → Fruitful (book_of bytes)
    start_fruitful has = fruitful_is.0 ((has?_is _ 0).0 has)

    -- 5: the start is not productive
    pub answered_barren : has? (facts_at table start).productive 0 ≡ false → Judges bytes (judgement BARREN start 0 0)
    answered_barren none =
        rw start_is (barren known.good.form reached (λ is. true≢false (sym ((has?_is _ 0).1 (fruitful_is.1 is)) ∙ none)))

  -- 6: the lowest node that has a conflict
  pub answered_conflict : {n : ℕ} {clash : Clash} → Fruitful (book_of bytes) → NoConflictBelow (book_of bytes) n
      → Clashes (book_of bytes).node ((book_of bytes).node n) clash → Judges bytes (verdict_by (refusal.Conflict n clash))
  answered_conflict fruitful below here = conflict known.good.form reached fruitful below here.conflict here.told

  -- there is none
  pub conflict_none : NoConflictBelow (book_of bytes) (book_of bytes).count → NoConflict (book_of bytes)
  conflict_none below n here = below n (conflict_below (book_of bytes) (book_well_formed known.good) n here) here
