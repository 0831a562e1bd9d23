-- What is promised of writing a tree's run: every input has one answer; 23 stands where the records go wrong and nowhere else; a run that
-- is written is the one whose tree they are.
use Prim.Native.Nat.{ℕ, ◌≤◌, ◌<◌}
use native.Mathlib.Omega.{arith}
use native.Mathlib.Decide.{ℕ_discrete}
use mathlib.Core.Path.{◌≡◌, refl, sym, ap, ◌∙◌}
use mathlib.Core.Bool.{Bool, true, false}
use mathlib.Core.Logic.{◌↔◌, ◌≢◌, ◌⊎◌, inl, inr}
use mathlib.Core.List.{List}
use lib.Dec.{ltb}
use lib.ListN.{length}
use borrow.Author.Tests.{ltb-true, ltb-false}
use Rattle.written.specs.Written.{Out, refused_with, handed_over}
use Rattle.written.proofs.Handing.{refused_settles, handed_settles, room_enough_lem, taken_over}
use Rattle.book.specs.Form.{DONE, book_of}
use Rattle.grammar.specs.Passing.{Passes}
use Rattle.verdict.specs.declared.Verdict.{Verdict}
use Rattle.verdict.specs.Judges.{judgement, Judges}
use Rattle.verdict.proofs.Passing.{passed, passed_judges, verdict_listed}
use Rattle.verdict.proofs.Some.{judges_some}
use Rattle.verdict.proofs.Unique.{judges_unique}
use Rattle.meaning.specs.Meaning.{Accepts}
use Rattle.trees.specs.Trees.{Wrong}
use Rattle.unread.specs.Unreads.{TREE, RUN-LONG, RUN-ROOM, MOST-EVENTS, run_handed, Unreads, refused, no_tree, a_tree}
use Rattle.unread.specs.Written.{RunWritten, UnreadAnswers}
use Rattle.unread.proofs.Settling.{handed_long, handed_room, handed_done}
use Rattle.unread.proofs.Answered.{wrong_no_tree, wrong_once, run_is, told}

module _ (bytes records : List ℕ) (room : ℕ) where
  book_passes : Judges bytes (judgement DONE 0 0 0) → Passes (book_of bytes)
  book_passes judges = (passed judges refl).by_rules

  -- every input has an answer
  pub unreads_some : (o : Out) × Unreads bytes records room o
  unreads_some = go (judges_some bytes).0 (judges_some bytes).1 (ℕ_discrete (judges_some bytes).0.number DONE)
    where
      go : (v : Verdict) → Judges bytes v → Dec (v.number ≡ DONE) → (o : Out) × Unreads bytes records room o
      go v judges (no bad) = (_, refused judges bad)
      go v judges (yes is) = by (passed_judges judges is)
        where
          by : Judges bytes (judgement DONE 0 0 0) → (o : Out) × Unreads bytes records room o
          by done = answer (told (book_passes done) records)
            where
              answer : ((run : List ℕ) × Accepts (book_of bytes) run records) ⊎ ((i : ℕ) × Wrong (book_of bytes) records i)
                  → (o : Out) × Unreads bytes records room o
              answer (inl t) = (_, a_tree done t.1)
              answer (inr w) = (_, no_tree done w.1)

  -- and one only
  never_passes : {v : Verdict} → Judges bytes v → v.number ≢ DONE → Judges bytes (judgement DONE 0 0 0) → ⊥
  never_passes judges bad done = bad (ap (λ (v : Verdict). v.number) (judges_unique judges done))

  pub unreads_once : {a o : Out} → Unreads bytes records room a → Unreads bytes records room o → a ≡ o
  unreads_once (refused j _) (refused k _) =
      ap (λ (v : Verdict). refused_with v.number v.place room) (judges_unique j k)
  unreads_once (refused j bad) (no_tree k _) = absurd (never_passes j bad k)
  unreads_once (refused j bad) (a_tree k _) = absurd (never_passes j bad k)
  unreads_once (no_tree j _) (refused k bad) = absurd (never_passes k bad j)
  unreads_once (no_tree _ w) (no_tree _ x) = ap (λ (i : ℕ). refused_with TREE i room) (wrong_once w x)
  unreads_once (no_tree _ w) (a_tree _ a) = absurd (wrong_no_tree w a)
  unreads_once (a_tree j _) (refused k bad) = absurd (never_passes k bad j)
  unreads_once (a_tree _ a) (no_tree _ w) = absurd (wrong_no_tree w a)
  unreads_once (a_tree j a) (a_tree _ e) =
      ap (λ (run : List ℕ). run_handed run room) (run_is (book_passes j) a ∙ sym (run_is (book_passes j) e))

-- ---- what handing a run over comes to

data Handed (run : List ℕ) (room : ℕ) : Type 0 where
  too_long : run_handed run room ≡ refused_with RUN-LONG 0 room → MOST-EVENTS < length run → Handed run room
  too_short : run_handed run room ≡ refused_with RUN-ROOM 0 room → length run ≤ MOST-EVENTS → room < length run → Handed run room
  whole : run_handed run room ≡ handed_over run room → length run ≤ MOST-EVENTS → length run ≤ room → Handed run room

how_handed : (run : List ℕ) (room : ℕ) → Handed run room
how_handed run room = go (ltb MOST-EVENTS (length run)) (ltb room (length run)) refl refl
  where
    go : (many short : Bool) → ltb MOST-EVENTS (length run) ≡ many → ltb room (length run) ≡ short → Handed run room
    go true short m s = let many = ltb-true MOST-EVENTS (length run) m in too_long (handed_long run room many) many
    go false true m s =
        let few = ltb-false MOST-EVENTS (length run) m in
        let none = ltb-true room (length run) s in
        too_short (handed_room run room few none) few none
    go false false m s =
        let few = ltb-false MOST-EVENTS (length run) m in
        let fits = ltb-false room (length run) s in
        whole (handed_done run room few fits) few fits

number_of : {o other : Out} → o ≡ other → o.answer.number ≡ other.answer.number
number_of is = ap (λ (o : Out). o.answer.number) is

-- a verdict's numbers are none of 23 to 25
verdict_small : {bytes : List ℕ} {v : Verdict} → Judges bytes v → v.number ≤ 22
verdict_small judges =
    elim (verdict_listed judges) [ inl few ↦ omega (arith, few) | inr other ↦ elim other [ inl names ↦ omega (arith, names) | inr unused ↦ omega (arith, unused) ] ]

module _ {bytes records : List ℕ} {room : ℕ} where
  -- every answer is one of the book's own or 23 to 25, and leaves the buffer as it should be
  pub unread_answers : {o : Out} → Unreads bytes records room o → UnreadAnswers bytes room o
  unread_answers (refused j bad) = record { listed = inl (_, j, refl, refl); settles = refused_settles _ _ room }
  unread_answers (no_tree j w) = record { listed = inr (inr (omega arith, omega arith)); settles = refused_settles TREE _ room }
  unread_answers (a_tree {run} j a) = go (how_handed run room)
    where
      go : Handed run room → UnreadAnswers bytes room (run_handed run room)
      go (too_long is many) =
          rw is (record { listed = inr (inr (omega arith, omega arith)); settles = refused_settles RUN-LONG 0 room })
      go (too_short is few short) =
          rw is (record { listed = inr (inr (omega arith, omega arith)); settles = refused_settles RUN-ROOM 0 room })
      go (whole is few fits) =
          rw is (record { listed = inr (inl refl); settles = rw (room_enough_lem run room fits) at (handed_settles run room) })

  -- 23 stands where the records go wrong, and nowhere else
  pub tree_refused_at : {o : Out} → Unreads bytes records room o → (i : ℕ)
      → ((o.answer.number ≡ TREE) × (o.answer.place ≡ i)) ↔ (Judges bytes (judgement DONE 0 0 0) × Wrong (book_of bytes) records i)
  tree_refused_at {o} unreads i = (λ t. forth unreads t.0 t.1, λ t. back t.0 t.1)
    where
      forth : {o : Out} → Unreads bytes records room o → o.answer.number ≡ TREE → o.answer.place ≡ i
          → Judges bytes (judgement DONE 0 0 0) × Wrong (book_of bytes) records i
      forth (refused j bad) is place = absurd (omega (arith, is, verdict_small j))
      forth (no_tree j w) is place = (j, rw place at w)
      forth (a_tree {run} j a) is place = absurd (go (how_handed run room))
        where
          go : Handed run room → ⊥
          go (too_long e _) = omega (arith, is, number_of e)
          go (too_short e _ _) = omega (arith, is, number_of e)
          go (whole e _ _) = omega (arith, is, number_of e)

      back : Judges bytes (judgement DONE 0 0 0) → Wrong (book_of bytes) records i → (o.answer.number ≡ TREE) × (o.answer.place ≡ i)
      back j w =
          let same = unreads_once bytes records room unreads (no_tree j w) in (number_of same, ap (λ (o : Out). o.answer.place) same)

  -- a run that is written is the one whose tree the records are
  pub run-written : {o : Out} → Unreads bytes records room o → o.answer.number ≡ DONE → RunWritten bytes records room o
  run-written (refused j bad) is = absurd (bad is)
  run-written (no_tree j w) is = absurd (omega (arith, is))
  run-written (a_tree {run} j a) is = go (how_handed run room)
    where
      go : Handed run room → RunWritten bytes records room (run_handed run room)
      go (too_long e _) = absurd (omega (arith, is, number_of e))
      go (too_short e _ _) = absurd (omega (arith, is, number_of e))
      go (whole e few fits) =
          rw e
          (record {
            passes = j;
            accepts = rw (taken_over run room) a;
            only = λ other b. run_is (book_passes bytes records room j) b ∙ sym (run_is (book_passes bytes records room j) a) ∙ sym (taken_over run room);
            few = rw (taken_over run room) few;
            fits = rw (taken_over run room) fits;
            hands = ap (λ (r : List ℕ). handed_over r room) (sym (taken_over run room));
          })

  -- the run of a tree is written, where it is short enough and there is room
  pub tree_written : {run : List ℕ} → Judges bytes (judgement DONE 0 0 0) → Accepts (book_of bytes) run records
      → length run ≤ MOST-EVENTS → length run ≤ room → {o : Out} → Unreads bytes records room o → o ≡ handed_over run room
  tree_written {run} j a few fits unreads = unreads_once bytes records room unreads (a_tree j a) ∙ handed_done run room few fits

  pub tree_long : {run : List ℕ} → Judges bytes (judgement DONE 0 0 0) → Accepts (book_of bytes) run records
      → MOST-EVENTS < length run → {o : Out} → Unreads bytes records room o → o ≡ refused_with RUN-LONG 0 room
  tree_long {run} j a many unreads = unreads_once bytes records room unreads (a_tree j a) ∙ handed_long run room many

  pub tree_no_room : {run : List ℕ} → Judges bytes (judgement DONE 0 0 0) → Accepts (book_of bytes) run records
      → length run ≤ MOST-EVENTS → room < length run → {o : Out} → Unreads bytes records room o → o ≡ refused_with RUN-ROOM 0 room
  tree_no_room {run} j a few short unreads = unreads_once bytes records room unreads (a_tree j a) ∙ handed_room run room few short
