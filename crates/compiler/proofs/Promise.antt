-- Demand 2 from what compiling comes to: given plan room enough, a well-formed book passes exactly when every node is reachable from the
-- start, the start can produce some run and no node has a conflict; its plan is the one that the rules give.
use Prim.Native.Nat.{ℕ, ◌+◌, ◌-◌, ◌≤◌, ◌<◌}
use native.Mathlib.Omega.{arith}
use native.Mathlib.Nat.{add-mul, mul-le-mul_right}
use native.Mathlib.Numerals.{add-one}
use mathlib.Core.Bool.{cond}
use lib.ListN.{length, get_or, length-append, length-replicate, get_or-append}
use mathlib.Core.Path.{◌≡◌, refl, ◌∙◌, ap}
use mathlib.Core.Logic.Iff
use mathlib.Core.Logic.{◌↔◌, ◌≢◌, ◌⊎◌, inl, inr, ⊎_elim}
use mathlib.Core.List.{List, ◌++◌}
use Rattle.words.specs.Words.{u16_at, zeros}
use Rattle.names.specs.Names.{NAMES}
use Rattle.book.specs.Form.{DONE, form_of, book_of}
use Rattle.grammar.specs.Rules.{Conflict}
use Rattle.grammar.specs.Passing.{AllReached, Fruitful, NoConflict, Passes}
use Rattle.verdict.specs.declared.Verdict.{Verdict}
use Rattle.verdict.specs.Judges.{UNUSED, CONFLICT, NoConflictBelow, Told, judgement, Judges}
use Rattle.verdict.proofs.Passing.{passed as judged-passed, passed_judges, passes_exactly as judged-exactly, verdict_listed}
use Rattle.verdict.proofs.Passing.{conflict_tells as judged-tells, others_silent as judged-silent}
use Rattle.verdict.proofs.Some.{judges_some}
use Rattle.verdict.proofs.Unique.{judges_unique}
use Rattle.lengths.proofs.Cutting.{cut-within}
use Rattle.running.specs.Cells.{Marks, Marked, cell_of}
use Rattle.plan.specs.Form.{row_at, due_at, plan_size, cell_at}
use Rattle.plan.proofs.Laws.{size_small}
use Rattle.writer.proofs.PlanBytes.{size_is, cell_is, mark_is, due_is}
use Rattle.writer.specs.Bytes.{plan_bytes}
use Rattle.compiler.specs.declared.Compiled.{Compiled}
use Rattle.compiler.specs.Compiles.{Compiles, refused, no_room, done, PLAN-ROOM, size_of}
use Rattle.compiler.proofs.Unique.{marks_unique}

-- what is so where a book passes
pub record Passed (bytes : List ℕ) (room : ℕ) (plan : List ℕ) : Type 0 where
  pub judges : Judges bytes (judgement DONE 0 0 0)
  pub fits : size_of (book_of bytes) ≤ room
  pub marks : Marks
  pub marked : Marked (book_of bytes).node marks
  pub plan_is : plan ≡ plan_bytes (book_of bytes) marks ++ zeros (room - size_of (book_of bytes))

module _ {bytes : List ℕ} {room : ℕ} where
  pub passed : {a : Compiled} {p : List ℕ} → Compiles bytes room a p → a.number ≡ DONE → Passed bytes room p
  passed (refused _ bad) is = absurd (bad is)
  passed (no_room _ _) is = absurd (omega arith)
  passed (done {marks} judges fits marked) is =
      record { judges = judges; fits = fits; marks = marks; marked = marked; plan_is = refl }

  module _ {a : Compiled} {p : List ℕ} (c : Compiles bytes room a p) (is : a.number ≡ DONE) where
    -- it is of good form
    pub passed_form : (form_of bytes).number ≡ DONE
    passed_form = (judged-passed (passed c is).judges refl).form

    -- and passes by the rules
    pub passed_passes : Passes (book_of bytes)
    passed_passes = (judged-passed (passed c is).judges refl).by_rules

    -- its plan is the one that the rules give
    pub passed_plan : {marks : Marks} → Marked (book_of bytes).node marks
        → p ≡ plan_bytes (book_of bytes) marks ++ zeros (room - size_of (book_of bytes))
    passed_plan marked = rw (marks_unique marked (passed c is).marked) (passed c is).plan_is

  done_room : {a : Compiled} {p : List ℕ} → Compiles bytes room a p → size_of (book_of bytes) ≤ room → Judges bytes (judgement DONE 0 0 0)
      → a.number ≡ DONE
  done_room (refused judges bad) fits good = absurd (bad (ap (λ (v : Verdict). v.number) (judges_unique judges good)))
  done_room (no_room _ short) fits good = absurd (omega arith)
  done_room (done _ _ _) fits good = refl

  -- given plan room enough, compiling passes a book exactly when judging does
  pub passes_judged : {a : Compiled} {p : List ℕ} {v : Verdict} → Compiles bytes room a p → Judges bytes v → size_of (book_of bytes) ≤ room
      → (a.number ≡ DONE) ↔ (v.number ≡ DONE)
  passes_judged c judges fits = (
    (λ is. ap (λ (v : Verdict). v.number) (judges_unique judges (passed c is).judges)),
    (λ is. done_room c fits (passed_judges judges is)),
  )

  -- given plan room enough, a well-formed book passes exactly when every node is reachable, its start can produce some run and no node has
  -- a conflict
  pub passes_exactly : {a : Compiled} {p : List ℕ}
      → Compiles bytes room a p
      → (form_of bytes).number ≡ DONE
      → size_of (book_of bytes) ≤ room
      → (a.number ≡ DONE) ↔ (AllReached (book_of bytes) × Fruitful (book_of bytes) × NoConflict (book_of bytes))
  passes_exactly c form fits = let judges = (judges_some bytes).1 in Iff.trans (passes_judged c judges fits) (judged-exactly judges form)

-- the size of the plan of a book that passes
plan_small : (bytes : List ℕ) → Judges bytes (judgement DONE 0 0 0) → size_of (book_of bytes) ≤ 37406
plan_small bytes judges =
    let book = (judged-passed judges refl).by_rules.well_formed in
    size_small (book_of bytes).count (book_of bytes).kinds book.few_nodes book.few_kinds

-- every answer's number is on the list: 0 to 7, 19 and 22
pub answer_listed : {bytes : List ℕ} {room : ℕ} {a : Compiled} {p : List ℕ} → Compiles bytes room a p
    → (a.number ≤ PLAN-ROOM) ⊎ ((a.number ≡ NAMES) ⊎ (a.number ≡ UNUSED))
answer_listed (refused judges _) = ⊎_elim (λ few. inl (omega (arith, few))) inr (verdict_listed judges)
answer_listed (no_room _ _) = inl (omega arith)
answer_listed (done _ _ _) = inl (omega arith)

-- the size answered for a book that passes is its plan's
pub passed_size : {bytes : List ℕ} {room : ℕ} {a : Compiled} {p : List ℕ} → Compiles bytes room a p → a.number ≡ DONE → a.size ≡ size_of (book_of bytes)
passed_size (refused _ bad) is = absurd (bad is)
passed_size (no_room _ _) is = absurd (omega arith)
passed_size (done _ _ _) is = refl

-- a plan has at most 37,406 bytes
pub size-most : {bytes : List ℕ} {room : ℕ} {a : Compiled} {p : List ℕ} → Compiles bytes room a p → a.size ≤ 37406
size-most (refused _ _) = omega arith
size-most {bytes} (no_room judges _) = plan_small bytes judges
size-most {bytes} (done judges _ _) = plan_small bytes judges

-- CONFLICT tells of the lowest node that has one
pub conflict_tells : {bytes : List ℕ} {room : ℕ} {a : Compiled} {p : List ℕ} → Compiles bytes room a p → a.number ≡ CONFLICT
    → NoConflictBelow (book_of bytes) a.place × Conflict (book_of bytes).node ((book_of bytes).node a.place)
    × Told (book_of bytes).node ((book_of bytes).node a.place) a.both a.clash
conflict_tells (refused judges _) is = judged-tells judges is
conflict_tells (no_room _ _) is = absurd (omega arith)
conflict_tells (done _ _ _) is = absurd (omega arith)

-- any other number tells of none
pub others_silent : {bytes : List ℕ} {room : ℕ} {a : Compiled} {p : List ℕ} → Compiles bytes room a p → a.number ≢ CONFLICT
    → (a.both ≡ 0) × (a.clash ≡ 0)
others_silent (refused judges _) other = judged-silent judges other
others_silent (no_room _ _) other = (refl, refl)
others_silent (done _ _ _) other = (refl, refl)

-- PLAN ROOM is answered only for a book of good form whose plan is larger than the room
pub room_short : {bytes : List ℕ} {room : ℕ} {a : Compiled} {p : List ℕ}
    → Compiles bytes room a p
    → a.number ≡ PLAN-ROOM
    → ((form_of bytes).number ≡ DONE) × (room < size_of (book_of bytes))
room_short (refused judges _) is =
    absurd (⊎_elim (λ few. omega (arith, few)) (⊎_elim (λ names. omega (arith, names)) (λ unused. omega (arith, unused))) (verdict_listed judges))
room_short (no_room judges short) is = ((judged-passed judges refl).form, short)
room_short (done _ _ _) is = absurd (omega arith)

-- a refusal leaves the plan buffer as zeros
pub refused_clear : {bytes : List ℕ} {room : ℕ} {a : Compiled} {p : List ℕ} → Compiles bytes room a p → a.number ≢ DONE → p ≡ zeros room
refused_clear (refused _ _) bad = refl
refused_clear (no_room _ _) bad = refl
refused_clear (done _ _ _) bad = absurd (bad refl)

-- the plan buffer keeps its length
pub room_kept : {bytes : List ℕ} {room : ℕ} {a : Compiled} {p : List ℕ} → Compiles bytes room a p → length p ≡ room
room_kept {room = room} (refused _ _) = length-replicate room 0
room_kept {room = room} (no_room _ _) = length-replicate room 0
room_kept {bytes} {room} (done {marks} _ fits _) =
    length-append (plan_bytes (book_of bytes) marks) (zeros (room - size_of (book_of bytes)))
    ∙ omega (arith, size_is (book_of bytes) marks, length-replicate {A = ℕ} (room - size_of (book_of bytes)) 0)

-- the cells of a plan stand within it
cell_within : (count kinds n column : ℕ) → n < count → column < kinds + 1 → row_at count kinds n + column < plan_size count kinds
cell_within count kinds n column below within =
    omega (arith, add-mul n 1 (kinds + 1), mul-le-mul_right (kinds + 1) below, add-one n)

module _ {bytes : List ℕ} {room : ℕ} {a : Compiled} {p : List ℕ}
    (c : Compiles bytes room a p) (good : a.number ≡ DONE) {marks : Marks} (marked : Marked (book_of bytes).node marks) where
  cell_first : (n column : ℕ)
      → n < (book_of bytes).count
      → column < (book_of bytes).kinds + 1
      → cell_at p (book_of bytes).count (book_of bytes).kinds n column
      ≡ cell_at (plan_bytes (book_of bytes) marks) (book_of bytes).count (book_of bytes).kinds n column
  unfolding cell_at
  cell_first n column below within =
      ap (λ q. get_or q (row_at (book_of bytes).count (book_of bytes).kinds n + column) 0) (passed_plan c good marked)
      ∙ get_or-append (plan_bytes (book_of bytes) marks) _ 0 (row_at (book_of bytes).count (book_of bytes).kinds n + column)
      (omega (arith, cell_within (book_of bytes).count (book_of bytes).kinds n column below within, size_is (book_of bytes) marks))

  -- cell by cell, the plan of a book that passes is the one that the rules give
  pub passed_cell : (n k : ℕ)
      → n < (book_of bytes).count
      → k < (book_of bytes).kinds
      → cell_at p (book_of bytes).count (book_of bytes).kinds n k ≡ cell_of marks k n ((book_of bytes).node n)
  passed_cell n k below kind = cell_first n k below (omega arith) ∙ cell_is (book_of bytes) marks n k below kind

  -- the last cell of a row is 1 if the node is nullable, else 0
  pub passed_last : (n : ℕ)
      → n < (book_of bytes).count
      → cell_at p (book_of bytes).count (book_of bytes).kinds n (book_of bytes).kinds ≡ cond (marks.null n) 1 0
  passed_last n below = cell_first n (book_of bytes).kinds below (omega arith) ∙ mark_is (book_of bytes) marks n below

  -- the number of a node in the fourth section is what is due for it
  pub passed_due : (n : ℕ) → n < (book_of bytes).count → u16_at p (due_at (book_of bytes).count (book_of bytes).kinds n) ≡ marks.due n
  unfolding u16_at
  passed_due n below =
      u16_first (due_at (book_of bytes).count (book_of bytes).kinds n) (omega arith)
      ∙ due_is (book_of bytes) marks n below (omega (arith, cut-within (marked.due_is n)))
    where
      byte_first : (i : ℕ) → i < plan_size (book_of bytes).count (book_of bytes).kinds → get_or p i 0 ≡ get_or (plan_bytes (book_of bytes) marks) i 0
      byte_first i within =
          ap (λ q. get_or q i 0) (passed_plan c good marked)
          ∙ get_or-append (plan_bytes (book_of bytes) marks) _ 0 i (omega (arith, within, size_is (book_of bytes) marks))

      u16_first : (at : ℕ) → at + 1 < plan_size (book_of bytes).count (book_of bytes).kinds → u16_at p at ≡ u16_at (plan_bytes (book_of bytes) marks) at
      u16_first at within = omega (arith, byte_first at (omega arith), byte_first (at + 1) within)
