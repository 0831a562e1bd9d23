-- What the program writes for an input is determined, there is always something, and 7 never shows.
use Prim.Native.Nat.{ℕ, ◌+◌, ◌≤◌}
use native.Mathlib.Omega.{arith}
use native.Mathlib.Decide.{dec_le, ℕ_discrete}
use mathlib.Core.Path.{◌≡◌, refl, ap, ap₂, ◌∙◌}
use mathlib.Core.Logic.{◌≢◌}
use mathlib.Core.Bool.{Bool, true, false, cond}
use mathlib.Core.List.{List}
use lib.Dec.{ltb}
use lib.ListN.{length, take, length-take}
use lib.Seq.{take_all}
use borrow.Author.Tests.{lt-ltb, le-ltb, ltb-false}
use Rattle.book.specs.Form.{DONE, book_of}
use Rattle.book.proofs.Decoded.{formed, well_formed}
use Rattle.plan.proofs.Laws.{size_small}
use Rattle.compiler.specs.declared.Compiled.{Compiled}
use Rattle.compiler.specs.Compiles.{Compiles, PLAN-ROOM}
use Rattle.compiler.proofs.Unique.{compiles_unique}
use Rattle.compiler.proofs.Some.{compiles_some}
use Rattle.compiler.proofs.Promise.{room_short}
use Rattle.reader.specs.Reads.{read_of}
use Rattle.listed.specs.Listing.{
  Shape,
  TooLong,
  TooShort,
  Whole,
  longest_book,
  event_room,
  input_room,
  plan_room,
  slot_room,
  tree_room,
  book_size,
  book_in,
  run_in,
  shape_of,
  compiled_line,
  reading_lines,
  Lists,
  too_long,
  too_short,
  book-refused,
  run_read,
}

-- two outputs for one input are the same
pub lists_unique : {input a b : List ℕ} → Lists input a → Lists input b → a ≡ b
lists_unique (too_long p) (too_long q) = refl
lists_unique (too_long p) (too_short q) = cc
lists_unique (too_long p) (book-refused q _ _) = cc
lists_unique (too_long p) (run_read q _ _) = cc
lists_unique (too_short p) (too_long q) = cc
lists_unique (too_short p) (too_short q) = refl
lists_unique (too_short p) (book-refused q _ _) = cc
lists_unique (too_short p) (run_read q _ _) = cc
lists_unique (book-refused p _ _) (too_long q) = cc
lists_unique (book-refused p _ _) (too_short q) = cc
lists_unique (book-refused _ a bad) (book-refused _ b _) = ap compiled_line (compiles_unique a b).0
lists_unique (book-refused _ a bad) (run_read _ b good) = absurd (bad (ap (λ (c : Compiled). c.number) (compiles_unique a b).0 ∙ good))
lists_unique (run_read p _ _) (too_long q) = cc
lists_unique (run_read p _ _) (too_short q) = cc
lists_unique (run_read _ a good) (book-refused _ b bad) = absurd (bad (ap (λ (c : Compiled). c.number) (compiles_unique b a).0 ∙ good))
lists_unique {input} (run_read _ a _) (run_read _ b _) =
    let run = run_in input in
    ap₂ (λ (c : Compiled) (plan : List ℕ). reading_lines (length run) (read_of (take c.size plan) run slot_room tree_room))
    (compiles_unique a b).0
    (compiles_unique a b).1

-- every input has an output
pub lists_some : (input : List ℕ) → (out : List ℕ) × Lists input out
lists_some input = by_shape (shape_of input) refl
  where
    by_answer : (answer : Compiled) (plan : List ℕ)
        → shape_of input ≡ Whole
        → Compiles (book_in input) plan_room answer plan
        → Dec (answer.number ≡ DONE)
        → (out : List ℕ) × Lists input out
    by_answer answer plan whole made (yes good) = (_, run_read whole made good)
    by_answer answer plan whole made (no bad) = (_, book-refused whole made bad)

    by_shape : (shape : Shape) → shape_of input ≡ shape → (out : List ℕ) × Lists input out
    by_shape TooLong e = (_, too_long e)
    by_shape TooShort e = (_, too_short e)
    by_shape Whole e =
        let made = compiles_some (book_in input) plan_room in
        by_answer made.0 made.1 e made.2 (ℕ_discrete made.0.number DONE)

-- PLAN ROOM never shows: the plan's buffer holds the largest plan
pub plan_fits : {bytes : List ℕ} {answer : Compiled} {plan : List ℕ} → Compiles bytes plan_room answer plan → answer.number ≢ PLAN-ROOM
plan_fits {bytes} made short =
    let (good, small) = room_short made short in
    let book = well_formed (formed bytes good) in
    omega (arith, small, size_small (book_of bytes).count (book_of bytes).kinds book.few_nodes book.few_kinds)

-- an input of more bytes than decide is too long
long_input : (input : List ℕ) → input_room ≤ length input → shape_of input ≡ TooLong
unfolding shape_of
long_input input long =
    let some : ltb (length input) 2 ≡ false = le-ltb (length input) 2 (omega arith) in
    rw some (by_size (ltb longest_book (book_size input)) refl)
  where
    by_size : (test : Bool)
        → ltb longest_book (book_size input) ≡ test
        → cond (ltb longest_book (book_size input)) TooLong
        (cond (ltb (length input) (2 + book_size input)) TooShort
        (cond (ltb (2 + book_size input + event_room) (length input)) TooLong Whole))
        ≡ TooLong
    by_size true e = rw e
    by_size false e =
        let small : book_size input ≤ longest_book = ltb-false _ _ e in
        let long_enough = le-ltb (length input) (2 + book_size input) (omega arith) in
        rw (e, long_enough, lt-ltb (2 + book_size input + event_room) (length input) (omega arith))

-- the first bytes that decide are enough, or more of them: the rest of an input changes nothing
pub lists_front : (room : ℕ) (input : List ℕ) {out : List ℕ} → input_room ≤ room → Lists (take room input) out → Lists input out
lists_front room input {out} enough lists = by_length (dec_le room (length input))
  where
    by_length : Dec (room ≤ length input) → Lists input out
    by_length (yes long) =
        let cut : shape_of (take room input) ≡ TooLong = long_input _ (rw length-take (omega arith)) in
        rw (lists_unique lists (too_long cut)) (too_long (long_input input (omega arith)))
    by_length (no short) = rw (take_all room input (omega arith)) at lists
