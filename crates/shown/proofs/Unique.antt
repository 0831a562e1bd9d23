-- What the program writes for an input is determined, there is always something, and 21 never shows.
use Prim.Native.Nat.{ℕ, ◌≤◌, ◌<◌}
use native.Mathlib.Omega.{arith}
use native.Mathlib.Decide.{dec_le, ℕ_discrete}
use mathlib.Core.Path.{◌≡◌, refl, ap, ◌∙◌}
use mathlib.Core.Logic.{◌≢◌}
use mathlib.Core.List.{List}
use lib.ListN.{length, take, length-take}
use lib.Seq.{take_all}
use Rattle.written.specs.declared.Written.{Written}
use Rattle.written.specs.Written.{Out, taken, OUT-ROOM}
use Rattle.book.specs.Form.{DONE}
use Rattle.making.specs.Makes.{Makes, Places}
use Rattle.making.proofs.Promise.{makes_some, makes_once, places_some, places_once, room_suffices}
use Rattle.compiler.specs.declared.Compiled.{Compiled}
use Rattle.compiler.specs.Compiles.{Compiles}
use Rattle.compiler.proofs.Unique.{compiles_unique}
use Rattle.compiler.proofs.Some.{compiles_some}
use Rattle.listed.specs.Listing.{longest_book, plan_room}
use Rattle.shown.specs.Shown.{sheet_room, input_room, refusal_line, book_text, Shows, too_long, sheet_refused, book-said}

-- of one book the compiler says one thing, of one place
said_once : {sheet plan plan' : List ℕ} {o o' : Out} {a a' : Compiled} {from from' : Written}
    → o ≡ o'
    → Compiles (taken o) plan_room a plan
    → Compiles (taken o') plan_room a' plan'
    → Places sheet a.place from
    → Places sheet a'.place from'
    → book_text sheet (taken o) a from.place ≡ book_text sheet (taken o') a' from'.place
said_once {sheet} {o = o} {o'} {a} {a'} {from} {from'} e one other here there =
    let books : taken o ≡ taken o' = ap (λ (o : Out). taken o) e in
    let same : a ≡ a' = (compiles_unique (rw books at one) other).0 in
    let places : from ≡ from' = places_once sheet a'.place (rw same at here) there in
    λ i. book_text sheet (books i) (same i) (places i).place

-- two outputs for one input are the same
pub shows_unique : {sheet a b : List ℕ} → Shows sheet a → Shows sheet b → a ≡ b
shows_unique (too_long p) (too_long q) = refl
shows_unique (too_long p) (sheet_refused q _ _) = absurd (omega (arith, p, q))
shows_unique (too_long p) (book-said q _ _ _ _) = absurd (omega (arith, p, q))
shows_unique (sheet_refused p _ _) (too_long q) = absurd (omega (arith, p, q))
shows_unique {sheet} (sheet_refused _ a _) (sheet_refused _ b _) =
    ap (λ (o : Out). refusal_line sheet o.answer.number o.answer.place) (makes_once sheet longest_book a b)
shows_unique {sheet} (sheet_refused _ a bad) (book-said _ b good _ _) =
    absurd (bad (ap (λ (o : Out). o.answer.number) (makes_once sheet longest_book a b) ∙ good))
shows_unique (book-said p _ _ _ _) (too_long q) = absurd (omega (arith, p, q))
shows_unique {sheet} (book-said _ a good _ _) (sheet_refused _ b bad) =
    absurd (bad (ap (λ (o : Out). o.answer.number) (makes_once sheet longest_book b a) ∙ good))
shows_unique {sheet} (book-said _ a _ one here) (book-said _ b _ other there) =
    said_once (makes_once sheet longest_book a b) one other here there

-- every input has an output
pub shows_some : (sheet : List ℕ) → (out : List ℕ) × Shows sheet out
shows_some sheet = by_length (dec_le (length sheet) sheet_room)
  where
    by_answer : {o : Out}
        → length sheet ≤ sheet_room
        → Makes sheet longest_book o
        → Dec (o.answer.number ≡ DONE)
        → (out : List ℕ) × Shows sheet out
    by_answer {o} short makes (yes good) =
        let said = compiles_some (taken o) plan_room in
        (_, book-said short makes good said.2 (places_some sheet said.0.place).answers)
    by_answer short makes (no bad) = (_, sheet_refused short makes bad)

    by_length : Dec (length sheet ≤ sheet_room) → (out : List ℕ) × Shows sheet out
    by_length (yes short) =
        let made = makes_some sheet longest_book in
        by_answer short made.answers (ℕ_discrete made.answer.answer.number DONE)
    by_length (no long) = (_, too_long (omega arith))

-- NO ROOM never shows: the book's buffer holds the longest book
pub book_fits : {sheet : List ℕ} {o : Out} → Makes sheet longest_book o → o.answer.number ≢ OUT-ROOM
book_fits {sheet} makes = room_suffices sheet longest_book (omega arith) makes

-- the first bytes that decide are enough, or more of them: the rest of an input changes nothing
pub shows_front : (room : ℕ) (input : List ℕ) {out : List ℕ} → input_room ≤ room → Shows (take room input) out → Shows input out
shows_front room input {out} enough shows = by_length (dec_le room (length input))
  where
    by_length : Dec (room ≤ length input) → Shows input out
    by_length (yes long) =
        let cut : sheet_room < length (take room input) = rw length-take (omega arith) in
        rw (shows_unique shows (too_long cut)) (too_long (omega arith))
    by_length (no short) = rw (take_all room input (omega arith)) at shows
