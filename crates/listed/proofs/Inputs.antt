-- Laws of inputs that are whole, and of what the program writes for an input.
use Prim.Native.Nat.{ℕ, ◌+◌, ◌-◌, ◌≤◌}
use native.Mathlib.Omega.{arith}
use mathlib.Core.Path.{◌≡◌, refl, ap, ◌∙◌}
use mathlib.Core.Bool.{Bool, true, false, cond}
use mathlib.Core.List.{List}
use mathlib.Core.Logic.{◌≢◌}
use lib.ListN.{length, take, drop, length-drop}
use lib.Seq.{take_all}
use borrow.Author.Tests.{ltb-false}
use Rattle.words.specs.Words.{u16_at}
use Rattle.book.specs.Form.{DONE}
use Rattle.compiler.specs.declared.Compiled.{Compiled}
use Rattle.compiler.specs.Compiles.{Compiles}
use Rattle.compiler.proofs.Promise.{passed, passed_size}
use Rattle.reader.specs.Reads.{read_of}
use Rattle.lines.specs.Lines.{Put}
use Rattle.listed.specs.Listing.{TooLong, TooShort, Whole, longest_book, event_room, plan_room, out_room, AddedListing, slot_room, tree_room, book_size, book_in, run_in, shape_of, reading_lines, Lists, compiled_line, Parted, book-refused, run_read, Listed}
use Rattle.prints.specs.declared.Page.{Page}
use Rattle.lines.proofs.Laws.{adds_whole, put-length, put-taken, put_rest}

-- an input that is whole has a length, its book and a run within the room
pub record Full (input : List ℕ) : Type 0 where
  pub two : 2 ≤ length input
  pub small : book_size input ≤ longest_book
  pub book : 2 + book_size input ≤ length input
  pub events : length input ≤ 2 + book_size input + event_room

long_whole : TooLong ≡ Whole → ⊥
long_whole e = let z : ◌≡◌ {A = ℕ} 0 1 = cc in omega arith

short_whole : TooShort ≡ Whole → ⊥
short_whole e = let z : ◌≡◌ {A = ℕ} 0 1 = cc in omega arith

-- the first test that holds decides: of a whole input none does
all_fail : (a b c d : Bool)
    → cond a TooShort (cond b TooLong (cond c TooShort (cond d TooLong Whole))) ≡ Whole
    → (a ≡ false) × (b ≡ false) × (c ≡ false) × (d ≡ false)
all_fail false false false false e = (refl, refl, refl, refl)
all_fail false false false true e = absurd (long_whole e)
all_fail false false true d e = absurd (short_whole e)
all_fail false true c d e = absurd (long_whole e)
all_fail true b c d e = absurd (short_whole e)

-- an output into which what the program writes was put
pub put_listed : {input out end bytes : List ℕ} {last : ℕ} → Put out end 0 last bytes → Lists input bytes → Listed input out end last
put_listed {end = end} {last = last} p lists =
    let room : last ≤ length end = omega (arith, put-length p, p.within) in
    record {
      within = room;
      lists = rw (put-taken p) lists;
      rest = put_rest p;
    }

module _ (input : List ℕ) (whole : shape_of input ≡ Whole) where
  pub whole_full : Full input
  unfolding shape_of
  whole_full =
      let fail = all_fail _ _ _ _ whole in
      record {
        two = ltb-false _ _ fail.0;
        small = ltb-false _ _ fail.1;
        book = ltb-false _ _ fail.2;
        events = ltb-false _ _ fail.3;
      }

-- an output over which a page was written from its start on
pub page_listed : {input out end : List ℕ} {last : ℕ} {before after : Page}
    → before.out.now ≡ out
    → before.at ≡ 0
    → end ≡ after.out.now
    → last ≡ after.at
    → out_room ≤ length out
    → AddedListing input before after
    → Listed input out end last
page_listed {before = before} was blank is long room a =
    put_listed (rw (is, long, ← was) (adds_whole (omega (arith, a.short, ap (λ (l : List ℕ). length l) was)) (rw blank at a.added.adds))) a.lists

-- of a whole input, its parts, and an input in which those stand
module _ (input : List ℕ) {size : ℕ} (is : size ≡ u16_at input 0) where
  pub input_parted : shape_of input ≡ Whole
      → Parted input (take (2 + size - 2) (drop 2 input)) (take (length input - (2 + size)) (drop (2 + size) input))
  unfolding book_in run_in book_size
  input_parted whole =
      let same : 2 + size - 2 ≡ u16_at input 0 = omega (arith, is) in
      record {
        whole = whole;
        book_is = rw same refl;
        run_is =
            take_all (length input - (2 + size)) (drop (2 + size) input) (rw length-drop (omega arith))
            ∙ ap (λ (n : ℕ). drop (2 + n) input) is;
      }

-- what compiling the book of a whole input comes to, where it is refused, and where its run is read
module _ {input book run plan : List ℕ} {room : ℕ} {answer : Compiled} (p : Parted input book run) (held : room ≡ plan_room)
    (made : Compiles book room answer plan) where
  pub refused_listed : answer.number ≢ DONE → Lists input (compiled_line answer)
  refused_listed bad = book-refused p.whole (rw (p.book_is, held) at made) bad

  pub run_listed : answer.number ≡ DONE
      → Lists input (reading_lines (length run) (read_of (take answer.size plan) run slot_room tree_room))
  run_listed good = rw p.run_is (run_read p.whole (rw (p.book_is, held) at made) good)

-- a plan is within its room
pub compiled_within : {bytes : List ℕ} {room : ℕ} {answer : Compiled} {plan : List ℕ}
    → Compiles bytes room answer plan
    → answer.number ≡ DONE
    → answer.size ≤ room
compiled_within made is = rw (passed_size made is) (passed made is).fits
