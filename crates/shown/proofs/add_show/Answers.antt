-- `shown::add_show` meets its contract: too long, refused with its reason, or its book told.
use native.Mathlib.Omega.{arith}
use Prim.Native.Nat.{ℕ, ◌≤◌}
use mathlib.Core.Path.{◌≡◌, sym}
use mathlib.Core.List.{List}
use lib.ListN.{length}
use lib.Seq.{length-take-le}
use Rattle.book.specs.Form.{DONE}
use Rattle.written.specs.declared.Written.{Written}
use Rattle.written.specs.Written.{out}
use Rattle.making.specs.Makes.{Makes}
use Rattle.listed.specs.Listing.{longest_book}
use Rattle.shown.specs.Shown.{too_long, sheet_refused, book-said}
use Rattle.shown.proofs.Laws.{made_named, made_small, made_within, made_wrong, refusal_short}
use Rattle.shown.proofs.add_show.Goals as goal

-- what making it says, and that the book is within its buffer
makes_longest : {sheet bytes : List ℕ} {room : ℕ} {answer : Written} → room ≡ longest_book → Makes sheet room (out answer bytes) → Makes sheet longest_book (out answer bytes)
makes_longest is made = rw is at made

within : {sheet bytes : List ℕ} {room : ℕ} {answer : Written}
    → room ≡ longest_book
    → length bytes ≡ room
    → Makes sheet room (out answer bytes)
    → answer.number ≡ DONE
    → answer.size ≤ length bytes
within is same made done = rw (same, is) (made_within _ (makes_longest is made) done)

pub returns-then-sheet-gt-SHEET_ROOM : goal.returns-then-sheet-gt-SHEET_ROOM
returns-then-sheet-gt-SHEET_ROOM c =
    record { bytes = _; shows = too_long c.if-sheet-gt-SHEET_ROOM.true; short = omega arith; added = c.add.ensures }

pub add_line-requires : goal.add_line-requires
add_line-requires c = made_wrong _ (makes_longest c.requires.bytes c.make-made.ensures)

pub returns-then-made-ne-DONE : goal.returns-then-made-ne-DONE
returns-then-made-ne-DONE c =
    let short = c.if-sheet-gt-SHEET_ROOM.false in
    let makes = makes_longest c.requires.bytes c.make-made.ensures in
    record {
      bytes = _;
      shows = sheet_refused short makes c.if-made-ne-DONE.true;
      short = refusal_short c.args.sheet.now short _ _ (made_small _ makes);
      added = c.add_line.ensures;
    }

pub slice_bounds-add_book-end : goal.slice_bounds-add_book-end
slice_bounds-add_book-end c = within c.requires.bytes c.make-made.auto.book c.make-made.ensures c.if-made-ne-DONE.false

pub slice_bounds-add_book-end-2 : goal.slice_bounds-add_book-end-2
slice_bounds-add_book-end-2 c =
    sym (length-take-le _ _ (within c.requires.bytes c.make-made.auto.book c.make-made.ensures c.if-made-ne-DONE.false))

pub add_book-requires : goal.add_book-requires
add_book-requires c =
    record {
      short = c.if-sheet-gt-SHEET_ROOM.false;
      formed = made_named _ (makes_longest c.requires.bytes c.make-made.ensures) c.if-made-ne-DONE.false;
      cells = c.requires.cells;
    }

pub returns : goal.returns
returns c =
    let said = c.add_book.ensures in
    record {
      bytes = _;
      shows = book-said c.if-sheet-gt-SHEET_ROOM.false (makes_longest c.requires.bytes c.make-made.ensures) c.if-made-ne-DONE.false said.compiled said.placed;
      short = said.short;
      added = said.told;
    }
