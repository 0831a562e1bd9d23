-- `listed::Input::read` meets its contract: each return by the tests that led to it.
use borrow.Author.Tests.{lt-ltb, le-ltb}
use Rattle.listed.specs.Listing.{shape_of, book_size}
use Rattle.listed.proofs.Inputs.{input_parted}
use Rattle.listed.proofs.Input.read.Goals as goal

pub returns-then-input-lt2 : goal.returns-then-input-lt2
unfolding shape_of book_size
returns-then-input-lt2 c = simp (lt-ltb _ _ c.if-input-lt2.true)

pub returns-then-size-gt-LONGEST_BOOK : goal.returns-then-size-gt-LONGEST_BOOK
unfolding shape_of book_size
returns-then-size-gt-LONGEST_BOOK c =
    let size = c.u16_at-size.ensures.0 in
    simp (le-ltb _ _ c.if-input-lt2.false, lt-ltb _ _ (rw size at c.if-size-gt-LONGEST_BOOK.true))

pub returns-then-input-end : goal.returns-then-input-end
unfolding shape_of book_size
returns-then-input-end c =
    let size = c.u16_at-size.ensures.0 in
    simp (
      le-ltb _ _ c.if-input-lt2.false,
      le-ltb _ _ (rw size at c.if-size-gt-LONGEST_BOOK.false),
      lt-ltb _ _ (rw size at c.if-input-end.true),
    )

pub returns-then-end-input : goal.returns-then-end-input
unfolding shape_of book_size
returns-then-end-input c =
    let size = c.u16_at-size.ensures.0 in
    simp (
      le-ltb _ _ c.if-input-lt2.false,
      le-ltb _ _ (rw size at c.if-size-gt-LONGEST_BOOK.false),
      le-ltb _ _ (rw size at c.if-input-end.false),
      lt-ltb _ _ (rw size at c.if-end-input.true),
    )

pub returns : goal.returns
unfolding shape_of book_size
returns c =
    let size = c.u16_at-size.ensures.0 in
    input_parted _ size
    (simp (
      le-ltb _ _ c.if-input-lt2.false,
      le-ltb _ _ (rw size at c.if-size-gt-LONGEST_BOOK.false),
      le-ltb _ _ (rw size at c.if-input-end.false),
      le-ltb _ _ (rw size at c.if-end-input.false),
    ))
