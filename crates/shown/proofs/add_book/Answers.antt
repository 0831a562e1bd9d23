-- `shown::add_book` meets its contract: both texts have room.
use Rattle.prints.proofs.Laws.{added_then}
use Rattle.shown.specs.Shown.{book_text}
use Rattle.shown.proofs.Laws.{small_answer, text_short}
use Rattle.shown.proofs.add_book.Goals as goal

pub returns : goal.returns
unfolding book_text
returns c =
    let named = c.requires.formed in
    let small = small_answer named.form c.compile-answer.ensures in
    record {
      answer = c.compile-answer.result;
      plan = c.compile-answer.new.plan;
      from = c.place-from.result;
      compiled = rw c.requires.cells at c.compile-answer.ensures;
      placed = c.place-from.ensures;
      short = text_short c.args.sheet.now c.requires.short c.compile-answer.result c.place-from.result.place named small;
      told = added_then (rw c.new-book.ensures at c.add_lines.ensures) (rw c.new-book.ensures at c.add_lines-2.ensures);
    }
