-- `moves::write_forward` meets its contract: the form's refusal, then the house list's, then the book with names.
use native.Mathlib.Omega.{arith}
use Rattle.words.proofs.Bytes.{below_each}
use Rattle.moves.specs.Moves.{forward_of}
use Rattle.moves.proofs.Answers.{moved_on, form_stands}
use Rattle.moves.proofs.write_forward.Goals as goal

pub returns-in_err-book : goal.returns-in_err-book
unfolding forward_of
returns-in_err-book c = moved_on _ _ _ _ (form_stands _ _ c.args.house.now _ _ _ c.in_err-book.ensures) c.from_residual.ensures

pub write_book-requires : goal.write_book-requires
write_book-requires c = (
  rw c.in_ok-book.ensures.0 (below_each _ (λ i. (c.type_inv.bytes i).fits)),
  omega (arith, c.count.ensures.few, c.first_names-names.ensures.1),
  omega (arith, c.count.ensures.count),
)
