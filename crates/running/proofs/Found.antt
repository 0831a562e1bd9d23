-- The marks of a well-formed book, found on lists, so that they compute.
use native.Mathlib.Omega.{arith}
use Rattle.book.specs.Book.{Book, WellFormed}
use Rattle.rules.proofs.Marks.{nullable_decided, first_decided}
use Rattle.lengths.specs.Least.{length_at}
use Rattle.lengths.specs.Falling.{smaller}
use Rattle.lengths.proofs.Cutting.{cut_lower}
use Rattle.lengths.proofs.Deciding.{LeastLengths, least_lengths}
use Rattle.running.specs.Cells.{Marks, Marked}

module _ (book : Book) (wf : WellFormed book) where
  unfoldable pub lengths_found : LeastLengths book.node
  lengths_found = least_lengths book.node book.count wf.beyond

  unfoldable pub marks : Marks
  marks =
      record {
        first = λ n k. (first_decided book wf k).test n;
        null = (nullable_decided book wf).test;
        due = λ n. smaller (length_at lengths_found.lengths n) 65535;
      }

  pub marks_are : Marked book.node marks
  unfolding marks
  marks_are =
      record {
        first_is = λ n k. (first_decided book wf k).test_is n;
        null_is = (nullable_decided book wf).test_is;
        due_is = λ n. cut_lower 65535 (omega arith) (lengths_found.are n);
      }
