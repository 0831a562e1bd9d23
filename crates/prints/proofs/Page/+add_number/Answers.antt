-- `prints::Page::add_number` meets its contract: the digits before the last are those of a tenth of the number.
use native.Mathlib.Omega.{arith}
use Rattle.prints.proofs.Digits.{digits_one, digits_more}
use Rattle.prints.proofs.Laws.{added_then}
use Rattle.prints.proofs.Page.+add_number.Goals as goal
use Rattle.prints.proofs.Page.+add_number.Goals.{then-value-ge10, else-value-ge10}

pub returns : goal.returns
returns t c =
    elim c.if-value-ge10.branch [
      | then-value-ge10 w ↦
          rw (digits_more c.args.value w.if-value-ge10.true)
          (added_then w.add_number.ensures (rw w.self-is at c.add.ensures))
      | else-value-ge10 w ↦
          rw (digits_one c.args.value (omega (arith, w.if-value-ge10.false))) (rw w.self-is at c.add.ensures)
    ]
