-- `profile::greatest_held` meets its contract: what judging says, or on to the number.
use mathlib.Core.Path.{refl}
use Rattle.rules.proofs.Growing.{blank-zeros}
use Rattle.verdict.proofs.Books.{table-blank}
use Rattle.profile.proofs.Rows.{book_refused}
use Rattle.profile.proofs.greatest_held.Goals as goal

pub judge-requires : goal.judge-requires
judge-requires c = λ good. table-blank _ good

pub returns-in_err-passed : goal.returns-in_err-passed
returns-in_err-passed c =
    book_refused _ _ c.in_err-passed.field-0.0 c.from_residual.ensures.1 c.in_err-passed.ensures.judges

pub of-requires : goal.of-requires
of-requires c = rw c.in_ok-passed.ensures.0 (c.in_ok-passed.ensures.1.known refl)

pub measure-requires : goal.measure-requires
measure-requires c = record { judges = rw (c.of.ensures, c.in_ok-passed.ensures.0) c.in_ok-passed.ensures.1.judges; blank = blank-zeros 512 }

pub returns : goal.returns
returns c = rw (c.of.ensures, c.in_ok-passed.ensures.0) at c.measure.ensures
