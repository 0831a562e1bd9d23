-- `sample::sample_by` meets its contract: what judging says, or on to the sample.
use mathlib.Core.Path.{refl}
use Rattle.sample.specs.declared.SampleError.TheVariants.{Judged}
use Rattle.sample.proofs.Answers.{handed_on, book_refused, fresh_any}
use Rattle.sample.proofs.sample_by.Goals as goal

pub returns-in_err-passed : goal.returns-in_err-passed
returns-in_err-passed c =
    handed_on _ _ _ (Judged c.in_err-passed.field-0.0) c.from_residual.ensures.1 (book_refused _ c.in_err-passed.ensures)

pub least_weights-requires : goal.least_weights-requires
least_weights-requires c =
    rw c.in_ok-passed.ensures.0 (fresh_any _ (c.in_ok-passed.ensures.1.known refl).good.form)
