-- `sample::sample` meets its contract: the table of facts is blank and long enough for the book.
use Rattle.verdict.proofs.Books.{table-blank}
use Rattle.sample.proofs.sample.Goals as goal

pub sample_by-requires : goal.sample_by-requires
sample_by-requires c = λ good. table-blank _ good
