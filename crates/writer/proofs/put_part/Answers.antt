-- `writer::put_part` meets its contract: the copy's, with what a slice of bytes is.
use Rattle.words.proofs.Bytes.{below_each}
use Rattle.writer.proofs.put_part.Goals as goal

pub returns-clause-bytes_below : goal.returns-clause-bytes_below
returns-clause-bytes_below c = below_each _ (λ i. (c.type_inv.bytes i).fits)

pub returns-clause-copied : goal.returns-clause-copied
returns-clause-copied c = c.copy_bytes.ensures
