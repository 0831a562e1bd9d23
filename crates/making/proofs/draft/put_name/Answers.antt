-- `making::draft::put_name` meets its contract: a size and a copied name are a run of stores.
use mathlib.Core.Path.{ap, ◌∙◌}
use native.Mathlib.Numerals.{add-one}
use Prim.Native.Nat.{◌+◌}
use lib.ListN.{length, set}
use lib.Seq.{sets, take-length}
use Rattle.making.proofs.draft.put_name.Goals as goal

pub returns : goal.returns
returns c =
    let args = c.args in
    c.copy_bytes.ensures
    ∙ ap (sets (set args.book.now args.at (length args.name.now)) (args.at + 1)) (take-length args.name.now)
    ∙ rw add-one
