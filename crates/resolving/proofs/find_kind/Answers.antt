-- `resolving::find_kind` meets its contract.
use borrow.Author.Rules.{rules}
use mathlib.Core.Path.{◌≡◌}
use mathlib.Core.Bool.{true, false}
use Rattle.std.proofs.lemmas.Iterator.{IsFirst-from_position, YieldsList-from_slice}
use Rattle.sheets.specs.Text.{same}
use Rattle.resolving.specs.Letters.{word_at}
use Rattle.resolving.proofs.Words.{found_by}
use Rattle.resolving.proofs.find_kind.Goals as goal

pub returns : goal.returns
returns c =
    let w = c.args.word.now in
    found_by w (λ kind. word_at c.args.text.now kind) c.args.kinds.now _
    (IsFirst-from_position _ _ _ (λ kind. same w (word_at c.args.text.now kind) ≡ true)
    (λ kind. same w (word_at c.args.text.now kind) ≡ false) c.position.ensures.ran
    (YieldsList-from_slice c.args.kinds.now cc) (λ x q k. search rules) (λ x q k. search rules))
