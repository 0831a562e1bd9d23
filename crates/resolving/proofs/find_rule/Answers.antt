-- `resolving::find_rule` meets its contract.
use borrow.Author.Rules.{rules}
use mathlib.Core.Path.{◌≡◌}
use mathlib.Core.Bool.{true, false}
use Rattle.std.proofs.lemmas.Iterator.{IsFirst-from_position, YieldsList-from_slice}
use Rattle.sheets.specs.Text.{same}
use Rattle.resolving.specs.Letters.{word_at}
use Rattle.resolving.proofs.Words.{found_by}
use Rattle.resolving.proofs.find_rule.Goals as goal

pub returns : goal.returns
returns c =
    let w = c.args.word.now in
    found_by w (λ row. word_at c.args.text.now row.name) c.args.rows.now _
    (IsFirst-from_position _ _ _ (λ row. same w (word_at c.args.text.now row.name) ≡ true)
    (λ row. same w (word_at c.args.text.now row.name) ≡ false) c.position.ensures.ran
    (YieldsList-from_slice c.args.rows.now cc) (λ x q k. search rules) (λ x q k. search rules))
