-- `moves::body` meets its contract: the settings and the nodes are a part of the book's bytes.
use mathlib.Core.Path.{◌≡◌, ap, ◌∙◌}
use mathlib.Core.List.{List}
use Prim.Native.Nat.{ℕ, ◌+◌, ◌-◌, ◌*◌}
use native.Mathlib.Omega.{arith}
use lib.ListN.{length, take, drop}
use Rattle.words.specs.Words.{word_bytes}
use Rattle.words.proofs.Same.{part_between}
use Rattle.book.specs.Encode.{body_words}
use Rattle.book.specs.Form.{book_of}
use Rattle.book.proofs.Laws.{settings_between}
use Rattle.moves.proofs.Laid.{body_within, body_is, body_size}
use Rattle.moves.proofs.body.Goals as goal
use Rattle.moves.proofs.body.Goals.{After-bytes}

pub overflow_add-result : goal.overflow_add-result
overflow_add-result c = omega (arith, c.settings_at-settings.ensures, settings_between c.args.book.now, c.count.ensures.few)

pub slice_bounds-result-end : goal.slice_bounds-result-end
slice_bounds-result-end c =
    omega (
      arith,
      c.settings_at-settings.ensures,
      c.count.ensures.count,
      body_within c.args.book.now c.count.ensures.form,
      ap (λ (l : List ℕ). length l) c.bytes.ensures,
    )

-- the part that is taken
part : (c : After-bytes)
    → take (c.settings_at-settings.result + (4 + 6 * c.count.result) - c.settings_at-settings.result)
    (drop c.settings_at-settings.result c.bytes.result.now)
    ≡ word_bytes (body_words (book_of c.args.book.now))
part c =
    rw (c.bytes.ensures, c.settings_at-settings.ensures, c.count.ensures.count)
    (part_between c.args.book.now _ _ ∙ body_is c.args.book.now c.count.ensures.form c.requires)

pub returns : goal.returns
returns c =
    let is = part (goal.at.returns c).After-bytes in
    (is, ap length is ∙ body_size c.args.book.now c.count.ensures.form, c.count.ensures.form)
