-- `rules::all_marked` meets its contract: the test of a mark holds of each number of the range.
use borrow.Author.Rules.{rules}
use mathlib.Core.Path.{◌≡◌, refl}
use mathlib.Core.Bool.{true}
use native.Mathlib.Omega.{arith}
use lib.ListN.{get_or}
use Rattle.std.specs.List.{range_with_len}
use Rattle.std.specs.Bool.{⊤}
use Rattle.std.proofs.lemmas.Iterator.{cases_from_all, YieldsList-from_range}
use Rattle.std.proofs.lemmas.List.FromFn.{length-range_with_len, get_or-range_with_len}
use Rattle.rules.specs.Facts.{marked?}
use Rattle.rules.proofs.Spreading.{marked_is}
use Rattle.rules.proofs.all_marked.Goals as goal

pub returns : goal.returns
returns c all n below =
    let cases =
    cases_from_all _ _ _ (λ m. marked? c.args.marks.now m ≡ true) (λ m. ⊤) c.all.ensures.ran
    (YieldsList-from_range 0 c.args.count c.args.count refl (omega arith)) (λ x q k. search rules) (λ x q k. search rules) in
    let each = rw all at cases in
    let own : get_or (range_with_len 0 c.args.count) n 0 ≡ n = omega (arith, get_or-range_with_len 0 c.args.count n 0 below) in
    let marked = each n 0 (omega arith) (omega (arith, below, length-range_with_len 0 c.args.count)) in
    (marked_is _ _).0 (rw own at marked)
