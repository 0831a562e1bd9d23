-- `names::all_visible` meets its contract: every byte of the part passes.
use mathlib.Core.Path.{◌≡◌, ◌∙◌}
use mathlib.Core.Bool.{true, false}
use borrow.Author.Tests.{tests}
use Rattle.std.proofs.lemmas.Iterator.{cases_from_all, YieldsList-from_slice}
use Rattle.words.proofs.FirstBad.{every_told}
use Rattle.words.proofs.Same.{part_between, every_in_part}
use Rattle.names.specs.Names.{visible}
use borrow.Author.Rules.{rules}
use Prim.Native.Nat.{◌+◌, ◌-◌}
use lib.ListN.{take, drop}
use Rattle.names.proofs.all_visible.Goals as goal

pub returns : goal.returns
returns c =
    every_told visible _
    (cases_from_all _ _ _ (λ x. visible x ≡ true) (λ x. visible x ≡ false) c.all.ensures.ran (YieldsList-from_slice (take (c.args.from + c.args.size - c.args.from) (drop c.args.from c.args.bytes.now)) cc)
    (λ x q k. search (rules, tests)) (λ x q k. search (rules, tests)))
    ∙ rw (part_between c.args.bytes.now c.args.from c.args.size)
    (every_in_part visible c.args.bytes.now c.args.from c.args.size c.requires)
