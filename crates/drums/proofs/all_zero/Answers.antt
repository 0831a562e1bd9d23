-- `drums::all_zero` meets its contract: each slot is tested.
use mathlib.Core.Bool.{Bool, true, false}
use mathlib.Core.Path.{◌≡◌, refl}
use Prim.Native.Nat.{ℕ}
use borrow.Author.Rules.{rules}
use borrow.Author.Tests.{tests}
use lib.Dec.{eqb}
use Rattle.std.proofs.lemmas.Iterator.{cases_from_all, YieldsList-from_slice}
use Rattle.drums.proofs.Tests.{every_by}
use Rattle.drums.proofs.all_zero.Goals as goal

abbrev Tested : Bool → ℕ → Type 0
Tested test slot = eqb slot 0 ≡ test

pub returns : goal.returns
returns c =
    every_by _ c.args.slots.now c.all.result (Tested true) (Tested false) refl (λ i below is. is) (λ i below is. is)
    (cases_from_all _ _ _ (Tested true) (Tested false) c.all.ensures.ran (YieldsList-from_slice _ c.iter.ensures.rest)
    (λ x q k. search (rules, tests)) (λ x q k. search (rules, tests)))
