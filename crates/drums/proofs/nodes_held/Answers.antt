-- `drums::nodes_held` meets its contract: the node of each slot is tested.
use mathlib.Core.Bool.{Bool, true, false}
use mathlib.Core.Path.{◌≡◌, sym, ◌∙◌}
use Prim.Native.Nat.{ℕ}
use borrow.Author.Rules.{rules}
use borrow.Author.Tests.{tests}
use lib.Dec.{ltb}
use lib.ListN.{take}
use lib.Seq.{length-take-le, get_or-take}
use Rattle.std.proofs.lemmas.Iterator.{cases_from_all, YieldsList-from_slice}
use Rattle.reader.specs.Machine.{node_in}
use Rattle.drums.specs.Drums.{nodes_held}
use Rattle.drums.proofs.Tests.{every_by, nodes_hold}
use Rattle.drums.proofs.nodes_held.Goals as goal
use Rattle.drums.proofs.nodes_held.Goals.{After-all}

abbrev Tested : ℕ → Bool → ℕ → Type 0
Tested nodes test slot = ltb (node_in slot) nodes ≡ test

all-held : (c : After-all) → c.all.result ≡ nodes_held c.args.nodes c.args.slots.now c.args.held
unfolding nodes_held
all-held c =
    let a = c.args in
    every_by _ (take a.held a.slots.now) c.all.result (Tested a.nodes true) (Tested a.nodes false)
    (sym (length-take-le a.held a.slots.now c.requires)) (λ i below is. rw (get_or-take a.held a.slots.now i 0 below) at is)
    (λ i below is. rw (get_or-take a.held a.slots.now i 0 below) at is)
    (cases_from_all _ _ _ (Tested a.nodes true) (Tested a.nodes false) c.all.ensures.ran (YieldsList-from_slice _ c.iter.ensures.rest)
    (λ x q k. search (rules, tests)) (λ x q k. search (rules, tests)))

pub returns : goal.returns
returns c =
    let held = all-held (goal.at.returns c).After-all in
    (held, λ all. nodes_hold _ c.requires (λ i under. (c.type_inv.slots i).fits) (sym held ∙ all))
