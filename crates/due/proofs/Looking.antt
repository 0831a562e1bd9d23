-- Looking back under way: what is found from here is what is due.
use Prim.Native.Nat.{ℕ, suc, ◌+◌, ◌-◌, ◌≤◌, ◌<◌}
use native.Mathlib.Omega.{arith}
use mathlib.Core.Path.{◌≡◌, refl, sym, ◌∙◌}
use mathlib.Core.Bool.{Bool, true, false}
use mathlib.Core.List.{List}
use lib.ListN.{get_or}
use borrow.Author.Tests.{le-leb, lt-leb}
use Rattle.book.specs.Book.{Book}
use Rattle.book.specs.declared.Node.{Node}
use Rattle.trees.specs.declared.Due.{Due}
use Rattle.trees.specs.declared.Due.TheVariants.{Nothing, Part}
use Rattle.trees.specs.Trees.{is_emptied}
use Rattle.trees.specs.Back.{found_at, whole_from, found_or, front, back, due_at}
use Rattle.due.proofs.Found.{whole_from_most, found_some, found_none, front-whole}

pub record Looking (b : Book) (records : List ℕ) (from at whole : ℕ) (empty : Bool) : Type 0 where
  pub leads : back b records at whole empty ≡ due_at b records from
  pub few : whole + at ≤ from

pub looking_begun : (b : Book) (records : List ℕ) (from : ℕ) → Looking b records from from 0 false
unfolding due_at
looking_begun b records from = record { leads = refl; few = omega arith }

module _ {b : Book} {records : List ℕ} {from : ℕ} where
  -- over the record before
  module _ {i whole : ℕ} {empty : Bool} (looking : Looking b records from (suc i) whole empty) where
    past-emptied : is_emptied (get_or records i 0) ≡ true → Looking b records from i (whole + 1) true
    unfolding back
    past-emptied is =
        let more : whole + 1 ≡ suc whole = omega arith in
        record {
          leads = rw more (sym (rw is refl) ∙ looking.leads);
          few = omega (arith, looking.few);
        }

    over : is_emptied (get_or records i 0) ≡ false
        → found_or (found_at (b.node (get_or records i 0)) whole empty) (back b records i (whole_from (b.node (get_or records i 0)) whole) false)
        ≡ due_at b records from
    unfolding back
    over is = sym (rw is refl) ∙ looking.leads

    past_node : is_emptied (get_or records i 0) ≡ false → found_at (b.node (get_or records i 0)) whole empty ≡ Nothing
        → Looking b records from i (whole_from (b.node (get_or records i 0)) whole) false
    past_node is none =
        record {
          leads = sym (found_none (found_at (b.node (get_or records i 0)) whole empty) _ none) ∙ over is;
          few = omega (arith, looking.few, whole_from_most (b.node (get_or records i 0)) whole);
        }

    past_found : is_emptied (get_or records i 0) ≡ false → (found_at (b.node (get_or records i 0)) whole empty ≡ Nothing → ⊥)
        → found_at (b.node (get_or records i 0)) whole empty ≡ due_at b records from
    past_found is some = sym (found_some (found_at (b.node (get_or records i 0)) whole empty) _ some) ∙ over is

  one_less : {at whole : ℕ} {empty : Bool} → 0 < at → Looking b records from at whole empty
      → Looking b records from (suc (at - 1)) whole empty
  one_less {at} some looking = let same : suc (at - 1) ≡ at = omega arith in rw same looking

  module _ {at whole : ℕ} {empty : Bool} (some : 0 < at) (looking : Looking b records from at whole empty) {given : ℕ}
      (given-is : given ≡ get_or records (at - 1) 0) where
    pub over_emptied : 32768 ≤ given → Looking b records from (at - 1) (whole + 1) true
    over_emptied is = past-emptied (one_less some looking) (rw given-is at (le-leb _ _ is))

    -- the node of the record, and what is found there
    module _ {top : Node} {found : Due} (less : given < 32768) (node_is : top ≡ b.node given) (found-is : found ≡ found_at top whole empty) where
      a_node : is_emptied (get_or records (at - 1) 0) ≡ false
      a_node = rw given-is at (lt-leb _ _ less)

      pub over_node : {now : ℕ} → found ≡ Nothing → now ≡ whole_from top whole → Looking b records from (at - 1) now false
      over_node none now-is =
          rw (now-is, node_is, given-is) (past_node (one_less some looking) a_node (rw (found-is, node_is, given-is) at none))

      pub found_here : (found ≡ Nothing → ⊥) → found ≡ due_at b records from
      found_here here =
          rw (found-is, node_is, given-is) (past_found (one_less some looking) a_node (rw (found-is, node_is, given-is) at here))

  -- past the front
  module _ {at whole : ℕ} {empty : Bool} (none : at ≤ 0) (looking : Looking b records from at whole empty) where
    at_front : front b.start whole ≡ due_at b records from
    unfolding back
    at_front = let same : at ≡ 0 = omega arith in (rw same at looking).leads

    pub start_due : whole ≡ 0 → Part b.start ≡ due_at b records from
    unfolding front
    start_due is = rw is at at_front

    pub tree_whole : (whole ≡ 0 → ⊥) → Nothing ≡ due_at b records from
    tree_whole is = sym (front-whole b.start whole is) ∙ at_front
