-- What a drum has as due is the least number of events that makes its run lawful, cut.
use Prim.Native.Nat.{ℕ, ◌≤◌, ◌<◌}
use native.Mathlib.Decide.{dec_le}
use native.Mathlib.Omega.{arith}
use mathlib.Core.Path.{◌≡◌, sym, ◌∙◌}
use mathlib.Core.List.{List, [], ◌∷◌, ◌++◌}
use lib.ListN.{length}
use Rattle.book.specs.Book.{Book}
use Rattle.grammar.specs.Derivations.{Lawful}
use Rattle.grammar.specs.Passing.{Passes}
use Rattle.running.specs.Stages.{nodes_of}
use Rattle.running.specs.Cells.{Marks, Marked, plan_for}
use Rattle.running.proofs.Agrees.{Agree, Below}
use Rattle.plan.specs.Form.{plan_from, plan_of, plan_count}
use Rattle.drums.specs.declared.Drum.{Drum}
use Rattle.drums.specs.Drums.{drum_slots, most_due, parts_of}
use Rattle.drumming.specs.Drumming.{Usable, Stands}
use Rattle.drumming.proofs.Alike.{stack_below}
use Rattle.drumming.proofs.Under.{unknown_stops}
use Rattle.drumming.proofs.Drumming.{stands_under}
use Rattle.meaning.proofs.Parts.{held_derives, derives_held}
use Rattle.meaning.proofs.Next.{Behind}
use Rattle.finishing.specs.Finishing.{StillDue}
use Rattle.finishing.proofs.Sums.{sum_of, due_sum, held_longer, held_short, sum-cut}
use Rattle.finishing.proofs.Behind.{parts_behind}

module _ {b : Book} {marks : Marks} (marked : Marked b.node marks) {run parts : List ℕ}
    (there : Behind b.node (b.start ∷ []) run parts) where
  -- parts held behind a run
  behind_due : StillDue b run (sum_of marks.due parts)
  behind_due = record {
    none_fewer = longer;
    as_few = short;
    cut = λ none.
        elim (dec_le most_due (sum_of marks.due parts)) [
          | yes high ↦ omega (arith, high, sum-cut marks.due parts)
          | no low ↦ let (more, lawful, long) = short (omega arith) in absurd (omega (arith, low, long, none more lawful))
        ];
  }
    where
      longer : (more : List ℕ) → Lawful b (run ++ more) → sum_of marks.due parts ≤ length more
      longer more lawful = held_longer marked.due_is (there.complete more _ (derives_held lawful)).1

      short : sum_of marks.due parts < most_due → (more : List ℕ) × Lawful b (run ++ more) × (length more ≡ sum_of marks.due parts)
      short low =
          let (more, records, held, long) = held_short marked.due_is parts low in
          (more, (held_derives (there.sound more records held).1).0, long)

-- a drum that stands after a run, by a plan that is a passed book's
pub still_due : {b : Book} → Passes b → {marks : Marks} → Marked b.node marks → {plan : List ℕ} {number : ℕ} → Usable plan number
    → Agree (plan_for b marks) (plan_of plan) → ((n : ℕ) → n < (plan_of plan).count → (plan_of plan).due n ≡ marks.due n)
    → {run : List ℕ} {d : Drum} → Stands plan number run d → StillDue b run d.due
unfolding plan_from
still_due passes {marks} marked {plan} usable agree dues {run} {d} stands =
    let w = stands_under usable stands in
    let below : Below (plan_count plan) (nodes_of (parts_of d)) = stack_below d.slots d.held (λ i small. w.hold.below i small) in
    rw (w.due_is ∙ due_sum (plan_of plan) dues (parts_of d) below)
    (behind_due marked (parts_behind passes marked agree drum_slots (plan_of plan).kinds run (unknown_stops plan usable w)))

-- no other number is still due
pub due_once : {b : Book} {run : List ℕ} {m n : ℕ} → StillDue b run m → StillDue b run n → m ≡ n
due_once {b} {run} {m} one other =
    elim (dec_le most_due m) [
      | yes high ↦ one.cut (far high) ∙ sym (other.cut (far high))
      | no low ↦
          let (more, lawful, long) = one.as_few (omega arith) in
          let less = other.none_fewer more lawful in
          let (most, also, wide) = other.as_few (omega (arith, less, long, low)) in
          omega (arith, less, long, wide, one.none_fewer most also)
    ]
  where
    far : most_due ≤ m → (more : List ℕ) → Lawful b (run ++ more) → most_due ≤ length more
    far high more lawful = omega (arith, high, one.none_fewer more lawful)
