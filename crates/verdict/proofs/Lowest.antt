-- The lowest node that is not reachable, where marks have the reachable nodes of a book.
use Prim.Native.Nat.{ℕ, ◌<◌}
use mathlib.Core.Path.{◌≡◌, sym, ◌∙◌}
use mathlib.Core.Bool.{Bool, true, false, true≢false}
use mathlib.Core.List.{List}
use native.Mathlib.Omega.{arith}
use Rattle.book.specs.Form.{DONE, form_of, book_of}
use Rattle.grammar.specs.Passing.{AllReached}
use Rattle.rules.specs.Facts.{marked?, IsMarked, AllMarked, Reached}
use Rattle.rules.proofs.Spreading.{marked_is}
use Rattle.verdict.specs.Judges.{UNUSED, judgement, Judges, unused}

module _ (bytes : List ℕ) {marks : List ℕ} (reached : Reached (book_of bytes).node (book_of bytes).start (book_of bytes).count marks) where
  -- where all nodes are marked, all are reachable
  pub reached_all : AllMarked marks (book_of bytes).count → AllReached (book_of bytes)
  reached_all all n below = (reached.reach_is n below).0 (all n below)

  -- 22: the lowest node that is not marked
  pub answered_unused : {n : ℕ} → (form_of bytes).number ≡ DONE → n < (book_of bytes).count → ((m : ℕ) → m < n → IsMarked marks m)
      → marked? marks n ≡ false → Judges bytes (judgement UNUSED n 0 0)
  answered_unused {n} form below before unmarked =
      unused {n = n} form below (λ m l. (reached.reach_is m (omega arith)).0 (before m l))
      (λ here. true≢false (sym ((marked_is _ _).1 ((reached.reach_is n below).1 here)) ∙ unmarked))

-- a node is marked, by its mark
pub marked_here : {marks : List ℕ} {n : ℕ} {marked : Bool} → marked ≡ marked? marks n → marked ≡ true → IsMarked marks n
marked_here is here = (marked_is _ _).0 (sym is ∙ here)
