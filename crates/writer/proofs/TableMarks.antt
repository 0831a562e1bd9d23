-- Marks read off tables that have the facts and the least lengths of a well-formed book are those that the rules and derivations give.
use mathlib.Core.Path.{◌≡◌, refl, subst}
use mathlib.Core.Bool.{Bool, true, false, ◌&&◌, cond}
use mathlib.Core.Logic.{◌↔◌}
use mathlib.Core.List.{List}
use Prim.Native.Nat.{ℕ, ◌^◌, ◌≤◌, ◌<◌}
use native.Mathlib.Omega.{arith}
use borrow.Author.Tests.{lt-ltb, ltb-true, ltb-false}
use lib.Dec.{ltb}
use lib.ListN.{get_or}
use Rattle.words.proofs.Tests.{both, joined}
use Rattle.kinds.specs.Kinds.{Has, has?}
use Rattle.kinds.proofs.Laws.{has?_is}
use Rattle.book.specs.Book.{Book, WellFormed}
use Rattle.book.specs.declared.Node.TheVariants.{Fail}
use Rattle.grammar.specs.Rules.{First, Nullable}
use Rattle.grammar.specs.Derivations.{Derives}
use Rattle.rules.specs.Facts.{Facts}
use Rattle.rules.proofs.Bounds.{named_below}
use Rattle.rules.proofs.Laws.{first_iff}
use Rattle.lengths.specs.Least.{LeastCut, at_cap, length_at, Lengths}
use Rattle.lengths.specs.Falling.{smaller}
use Rattle.lengths.proofs.Cutting.{cut_lower}
use Rattle.running.specs.Cells.{Marked}
use Rattle.writer.specs.Table.{null_set, first_set, marks_of, with_due}

-- a test of a set for a number below a count, for a fact that numbers below the count alone have
guarded : (count n mask k : ℕ) {Fact : Type 0} → (n < count → Has mask k ↔ Fact) → (Fact → n < count)
    → ((ltb n count && has? mask k) ≡ true) ↔ Fact
guarded count n mask k is within = (
  (λ e.
      let (inside, has) = both (ltb n count) (has? mask k) e in
      (is (ltb-true n count inside)).0 ((has?_is mask k).0 has)),
  (λ fact. joined (ltb n count) (has? mask k) (lt-ltb n count (within fact)) ((has?_is mask k).1 ((is (within fact)).1 fact))),
)

-- a length of a table for a number below a count, held, and else 65,535
due_held : (book : Book) (lengths : List ℕ) → WellFormed book → Lengths book.node book.count lengths
    → (n : ℕ) (inside : Bool) → ltb n book.count ≡ inside
    → LeastCut book.node (book.node n) 65535 (cond inside (smaller (length_at lengths n) 65535) 65535)
due_held book lengths wf least n true is = cut_lower 65535 (omega arith) (least.least_is n (ltb-true n book.count is))
due_held book lengths wf least n false is = at_cap (λ run d. absurd (nothing (subst (λ x. Derives book.node x run) (wf.beyond n past) d)))
  where
    past : book.count ≤ n
    past = ltb-false n book.count is

    nothing : {run : List ℕ} → Derives book.node Fail run → ⊥
    nothing = elim [ ]

pub table-marked : (book : Book) {table lengths : List ℕ} → WellFormed book → Facts book.node book.count table
    → Lengths book.node book.count lengths → ((i : ℕ) → get_or table i 0 < 2 ^ 64)
    → Marked book.node (with_due (marks_of table book.count) lengths book.count)
unfolding marks_of with_due
table-marked book {table} {lengths} wf facts least fits =
    record {
      first_is =
          λ n k.
          guarded book.count n (first_set table n) k (λ below. first_iff facts fits wf.few_kinds wf.proper below k)
          (named_below book wf (λ x. First book.node x k) (elim [ ]) n);
      null_is =
          λ n.
          guarded book.count n (null_set table n) 0 (λ below. facts.nullable_is n 0 below (omega arith))
          (named_below book wf (Nullable book.node) (elim [ ]) n);
      due_is = λ n. due_held book lengths wf least n (ltb n book.count) refl;
    }
