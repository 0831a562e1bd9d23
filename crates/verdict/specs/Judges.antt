-- What judging a book comes to: numbers 0 to 6, 19 and 22, each with what must not have held before it.
use Rattle.std.specs.Prelude.{ℕ, ◌^◌, ◌≤◌, ◌<◌, ◌≡◌, ◌↔◌, ◌≢◌, List}
use Rattle.kinds.specs.Kinds.{Has}
use Rattle.book.specs.declared.Node.{Node}
use Rattle.book.specs.declared.Node.TheVariants.{Either, Then}
use Rattle.book.specs.Book.{Book}
use Rattle.book.specs.Form.{DONE, form_of, book_of}
use Rattle.grammar.specs.Rules.{Nullable, First, Snf, Conflict, Reach}
use Rattle.grammar.specs.Passing.{ReachedBelow, AllReached, Fruitful, NoConflict}
use Rattle.verdict.specs.declared.Verdict.{Verdict}

-- the answers' numbers, after those of a book's form
abbrev pub BARREN : ℕ
BARREN = 5

abbrev pub CONFLICT : ℕ
CONFLICT = 6

abbrev pub UNUSED : ℕ
UNUSED = 22

-- the kinds that clash at a node: at an either those in both FIRST sets, at a then those in SNF(left) and FIRST(right)
pub data Clashing (node : ℕ → Node) : Node → ℕ → Type 0 where
  in_both_first : {l r k : ℕ} → First node (node l) k → First node (node r) k → Clashing node (Either l r) k
  in_snf_and_first : {l r k : ℕ} → Snf node (node l) k → First node (node r) k → Clashing node (Then l r) k

-- both sides of an either are nullable
pub data BothNullable (node : ℕ → Node) : Node → Type 0 where
  both_nullable : {l r : ℕ} → Nullable node (node l) → Nullable node (node r) → BothNullable node (Either l r)

-- what is told of a conflict: the set of all kinds that clash at the node, and 1 if both sides are nullable, else 0
pub record Told (node : ℕ → Node) (at : Node) (both clash : ℕ) : Type 0 where
  pub clash_fits : clash < 2 ^ 64
  pub clash_is : (k : ℕ) → Has clash k ↔ Clashing node at k
  pub flag : both ≤ 1
  pub flag_is : (both ≡ 1) ↔ BothNullable node at

-- no node below a number has a conflict
abbrev pub NoConflictBelow : Book → ℕ → Type 0
NoConflictBelow book n = (m : ℕ) → m < n → Conflict book.node (book.node m) → ⊥

-- a verdict: number, place, and of a conflict the flag and the set
abbrev pub judgement : ℕ → ℕ → ℕ → ℕ → Verdict
judgement number place both clash = record { number = number; place = place; both = both; clash = clash }

-- what judging bytes as a book answers
pub data Judges (bytes : List ℕ) : Verdict → Type 0 where
  malformed : (form_of bytes).number ≢ DONE → Judges bytes (judgement (form_of bytes).number (form_of bytes).place 0 0)
  unused : {n : ℕ}
      → (form_of bytes).number ≡ DONE
      → n < (book_of bytes).count
      → ReachedBelow (book_of bytes) n
      → (Reach (book_of bytes).node (book_of bytes).start n → ⊥)
      → Judges bytes (judgement UNUSED n 0 0)
  barren : (form_of bytes).number ≡ DONE
      → AllReached (book_of bytes)
      → (Fruitful (book_of bytes) → ⊥)
      → Judges bytes (judgement BARREN (book_of bytes).start 0 0)
  conflict : {n both clash : ℕ}
      → (form_of bytes).number ≡ DONE
      → AllReached (book_of bytes)
      → Fruitful (book_of bytes)
      → NoConflictBelow (book_of bytes) n
      → Conflict (book_of bytes).node ((book_of bytes).node n)
      → Told (book_of bytes).node ((book_of bytes).node n) both clash
      → Judges bytes (judgement CONFLICT n both clash)
  passes : (form_of bytes).number ≡ DONE
      → AllReached (book_of bytes)
      → Fruitful (book_of bytes)
      → NoConflict (book_of bytes)
      → Judges bytes (judgement DONE 0 0 0)
