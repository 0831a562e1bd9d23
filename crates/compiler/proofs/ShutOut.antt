-- What compiling comes to shuts out a compiler that refuses all books, one that passes all, and one that writes no plan.
use Prim.Native.Nat.{ℕ, zero, suc, ◌-◌, ◌≤◌}
use native.Mathlib.Omega.{arith}
use borrow.Author.Tests.{le-ltb}
use lib.ListN.{get_or}
use mathlib.Core.Path.{◌≡◌, refl, sym, ◌∙◌, ap}
use mathlib.Core.Logic.{◌≢◌}
use mathlib.Core.List.{List, [], ◌∷◌, ◌++◌}
use Rattle.words.specs.Words.{u16_at, word_bytes, zeros}
use Rattle.words.specs.Lists.{first_bad}
use Rattle.book.specs.Decode.{nodes, node_at, node_good}
use Rattle.book.specs.Book.{Book}
use Rattle.book.specs.Form.{DONE, named, settings_at, count_of, form_of, book_of}
use Rattle.grammar.specs.Rules.{p_empty, r_start}
use Rattle.rules.proofs.Growing.{blank-zeros}
use Rattle.running.specs.Cells.{Marks}
use Rattle.writer.specs.Bytes.{plan_bytes, plan_contents}
use Rattle.compiler.specs.declared.Compiled.{Compiled}
use Rattle.grammar.specs.Passing.{AllReached, Fruitful, NoConflict}
use Rattle.compiler.specs.Compiles.{Compiles, size_of}
use Rattle.compiler.proofs.Promise.{passed, passed_passes, passes_exactly}

-- a book of one node of a type with no fields, over one kind
abbrev lone : ℕ → List ℕ
lone type = 2 ∷ 0 ∷ 1 ∷ 0 ∷ 14 ∷ 0 ∷ 4 ∷ 0 ∷ 2 ∷ 0 ∷ 18 ∷ 0 ∷ 6 ∷ 0 ∷ 1 ∷ 0 ∷ 0 ∷ 0 ∷ type ∷ 0 ∷ 0 ∷ 0 ∷ 0 ∷ 0 ∷ []

empty_formed : (form_of (lone 1)).number ≡ DONE
unfolding form_of named settings_at count_of u16_at node_good first_bad
empty_formed = refl

fail_formed : (form_of (lone 0)).number ≡ DONE
unfolding form_of named settings_at count_of u16_at node_good first_bad
fail_formed = refl

empty_reached : AllReached (book_of (lone 1))
unfolding book_of named settings_at count_of nodes node_at u16_at
empty_reached zero below = r_start
empty_reached (suc m) below = absurd (omega arith)

empty_fruitful : Fruitful (book_of (lone 1))
unfolding book_of named settings_at count_of nodes node_at u16_at
empty_fruitful = p_empty

empty_no_conflict : NoConflict (book_of (lone 1))
unfolding book_of named settings_at count_of nodes node_at u16_at
empty_no_conflict zero = elim [ ]
empty_no_conflict (suc m) = rw (le-ltb (suc m) 1 (omega arith)) (elim [ ])

fail_barren : Fruitful (book_of (lone 0)) → ⊥
unfolding book_of named settings_at count_of nodes node_at u16_at
fail_barren = elim [ ]

-- a plan begins with the number of its sections
plan_head : (book : Book) (marks : Marks) (rest : List ℕ) → get_or (plan_bytes book marks ++ rest) 0 0 ≡ 4
unfolding plan_bytes plan_contents word_bytes
plan_head book marks rest = refl

module _
    (answers : List ℕ → ℕ → Compiled)
    (plans : List ℕ → ℕ → List ℕ)
    (meets : (bytes : List ℕ) (room : ℕ) → Compiles bytes room (answers bytes room) (plans bytes room)) where
  -- a book of one node that is empty passes
  empty_passes : (answers (lone 1) (size_of (book_of (lone 1)))).number ≡ DONE
  empty_passes =
      (passes_exactly {room = size_of (book_of (lone 1))} (meets _ _) empty_formed (omega arith)).1 (empty_reached, empty_fruitful, empty_no_conflict)

  -- a compiler does not refuse every well-formed book with room enough
  pub not_all-refused :
      ((bytes : List ℕ) (room : ℕ) → (form_of bytes).number ≡ DONE → size_of (book_of bytes) ≤ room → (answers bytes room).number ≢ DONE) → ⊥
  not_all-refused refuses = refuses (lone 1) (size_of (book_of (lone 1))) empty_formed (omega arith) empty_passes

  -- nor passes every well-formed book with room enough
  pub not_all_passed :
      ((bytes : List ℕ) (room : ℕ) → (form_of bytes).number ≡ DONE → size_of (book_of bytes) ≤ room → (answers bytes room).number ≡ DONE) → ⊥
  not_all_passed passes =
      fail_barren (passed_passes (meets _ _) (passes (lone 0) (size_of (book_of (lone 0))) fail_formed (omega arith))).productive

  -- nor leaves the plan buffer clear for every book
  pub not_all_clear : ((bytes : List ℕ) (room : ℕ) → plans bytes room ≡ zeros room) → ⊥
  not_all_clear clear =
      let room = size_of (book_of (lone 1)) in
      let here = passed (meets (lone 1) room) empty_passes in
      let head = ap (λ p. get_or p 0 0) (sym here.plan_is ∙ clear (lone 1) room) in
      absurd (omega (arith, head, plan_head (book_of (lone 1)) here.marks (zeros (room - room)), (blank-zeros room).zeros 0))
