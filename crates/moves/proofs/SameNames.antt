-- Names that are the same, by their bytes: a book's names and the first of the house list.
use mathlib.Core.Path.{◌≡◌, refl, sym, ap, subst, ◌∙◌}
use mathlib.Core.Bool.{Bool, true, false, not}
use mathlib.Core.List.{List, [], ◌∷◌, ◌++◌, append-nil}
use Prim.Native.Nat.{ℕ, ◌-◌}
use native.Mathlib.Omega.{arith}
use lib.ListN.{length, take, drop, length-drop}
use lib.Seq.{take_at, drop_at, take_all, drop-length}
use lib.Dec.{eqb}
use Rattle.std.specs.Cmp.Lexicographic.{pointwise}
use Rattle.words.specs.Lists.{same}
use Rattle.words.proofs.Same.{same_is, is_same, same_told}
use Rattle.words.proofs.Tests.{both, joined, never, fails}
use Rattle.names.specs.Names.{names_bytes}
use Rattle.names.proofs.Standing.{names_stand, names_end, names_all}
use Rattle.book.specs.Form.{DONE, named, names_at, kinds_of, form_of, book_of, book_names}
use Rattle.book.proofs.Decoded.{formed}
use Rattle.moves.specs.Moves.{house_names, same_names}

-- lists of names that are the same are equal, and equal lists are the same
pub same_names_are : (xs ys : List (List ℕ)) → same_names xs ys ≡ true → xs ≡ ys
unfolding same_names
same_names_are [] [] test = refl
same_names_are [] (y ∷ ys) test = never test
same_names_are (x ∷ xs) [] test = never test
same_names_are (x ∷ xs) (y ∷ ys) test =
    let (one, others) = both (same x y) _ test in
    λ i. same_is x y one i ∷ same_names_are xs ys others i

pub are_same_names : (xs : List (List ℕ)) → same_names xs xs ≡ true
unfolding same_names
are_same_names [] = refl
are_same_names (x ∷ xs) = joined _ _ (is_same x) (are_same_names xs)

-- names with the same bytes are equal
pub names_by_bytes : (xs ys : List (List ℕ)) → names_bytes xs ≡ names_bytes ys → xs ≡ ys
unfolding names_bytes
names_by_bytes [] [] is = refl
names_by_bytes [] (y ∷ ys) is = let clash : ◌≡◌ {A = ℕ} 0 1 = cc in absurd (omega arith)
names_by_bytes (x ∷ xs) [] is = let clash : ◌≡◌ {A = ℕ} 0 1 = cc in absurd (omega arith)
names_by_bytes (x ∷ xs) (y ∷ ys) is = λ i. name_is i ∷ names_by_bytes xs ys more_are i
  where
    sizes : length x ≡ length y
    sizes = cc

    rest : x ++ names_bytes xs ≡ y ++ names_bytes ys
    rest = cc

    name_is : x ≡ y
    name_is = sym (take_at x (names_bytes xs) (length x) refl) ∙ ap (take (length x)) rest ∙ take_at y (names_bytes ys) (length x) (sym sizes)

    more_are : names_bytes xs ≡ names_bytes ys
    more_are =
        sym (drop_at x (names_bytes xs) (length x) refl) ∙ ap (drop (length x)) rest ∙ drop_at y (names_bytes ys) (length x) (sym sizes)

-- tests that hold together are equal
tests_agree : (a b : Bool) → (a ≡ true → b ≡ true) → (b ≡ true → a ≡ true) → a ≡ b
tests_agree true b forth back = sym (forth refl)
tests_agree false b forth back = sym (fails b (λ is. never (back is)))

-- names are the same if their bytes are
bytes_tell : (xs ys : List (List ℕ)) → same (names_bytes xs) (names_bytes ys) ≡ same_names xs ys
bytes_tell xs ys =
    tests_agree _ _
    (λ test. subst (λ l. same_names xs l ≡ true) (names_by_bytes xs ys (same_is _ _ test)) (are_same_names xs))
    (λ test. subst (λ l. same (names_bytes xs) (names_bytes l) ≡ true) (same_names_are xs ys test) (is_same (names_bytes xs)))

module _ (bytes : List ℕ) (done : (form_of bytes).number ≡ DONE) (has : named bytes ≡ true) where
  -- the names of a book are all that stands behind its nodes
  pub names_behind : drop (names_at bytes) bytes ≡ names_bytes (book_names bytes)
  names_behind =
      let good = (formed bytes done).names_good_lem has in
      names_all bytes (names_at bytes) (names_stand bytes (names_at bytes) (kinds_of bytes) good)
      ∙ rw (names_end bytes (names_at bytes) (kinds_of bytes) good, drop-length) (append-nil _)

  -- what comparing what stands there with the first names of the house list says
  pub others_told : (house : List ℕ) {from : ℕ} {others : List ℕ} {test : Bool} → from ≡ names_at bytes
      → others ≡ names_bytes (house_names house (book_of bytes).kinds)
      → test ≡ not (pointwise eqb (take (length bytes - from) (drop from bytes)) others)
      → test ≡ not (same_names (book_names bytes) (house_names house (book_of bytes).kinds))
  others_told house {from} from_is others-are is =
      is
      ∙ ap not
      ((λ i. pointwise eqb (behind i) (others-are i)) ∙ same_told _ _ refl
      ∙ bytes_tell (book_names bytes) (house_names house (book_of bytes).kinds))
    where
      behind : take (length bytes - from) (drop from bytes) ≡ names_bytes (book_names bytes)
      behind = take_all (length bytes - from) (drop from bytes) (omega (arith, length-drop from bytes)) ∙ ap (λ (n : ℕ). drop n bytes) from_is ∙ names_behind
