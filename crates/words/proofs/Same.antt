-- Lists that are the same, and the elements of a part of a list.
use mathlib.Core.Path.{◌≡◌, refl, sym, ap, ◌∙◌}
use mathlib.Core.Bool.{Bool, true, false}
use mathlib.Core.List.{List}
use mathlib.Core.Logic.{◌≢◌}
use Prim.Native.Nat.{ℕ, ◌+◌, ◌-◌, ◌≤◌, ◌<◌}
use native.Mathlib.Omega.{arith}
use borrow.Author.Tests.{eqb-true, eq-eqb}
use lib.Dec.{eqb}
use lib.ListN.{length, get_or, take, drop, length-drop}
use lib.Seq.{length-take-le, get_or-take, get_or-drop, ext_get_or}
use Rattle.std.specs.Bool.{MatchBool}
use Rattle.std.specs.Cmp.Lexicographic.{pointwise, told_text}
use Rattle.words.specs.Lists.{every, part_at, same}
use Rattle.words.proofs.FirstBad.{every_is, every_good, every-same}
use Rattle.words.proofs.Tests.{both, joined, fails}

-- lists that are the same are equal, and equal lists are the same
pub same_is : (xs ys : List ℕ) → same xs ys ≡ true → xs ≡ ys
unfolding same
same_is xs ys test =
    let (long, each) = both (eqb (length xs) (length ys)) _ test in
    ext_get_or 0 xs ys (eqb-true _ _ long) (λ i below. eqb-true _ _ (every_is _ (length xs) each i below))

pub is_same : (xs : List ℕ) → same xs xs ≡ true
unfolding same
is_same xs =
    joined _ _ (eq-eqb (length xs) (length xs) refl)
    (every_good _ (length xs) (λ i below. eq-eqb (get_or xs i 0) (get_or xs i 0) refl))

-- a part that is there: its length and its elements
module _ (list : List ℕ) (at size : ℕ) (within : at + size ≤ length list) where
  pub length_part : length (part_at list at size) ≡ size
  length_part = length-take-le size (drop at list) (simp length-drop (omega arith))

pub get_d_part : (list : List ℕ) (at size i : ℕ) → i < size → get_or (part_at list at size) i 0 ≡ get_or list (at + i) 0
get_d_part list at size i below = get_or-take size (drop at list) i 0 below ∙ get_or-drop at list i 0

-- a part by the places between which it lies
pub part_between : (list : List ℕ) (at size : ℕ) → take (at + size - at) (drop at list) ≡ part_at list at size
part_between list at size = ap (λ (n : ℕ). take n (drop at list)) (omega arith)

-- whether every element of a part passes a test
pub every_in_part : (good : ℕ → Bool) (list : List ℕ) (at size : ℕ) → at + size ≤ length list
    → every (λ i. good (get_or (part_at list at size) i 0)) (length (part_at list at size)) ≡ every (λ i. good (get_or list (at + i) 0)) size
every_in_part good list at size within =
    rw (length_part list at size within) (every-same _ _ size (λ i below. rw (get_d_part list at size i below)))

-- the test `==` of two slices is whether they are the same
pub same_told : (xs ys : List ℕ) {test : Bool} → test ≡ pointwise eqb xs ys → test ≡ same xs ys
same_told xs ys {test} is = go test refl (told_text xs ys test is)
  where
    go : (t : Bool) → test ≡ t → MatchBool t (xs ≡ ys) (xs ≢ ys) → test ≡ same xs ys
    go true held alike = rw alike (held ∙ sym (is_same ys))
    go false failed differ = failed ∙ sym (fails _ (λ alike. differ (same_is xs ys alike)))

-- the test `==` of two parts
pub parts_told : (one : List ℕ) (at : ℕ) (other : List ℕ) (place size : ℕ) {test : Bool}
    → test ≡ pointwise eqb (take (at + size - at) (drop at one)) (take (place + size - place) (drop place other))
    → test ≡ same (part_at one at size) (part_at other place size)
parts_told one at other place size is =
    same_told (part_at one at size) (part_at other place size) (rw (part_between one at size, part_between other place size) at is)
