-- Lists of values and of lists: their lengths and elements.
use mathlib.Core.Path.{◌≡◌, refl, sym, ap, ◌∙◌}
use mathlib.Core.List.{List, ◌++◌}
use Prim.Native.Nat.{ℕ, zero, suc, ◌+◌, ◌*◌, ◌<◌}
use native.Mathlib.Nat.{zero-mul, suc-mul}
use native.Mathlib.Omega.{arith}
use lib.ListN.{length, get_or, length-append, get_or-append}
use lib.Seq.{get_or-append-add}
use Rattle.words.specs.Lists.{values_from, lists_from}

-- an element of the second of two lists, by its place in both
pub get_d_second : (xs ys : List ℕ) (place i : ℕ) → place ≡ length xs + i → get_or (xs ++ ys) place 0 ≡ get_or ys i 0
get_d_second xs ys place i is = rw is (get_or-append-add xs ys i 0)

module _ (value : ℕ → ℕ) where
  pub length_values : (left n : ℕ) → length (values_from value left n) ≡ left
  unfolding values_from
  length_values zero n = refl
  length_values (suc left) n = ap suc (length_values left (suc n))

  pub get_d_values : (left n i : ℕ) → i < left → get_or (values_from value left n) i 0 ≡ value (n + i)
  unfolding values_from
  get_d_values zero n i below = absurd (omega arith)
  get_d_values (suc left) n zero below = ap value (omega arith)
  get_d_values (suc left) n (suc i) below = get_d_values left (suc n) i (omega arith) ∙ ap value (omega arith)

module _ (list : ℕ → List ℕ) (width : ℕ) (wide : (n : ℕ) → length (list n) ≡ width) where
  pub length_lists : (left n : ℕ) → length (lists_from list left n) ≡ left * width
  unfolding lists_from
  length_lists zero n = sym (zero-mul width)
  length_lists (suc left) n =
      length-append (list n) _ ∙ omega (arith, wide n, length_lists left (suc n), suc-mul left width)

  pub get_d_lists : (left n i j : ℕ) → i < left → j < width → get_or (lists_from list left n) (i * width + j) 0 ≡ get_or (list (n + i)) j 0
  unfolding lists_from
  get_d_lists zero n i j below within = absurd (omega arith)
  get_d_lists (suc left) n zero j below within =
      rw (place, same) (get_or-append (list n) _ 0 j (omega (arith, wide n)))
    where
      place : 0 * width + j ≡ j
      place = omega (arith, zero-mul width)

      same : n + 0 ≡ n
      same = omega arith
  get_d_lists (suc left) n (suc i) j below within =
      get_d_second (list n) _ _ (i * width + j) (omega (arith, wide n, suc-mul i width))
      ∙ get_d_lists left (suc n) i j (omega arith) within
      ∙ ap (λ (m : ℕ). get_or (list m) j 0) (omega arith)
