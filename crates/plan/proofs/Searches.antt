-- The first number at which a test fails: what is so of it, and what it is.
use mathlib.Core.Path.{◌≡◌, refl, sym, subst}
use mathlib.Core.Bool.{Bool, true, false, cond}
use Prim.Native.Nat.{ℕ, zero, suc, ◌+◌, ◌≤◌, ◌<◌}
use native.Mathlib.Decide.{ℕ_discrete}
use native.Mathlib.Numerals.{add-one}
use native.Mathlib.Omega.{arith}
use Rattle.words.specs.Lists.{first_bad}
use Rattle.words.proofs.FirstBad.{Searched, searched_none, searched_more, searched_bad}

module _ (good : ℕ → Bool) where
  -- a number, of so many, before which all are good, and which is not good itself
  pub record Found (count bad : ℕ) : Type 0 where
    pub before : (n : ℕ) → n < bad → good n ≡ true
    pub here : bad < count → good bad ≡ false

  -- a search finds such a number
  pub found : (count : ℕ) → Found count (first_bad good count 0)
  unfolding first_bad
  found count =
      let all : 0 + count ≡ count = omega arith in
      subst (λ m. Found m (first_bad good count 0)) all (go count 0 (λ n below. absurd (omega arith)))
    where
      go : (left n : ℕ) → ((m : ℕ) → m < n → good m ≡ true) → Found (n + left) (first_bad good left n)
      go zero n passed = record { before = passed; here = λ below. absurd (omega arith) }
      go (suc left) n passed = by_test (good n) refl (λ more. go left (suc n) more)
        where
          by_test : (b : Bool) → good n ≡ b
              → (((m : ℕ) → m < suc n → good m ≡ true) → Found (suc n + left) (first_bad good left (suc n)))
              → Found (n + suc left) (cond b (first_bad good left (suc n)) n)
          by_test true is rest =
              let next : suc n + left ≡ n + suc left = omega arith in
              subst (λ m. Found m (first_bad good left (suc n))) next
              (rest (λ m below. elim (ℕ_discrete m n) [ yes same ↦ rw same is | no other ↦ passed m (omega arith) ]))
          by_test false is rest = record { before = passed; here = λ below. is }

  module _ (count : ℕ) where
    -- a search comes to a number before which all are good
    searched_to : (n : ℕ) → n ≤ count → ((m : ℕ) → m < n → good m ≡ true) → Searched good count n
    searched_to zero within passed = searched_none good count
    searched_to (suc n) within passed =
        subst (λ m. Searched good count m) (add-one n)
        (searched_more good (searched_to n (omega arith) (λ m below. passed m (omega arith))) (omega arith) (passed n (omega arith)))

    -- a search that finds a number stops at it
    pub first_is : {bad : ℕ} → Found count bad → bad < count → first_bad good count 0 ≡ bad
    first_is {bad} f below = sym (searched_bad good (searched_to bad (omega arith) f.before) below (f.here below))
