-- Words that are the same, words among words, and their numbers.
use Prim.Native.Nat.{ℕ, zero, suc, ◌+◌, ◌<◌}
use native.Mathlib.Nat.{zero-add}
use native.Mathlib.Omega.{arith}
use mathlib.Core.Path.{◌≡◌, refl, sym, ap, ◌∙◌}
use mathlib.Core.Logic.{◌≢◌, ◌⊎◌, inl, inr}
use mathlib.Core.Bool.{Bool, true, false, ◌||◌, cond}
use mathlib.Core.List.{List, [], ◌∷◌, ◌++◌}
use lib.ListN.{length, get_or}
use lib.Dec.{eqb}
use borrow.Author.Tests.{eqb-true, eq-eqb}
use Rattle.words.proofs.Tests.{never, both, joined, fails, or_cases, or_left, or_right}
use Rattle.sheets.specs.Text.{same}
use Rattle.sheets.specs.Nodes.{among, number_of}

-- neither of two tests holds
pub neither : (a b : Bool) → (a || b) ≡ false → (a ≡ false) × (b ≡ false)
neither true b e = never (sym e)
neither false b e = (refl, e)

pub same_equal : (a b : List ℕ) → same a b ≡ true → a ≡ b
unfolding same
same_equal [] [] e = refl
same_equal [] (y ∷ b) e = never e
same_equal (x ∷ a) [] e = never e
same_equal (x ∷ a) (y ∷ b) e =
    let t = both (eqb x y) (same a b) e in
    let heads = eqb-true x y t.0 in
    let tails = same_equal a b t.1 in
    cc

pub same_self : (a : List ℕ) → same a a ≡ true
unfolding same
same_self [] = refl
same_self (x ∷ a) = joined (eqb x x) (same a a) (eq-eqb x x refl) (same_self a)

pub same_other : (a b : List ℕ) → a ≢ b → same a b ≡ false
same_other a b other = fails (same a b) (λ e. other (same_equal a b e))

or_grouped : (a b c : Bool) → (a || b || c) ≡ (a || (b || c))
or_grouped true b c = refl
or_grouped false b c = refl

pub among-append : (w : List ℕ) (xs ys : List (List ℕ)) → among w (xs ++ ys) ≡ (among w xs || among w ys)
unfolding among
among-append w [] ys = refl
among-append w (x ∷ xs) ys = rw (among-append w xs ys) (sym (or_grouped (same w x) (among w xs) (among w ys)))

pub among-left : (w : List ℕ) (xs ys : List (List ℕ)) → among w xs ≡ true → among w (xs ++ ys) ≡ true
among-left w xs ys e = among-append w xs ys ∙ or_left (among w xs) (among w ys) e

pub among_right : (w : List ℕ) (xs ys : List (List ℕ)) → among w ys ≡ true → among w (xs ++ ys) ≡ true
among_right w xs ys e = among-append w xs ys ∙ or_right (among w xs) (among w ys) e

pub among_one : (w : List ℕ) → among w (w ∷ []) ≡ true
unfolding among
among_one w = or_left (same w w) false (same_self w)

-- the one word that a word is among
pub one_is : (w v : List ℕ) → among w (v ∷ []) ≡ true → w ≡ v
unfolding among
one_is w v e = go (or_cases (same w v) false e)
  where
    go : (same w v ≡ true) ⊎ (false ≡ true) → w ≡ v
    go (inl p) = same_equal w v p
    go (inr p) = never p

pub among_cons : (w v : List ℕ) (xs : List (List ℕ)) → among w (v ∷ xs) ≡ true → (w ≡ v) ⊎ (among w xs ≡ true)
unfolding among
among_cons w v xs e = go (or_cases (same w v) (among w xs) e)
  where
    go : (same w v ≡ true) ⊎ (among w xs ≡ true) → (w ≡ v) ⊎ (among w xs ≡ true)
    go (inl p) = inl (same_equal w v p)
    go (inr p) = inr p

-- the word with a number is among the words
pub get_d_among : (xs : List (List ℕ)) (k : ℕ) → k < length xs → among (get_or xs k []) xs ≡ true
unfolding among
get_d_among [] k h = absurd (omega arith)
get_d_among (x ∷ xs) zero h = or_left (same x x) (among x xs) (same_self x)
get_d_among (x ∷ xs) (suc k) h = or_right (same (get_or xs k []) x) (among (get_or xs k []) xs) (get_d_among xs k (omega arith))

-- the number of a word that is among words is below their count, and the word there is that word
module _ (w : List ℕ) where
  number_here : (x : List ℕ) (xs : List (List ℕ)) → same w x ≡ true → number_of w (x ∷ xs) ≡ 0
  unfolding number_of
  number_here x xs e = rw e

  number_there : (x : List ℕ) (xs : List (List ℕ)) → same w x ≡ false → number_of w (x ∷ xs) ≡ suc (number_of w xs)
  unfolding number_of
  number_there x xs e = rw e

  pub number_below : (xs : List (List ℕ)) → among w xs ≡ true → number_of w xs < length xs
  unfolding among number_of
  number_below [] e = never e
  number_below (x ∷ xs) e = go (same w x) e (number_below xs)
    where
      go : (t : Bool) → (t || among w xs) ≡ true → (among w xs ≡ true → number_of w xs < length xs)
          → cond t 0 (suc (number_of w xs)) < suc (length xs)
      go true e more = omega arith
      go false e more = let h = more e in omega arith

  pub number_names : (xs : List (List ℕ)) → among w xs ≡ true → get_or xs (number_of w xs) [] ≡ w
  unfolding among number_of
  number_names [] e = never e
  number_names (x ∷ xs) e = go (same w x) refl e (number_names xs)
    where
      go : (t : Bool) → same w x ≡ t → (t || among w xs) ≡ true → (among w xs ≡ true → get_or xs (number_of w xs) [] ≡ w)
          → get_or (x ∷ xs) (cond t 0 (suc (number_of w xs))) [] ≡ w
      go true s e more = sym (same_equal w x s)
      go false s e more = more e

  -- behind other words the number stays, if the word is among the first, and is counted from them on if not
  pub number_left : (xs ys : List (List ℕ)) → among w xs ≡ true → number_of w (xs ++ ys) ≡ number_of w xs
  unfolding among number_of
  number_left [] ys e = never e
  number_left (x ∷ xs) ys e = go (same w x) e (number_left xs ys)
    where
      go : (t : Bool) → (t || among w xs) ≡ true → (among w xs ≡ true → number_of w (xs ++ ys) ≡ number_of w xs)
          → cond t 0 (suc (number_of w (xs ++ ys))) ≡ cond t 0 (suc (number_of w xs))
      go true e more = refl
      go false e more = ap suc (more e)

  pub number_right : (xs ys : List (List ℕ)) → among w xs ≡ false → number_of w (xs ++ ys) ≡ length xs + number_of w ys
  unfolding among number_of
  number_right [] ys e = sym (zero-add _)
  number_right (x ∷ xs) ys e =
      let t = neither (same w x) (among w xs) e in
      let more = number_right xs ys t.1 in
      number_there x (xs ++ ys) t.0 ∙ omega arith
