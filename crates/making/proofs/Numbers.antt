-- The largest of numbers, and lists of three numbers.
use mathlib.Core.Path.{◌≡◌, refl, ap, ◌∙◌}
use mathlib.Core.List.{List, [], ◌∷◌, ◌++◌, append-nil}
use Prim.Native.Nat.{ℕ, zero, suc, ◌+◌, ◌*◌, ◌≤◌, ◌<◌}
use native.Mathlib.Omega.{arith}
use lib.ListN.{length, get_or, take, length-append}
use Rattle.std.specs.List.{flat_map}
use Rattle.std.proofs.lemmas.List.{take_more}
use Rattle.std.proofs.lemmas.List.Concat.{flat_map-cons}
use Rattle.std.proofs.lemmas.Grind.{flat_map-append}
use Rattle.words.specs.Words.{Below, below_none, below_more}
use Rattle.book.specs.Encode.{node_words}
use Rattle.book.specs.declared.Node.{Node}
use Rattle.book.specs.declared.Node.TheVariants.{Fail, Empty, Token, Either, Then, Tagged, Ref}
use Rattle.outline.specs.declared.RawNode.{RawNode}
use Rattle.resolving.specs.Writing.{last_of}
use Rattle.making.specs.Bytes.{Down, Writable, largest, node_written}

pub largest_at : (xs : List ℕ) (i : ℕ) → get_or xs i 0 ≤ largest xs
unfolding largest
largest_at [] i = omega arith
largest_at (x ∷ xs) zero = omega arith
largest_at (x ∷ xs) (suc i) = omega (arith, largest_at xs i)

pub largest_upto : (most : ℕ) (xs : List ℕ) → ((i : ℕ) → i < length xs → get_or xs i 0 ≤ most) → largest xs ≤ most
unfolding largest
largest_upto most [] each = omega arith
largest_upto most (x ∷ xs) each = omega (arith, each 0 (omega arith), largest_upto most xs (λ i below. each (suc i) (omega arith)))

pub largest_below : {limit : ℕ} → 0 < limit → {xs : List ℕ} → Below limit xs → largest xs < limit
unfolding largest
largest_below some below_none = some
largest_below some (below_more one more) = omega (arith, one, largest_below some more)

largest_left : (xs ys : List ℕ) → largest xs ≤ largest (xs ++ ys)
unfolding largest
largest_left [] ys = omega arith
largest_left (x ∷ xs) ys = omega (arith, largest_left xs ys)

largest_right : (xs ys : List ℕ) → largest ys ≤ largest (xs ++ ys)
unfolding largest
largest_right [] ys = omega arith
largest_right (x ∷ xs) ys = omega (arith, largest_right xs ys)

module _ {X : Type 0} (f : X → List ℕ) where
  pub largest_of : (xs : List X) (i : ℕ) (d : X) → i < length xs → largest (f (get_or xs i d)) ≤ largest (flat_map f xs)
  largest_of [] i d below = absurd (omega arith)
  largest_of (x ∷ xs) zero d below = rw (flat_map-cons f x xs) (largest_left (f x) (flat_map f xs))
  largest_of (x ∷ xs) (suc i) d below =
      rw (flat_map-cons f x xs) (omega (arith, largest_of xs i d (omega arith), largest_right (f x) (flat_map f xs)))

  -- three numbers of each
  module _ (three : (x : X) → length (f x) ≡ 3) where
    pub length_threes : (xs : List X) → length (flat_map f xs) ≡ 3 * length xs
    length_threes [] = refl
    length_threes (x ∷ xs) =
        ap length (flat_map-cons f x xs) ∙ length-append (f x) (flat_map f xs) ∙ omega (arith, three x, length_threes xs)

  -- one more
  pub one_more : (xs : List X) (n : ℕ) (d : X) → n < length xs → flat_map f (take (n + 1) xs) ≡ flat_map f (take n xs) ++ f (get_or xs n d)
  one_more xs n d below =
      ap (flat_map f) (take_more xs n d below) ∙ flat_map-append f (take n xs) (get_or xs n d ∷ [])
      ∙ ap (λ (l : List ℕ). flat_map f (take n xs) ++ l) (flat_map-cons f (get_or xs n d) [] ∙ append-nil (f (get_or xs n d)))

-- what is written of a node is its three numbers; they are small where all are
pub fields_are : (node : Node) {r : List ℕ} → r ≡ node_words node → (get_or r 0 0 ∷ get_or r 1 0 ∷ get_or r 2 0 ∷ []) ≡ node_words node
fields_are node is = rw is (go node)
  where
    go : (node : Node) → (get_or (node_words node) 0 0 ∷ get_or (node_words node) 1 0 ∷ get_or (node_words node) 2 0 ∷ []) ≡ node_words node
    go Fail = refl
    go Empty = refl
    go (Token k) = refl
    go (Either l r) = refl
    go (Then l r) = refl
    go (Tagged l t) = refl
    go (Ref l) = refl

pub start_small : (d : Down) → Writable d → last_of d.rows 0 < 65536
unfolding largest
start_small d w = omega (arith, w.small)

pub node_small : (d : Down) → Writable d → {words : List ℕ} {n : ℕ} (blank : RawNode) → n < length d.nodes
    → words ≡ node_written d (get_or d.nodes n blank) → largest words < 65536
unfolding largest
node_small d w blank below is = rw is (omega (arith, w.small, largest_of (node_written d) d.nodes _ blank below))
