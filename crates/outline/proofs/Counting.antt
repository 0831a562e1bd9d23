-- Laws of counts that are cut, and of items put down in a buffer.
use Prim.Native.Nat.{ℕ, suc, ◌+◌, ◌-◌, ◌≤◌, ◌<◌, min}
use native.Mathlib.Omega.{arith}
use native.Mathlib.Nat.{add_assoc, add-zero}
use mathlib.Core.Path.{◌≡◌, refl, sym, ap, ◌∙◌}
use mathlib.Core.Bool.{Bool, true, false}
use mathlib.Core.List.{List, [], ◌∷◌, ◌++◌}
use lib.Dec.{ltb}
use lib.ListN.{length, set, length-append, length-set}
use lib.Seq.{sets}
use borrow.Author.Tests.{lt-ltb, le-ltb, ltb-true, ltb-false}
use Rattle.book.specs.declared.Node.TheVariants.{Empty, Either, Then, Ref}
use Rattle.outline.specs.Raw.{raw, raw_star, cut}
use Rattle.outline.specs.Parts.{Laid}
use Rattle.outline.specs.declared.RawNode.{RawNode}

-- ---- counts

pub cut_small : (n : ℕ) → n ≤ 512 → cut n ≡ n
unfolding cut
cut_small n small = rw (le-ltb 512 n small)

pub cut_over : (n : ℕ) → 512 < n → cut n ≡ 513
unfolding cut
cut_over n over = rw (lt-ltb 512 n over)

-- a count is cut where the lesser of two is taken
pub cut_is : (n : ℕ) → min n 513 ≡ cut n
cut_is n = go (ltb 512 n) refl
  where
    go : (test : Bool) → ltb 512 n ≡ test → min n 513 ≡ cut n
    go true e = omega (arith, ltb-true 512 n e, cut_over n (ltb-true 512 n e))
    go false e = omega (arith, ltb-false 512 n e, cut_small n (ltb-false 512 n e))

-- a count is 0 only of nothing
pub cut_some : (n : ℕ) → 1 ≤ n → 1 ≤ cut n
cut_some n some = go (ltb 512 n) refl
  where
    go : (over : Bool) → ltb 512 n ≡ over → 1 ≤ cut n
    go true e = rw (cut_over n (ltb-true 512 n e)) (omega arith)
    go false e = rw (cut_small n (ltb-false 512 n e)) some

-- a count that was cut before is cut all the same
pub cut_add : (n m : ℕ) → cut (cut n + m) ≡ cut (n + m)
cut_add n m = go (ltb 512 n) refl
  where
    go : (over : Bool) → ltb 512 n ≡ over → cut (cut n + m) ≡ cut (n + m)
    go true e =
        let past : 512 < n = ltb-true 512 n e in
        rw (cut_over n past, cut_over (513 + m) (omega arith), cut_over (n + m) (omega arith))
    go false e = rw (cut_small n (ltb-false 512 n e))

-- ---- items put down

-- one run of stores after another
pub sets_append : {A : Type 0} (l : List A) (at : ℕ) (xs ys : List A)
    → sets (sets l at xs) (at + length xs) ys ≡ sets l at (xs ++ ys)
sets_append l at [] ys = rw add-zero
sets_append l at (x ∷ xs) ys =
    let next : at + suc (length xs) ≡ suc at + length xs = omega arith in
    rw next (sets_append (set l at x) (suc at) xs ys)

module _ {A : Type 0} {before : List A} {n : ℕ} where
  pub laid_none : Laid before n (cut n) [] before
  laid_none = record { counted = rw add-zero; long = refl; laid = λ few room. refl }

  -- too many items leave the buffer
  pub laid_past : {items : List A} → 512 < n + length items → Laid before n 513 items before
  laid_past {items} over =
      record { counted = sym (cut_over (n + length items) over); long = refl; laid = λ few room. absurd (omega arith) }

  -- one is put down, where the buffer has room for it
  pub laid_one : {next : ℕ} {item : A} {after : List A} → next ≡ cut (n + 1) → after ≡ set before n item
      → Laid before n next (item ∷ []) after
  laid_one counted is = record { counted = counted; long = rw (is, length-set); laid = λ few room. is }

  pub laid_short : {next : ℕ} {item : A} {after : List A} → next ≡ cut (n + 1) → length before ≤ n → after ≡ before
      → Laid before n next (item ∷ []) after
  laid_short counted short is = record { counted = counted; long = rw is; laid = λ few room. absurd (omega arith) }

  module _ {next : ℕ} {items after : List A} (p : Laid before n next items after) where
    pub next_small : n + length items ≤ 512 → next ≡ n + length items
    next_small few = p.counted ∙ cut_small (n + length items) few

    -- items after items
    pub laid_then : {last : ℕ} {others end : List A} → Laid after next last others end → Laid before n last (items ++ others) end
    laid_then {others} q =
        record {
          counted = q.counted ∙ rw (p.counted, cut_add (n + length items) (length others), length-append, add_assoc);
          long = q.long ∙ p.long;
          laid = λ few room.
              let all : n + length items + length others ≤ 512 = omega (arith, few, length-append items others) in
              let is : next ≡ n + length items = next_small (omega arith) in
              q.laid (omega (arith, is)) (rw p.long room)
              ∙ ap (λ (l : List A). sets l next others) (p.laid (omega arith) room)
              ∙ ap (λ (at : ℕ). sets (sets before n items) at others) is
              ∙ sets_append before n items others;
        }

    -- the same by other names of the items, which hold where they are not too many
    pub laid_as : {others : List A} → length others ≡ length items → (n + length items ≤ 512 → items ≡ others)
        → Laid before n next others after
    laid_as {others} wide same =
        record {
          counted = rw wide p.counted;
          long = p.long;
          laid = λ few room.
              let small : n + length items ≤ 512 = omega (arith, few, wide) in
              p.laid small room ∙ ap (λ (l : List A). sets before n l) (same small);
        }

-- the four nodes of a star
pub laid_star : {before first second third after : List RawNode} {n then empty either next left place : ℕ}
    → left ≡ n - 1
    → Laid before n then (raw (Ref (n + 3)) place ∷ []) first
    → Laid first then empty (raw (Then left n) place ∷ []) second
    → Laid second empty either (raw Empty place ∷ []) third
    → Laid third either next (raw (Either (n + 1) (n + 2)) place ∷ []) after
    → Laid before n next (raw_star n place) after
laid_star is a b c d = rw is at (laid_then a (laid_then b (laid_then c d)))
