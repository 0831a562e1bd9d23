-- Storing into a list, element by element: runs of stores one after the other, into zeros, stored 16-bit numbers, and copied parts.
use mathlib.Core.Path.{◌≡◌, refl, sym, ap, ◌∙◌}
use mathlib.Core.List.{List, [], ◌∷◌, ◌++◌}
use Prim.Native.Nat.{ℕ, zero, suc, ◌+◌, ◌-◌, ◌≤◌, ◌<◌}
use native.Mathlib.Nat.{add-zero, zero-add}
use native.Mathlib.Numerals.{add-one}
use native.Mathlib.Omega.{arith}
use lib.ListN.{length, get_or, set, take, drop, length-set, length-drop, length-replicate}
use lib.Seq.{sets, sets-eq, length-take-le, take-length, take-suc, get_or-drop}
use borrow.Rule.Slice.PartMut.{put_mid}
use Rattle.std.proofs.lemmas.Slice.{put_mid-paste}
use Rattle.words.specs.Lists.{part_at}
use Rattle.words.proofs.Same.{part_between}
use Rattle.words.specs.Words.{with_u16, word_bytes, zeros}

-- one run of stores after another
pub sets-append : (l : List ℕ) (at : ℕ) (xs ys : List ℕ) → sets (sets l at xs) (at + length xs) ys ≡ sets l at (xs ++ ys)
sets-append l at [] ys = rw add-zero
sets-append l at (x ∷ xs) ys = rw (next) (sets-append (set l at x) (suc at) xs ys)
  where
    next : at + suc (length xs) ≡ suc at + length xs
    next = omega arith

-- the same, by the place behind the first run
pub sets_then : (l : List ℕ) (at : ℕ) (xs : List ℕ) (next : ℕ) (ys : List ℕ) → next ≡ at + length xs
    → sets (sets l at xs) next ys ≡ sets l at (xs ++ ys)
sets_then l at xs next ys is = rw is (sets-append l at xs ys)

-- one store after a run
pub sets_one : (l : List ℕ) (at : ℕ) (xs : List ℕ) (next x : ℕ) → next ≡ at + length xs
    → set (sets l at xs) next x ≡ sets l at (xs ++ (x ∷ []))
sets_one l at xs next x is = sets_then l at xs next (x ∷ []) is

-- a stored 16-bit number is a run of two stores
pub sets_word : (l : List ℕ) (at value : ℕ) → with_u16 l at value ≡ sets l at (word_bytes (value ∷ []))
unfolding with_u16 word_bytes
sets_word l at value = rw add-one

-- a run from the front of zeros, and zeros behind it
pub sets-zeros : (room : ℕ) (xs : List ℕ) → length xs ≤ room → sets (zeros room) 0 xs ≡ xs ++ zeros (room - length xs)
sets-zeros room xs fits =
    sets-eq xs (zeros room) 0 (omega (arith, length-replicate {A = ℕ} room 0))
    ∙ ap (λ (l : List ℕ). xs ++ l) (rw zero-add (drop-zeros (length xs) room))
  where
    drop-zeros : (n room : ℕ) → drop n (zeros room) ≡ zeros (room - n)
    drop-zeros zero room = let all : room - 0 ≡ room = omega arith in rw all
    drop-zeros (suc n) zero = let none : 0 - suc n ≡ 0 = omega arith in rw none
    drop-zeros (suc n) (suc room) = let less : suc room - suc n ≡ room - n = omega arith in rw less (drop-zeros n room)

-- a loop that copies a part of a list has copied so many of its elements
pub record Copied (from : List ℕ) (at : ℕ) (before after : List ℕ) (place n : ℕ) : Type 0 where
  pub is : after ≡ sets before place (part_at from at n)
  pub long : length after ≡ length before

module _ (from : List ℕ) (at : ℕ) where
  pub copied_none : (l : List ℕ) (place : ℕ) → Copied from at l l place 0
  copied_none l place = record { is = refl; long = refl }

  module _ {before after : List ℕ} {place n : ℕ} (c : Copied from at before after place n) where
    pub copied_more : at + n < length from → Copied from at before (set after (place + n) (get_or from (at + n) 0)) place (n + 1)
    copied_more below =
        record {
          is =
              ap (λ (l : List ℕ). set l (place + n) (get_or from (at + n) 0)) c.is
              ∙ sets_one before place (part_at from at n) (place + n) (get_or from (at + n) 0)
              (omega (arith, length-take-le n (drop at from) rest))
              ∙ ap (sets before place) part_more;
          long = simp length-set c.long;
        }
      where
        rest : n ≤ length (drop at from)
        rest = simp length-drop (omega arith)

        more : n < length (drop at from)
        more = simp length-drop (omega arith)

        part_more : part_at from at n ++ (get_or from (at + n) 0 ∷ []) ≡ part_at from at (n + 1)
        part_more = rw (add-one, take-suc (drop at from) n 0 more, get_or-drop at from n 0)

    -- a loop that has copied as many as are asked for
    pub copied_all : {size : ℕ} → n ≡ size → after ≡ sets before place (part_at from at size)
    copied_all all = c.is ∙ ap (λ (m : ℕ). sets before place (part_at from at m)) all

-- a part of a list that is copied over as many elements of another is a run of stores
pub copied : (from : List ℕ) (at : ℕ) (to : List ℕ) (place size : ℕ) {part : List ℕ} → at + size ≤ length from
    → place + size ≤ length to → part ≡ take (at + size - at) (drop at from)
    → put_mid place (place + size - place) to part ≡ sets to place (part_at from at size)
copied from at to place size within within-to is =
    put_mid-paste place (place + size - place) to _ (part_at from at size) size (is ∙ part_between from at size) (omega arith) (sym long)
    ∙ sym (pasted ∙ rw (long) (ap (λ (l : List ℕ). take place to ++ l ++ drop (place + size) to) (sym whole)))
  where
    long : length (part_at from at size) ≡ size
    long = length-take-le size (drop at from) (simp length-drop (omega arith))

    whole : take size (part_at from at size) ≡ part_at from at size
    whole = rw (long) at (take-length (part_at from at size))

    pasted : sets to place (part_at from at size)
        ≡ take place to ++ part_at from at size ++ drop (place + length (part_at from at size)) to
    pasted = sets-eq (part_at from at size) to place (omega (arith, long))

-- a list copied over as many elements of another is a run of stores
pub copied_whole : (to : List ℕ) (place size : ℕ) (part : List ℕ) → size ≡ length part → place + size ≤ length to
    → put_mid place size to part ≡ sets to place part
copied_whole to place size part is within =
    put_mid-paste place size to part part size refl refl is
    ∙ sym (pasted ∙ (λ i. take place to ++ sym whole i ++ drop (place + sym is i) to))
  where
    whole : take size part ≡ part
    whole = rw is (take-length part)

    pasted : sets to place part ≡ take place to ++ part ++ drop (place + length part) to
    pasted = sets-eq part to place (omega (arith, is, within))
