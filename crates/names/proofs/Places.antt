-- Where names stand: each begins where the one before it ends. What a whole name is, and a new one.
use mathlib.Core.Path.{◌≡◌, refl, sym, ap, ◌∙◌}
use mathlib.Core.Bool.{Bool, true, false, not, ◌&&◌}
use mathlib.Core.List.{List}
use Prim.Native.Nat.{ℕ, zero, suc, ◌+◌, ◌-◌, ◌≤◌, ◌<◌}
use native.Mathlib.Decide.{ℕ_discrete}
use native.Mathlib.Nat.{le_of_eq}
use native.Mathlib.Numerals.{add-one}
use native.Mathlib.Omega.{arith}
use borrow.Author.Tests.{leb-true, le-leb, lt-leb}
use lib.Dec.{leb, eqb}
use lib.ListN.{length, get_or, take, drop, get_or-eq_default}
use Rattle.words.specs.Lists.{same}
use Rattle.words.proofs.Same.{length_part}
use Rattle.words.proofs.Tests.{both, joined, fails}
use Rattle.names.specs.Names.{visible, all_visible, past_name, name_from, whole_at, name_at, name_of, name_new, name_good, first_bad_name, names_good}

-- the bytes of a name, by the places between which they lie
pub name_between : (bytes : List ℕ) (at : ℕ) {past : ℕ} → past ≡ past_name bytes at
    → take (past - (at + 1)) (drop (at + 1) bytes) ≡ name_from bytes at
name_between bytes at is = ap (λ (n : ℕ). take n (drop (at + 1) bytes)) (omega (arith, is))

-- what the tests of a whole name have shown
pub record Whole (bytes : List ℕ) (at : ℕ) : Type 0 where
  pub some_byte : 1 ≤ get_or bytes at 0
  pub few_bytes : get_or bytes at 0 ≤ 16
  pub within : past_name bytes at ≤ length bytes
  pub all-visible : all_visible bytes (at + 1) (get_or bytes at 0) ≡ true

pub whole : (bytes : List ℕ) (at : ℕ) → whole_at bytes at ≡ true → Whole bytes at
unfolding whole_at
whole bytes at good =
    let (three, all) = both (leb 1 (get_or bytes at 0) && leb (get_or bytes at 0) 16 && leb (past_name bytes at) (length bytes)) _ good in
    let (two, ends) = both (leb 1 (get_or bytes at 0) && leb (get_or bytes at 0) 16) _ three in
    let (least, most) = both (leb 1 (get_or bytes at 0)) _ two in
    record { some_byte = leb-true _ _ least; few_bytes = leb-true _ _ most; within = leb-true _ _ ends; all-visible = all }

pub is_whole : {bytes : List ℕ} {at : ℕ} → Whole bytes at → whole_at bytes at ≡ true
unfolding whole_at
is_whole {bytes} {at} w =
    joined _ _
    (joined (leb 1 (get_or bytes at 0) && leb (get_or bytes at 0) 16) _
    (joined (leb 1 (get_or bytes at 0)) _ (le-leb _ _ w.some_byte) (le-leb _ _ w.few_bytes))
    (le-leb _ _ w.within))
    w.all-visible

-- a name that is not whole
pub not_whole : (bytes : List ℕ) (at : ℕ) → (Whole bytes at → ⊥) → whole_at bytes at ≡ false
not_whole bytes at never = fails _ (λ good. never (whole bytes at good))

-- past the end there is no length byte, and no whole name
pub none_past : (bytes : List ℕ) (at : ℕ) → length bytes ≤ at → whole_at bytes at ≡ false
none_past bytes at past =
    not_whole bytes at (λ w. omega (arith, w.some_byte, get_or-eq_default bytes 0 {n = at} past))

-- a name that is there has as many bytes as its length byte says
pub length_name : (bytes : List ℕ) (at : ℕ) → past_name bytes at ≤ length bytes → length (name_from bytes at) ≡ get_or bytes at 0
length_name bytes at within = length_part bytes (at + 1) (get_or bytes at 0) within

module _ (bytes : List ℕ) (base : ℕ) where
  -- a name begins where the one before it ends
  pub name_first : name_at bytes base 0 ≡ base
  unfolding name_at
  name_first = refl

  pub name_next : (n : ℕ) → name_at bytes base (suc n) ≡ past_name bytes (name_at bytes base n)
  unfolding name_at
  name_next n = refl

  -- a name ends before any later one begins
  pub ends-before : (m n : ℕ) → m < n → past_name bytes (name_at bytes base m) ≤ name_at bytes base n
  ends-before m zero below = absurd (omega arith)
  ends-before m (suc n) below =
      elim (ℕ_discrete m n) [
        | yes same ↦ le_of_eq (ap (λ (k : ℕ). past_name bytes (name_at bytes base k)) same ∙ sym (name_next n))
        | no other ↦ omega (arith, name_next n, ends-before m n (omega arith))
      ]

  -- the place behind a name is that of the next
  pub at_next : (n : ℕ) {at next : ℕ} → at ≡ name_at bytes base n → next ≡ past_name bytes at → next ≡ name_at bytes base (n + 1)
  at_next n here is = is ∙ ap (past_name bytes) here ∙ sym (rw add-one (name_next n))

-- a byte that may stand in a name
pub is_visible : {byte read : ℕ} → read ≡ byte → 33 ≤ read → read ≤ 126 → visible byte ≡ true
is_visible {byte} is least most = joined _ _ (le-leb 33 byte (omega arith)) (le-leb byte 126 (omega arith))

-- a whole name, by the tests of its bytes
pub whole_by : (bytes : List ℕ) (at : ℕ) {size : ℕ} {all : Bool} → size ≡ get_or bytes at 0 → 1 ≤ size → size ≤ 16
    → at + 1 + size ≤ length bytes → all ≡ all_visible bytes (at + 1) size → all ≡ whole_at bytes at
unfolding whole_at
whole_by bytes at {size} is least most within visible-is =
    rw (← is, le-leb 1 size least, le-leb size 16 most, le-leb (at + 1 + size) (length bytes) within) visible-is

module _ (bytes : List ℕ) (base : ℕ) where
  -- a name and one before it: the earlier one ends in the bytes, and what comparing them says
  module _ (m n : ℕ) {earlier at : ℕ} (earlier-is : earlier ≡ name_at bytes base m) (at_is : at ≡ name_at bytes base n) where
    pub earlier_within : m < n → at ≤ length bytes → past_name bytes earlier ≤ length bytes
    earlier_within below within = rw earlier-is (omega (arith, ends-before bytes base m n below))

    pub compared : {test : Bool} → test ≡ same (name_from bytes earlier) (name_from bytes at) → (b : Bool) → test ≡ b
        → not (same (name_of bytes base m) (name_of bytes base n)) ≡ not b
    compared is b told = rw (← earlier-is, ← at_is, ← is, told)

  module _ (n : ℕ) {at : ℕ} (at_is : at ≡ name_at bytes base n) where
    -- a name that is not whole, and one that is as good as it is new
    pub bad_name : whole_at bytes at ≡ false → name_good bytes base n ≡ false
    unfolding name_good
    bad_name bad = rw (← at_is, bad)

    pub good_if_new : whole_at bytes at ≡ true → name_new bytes base n ≡ name_good bytes base n
    unfolding name_good
    good_if_new good = rw (← at_is, good)

    -- a good name is whole
    pub good_whole : name_good bytes base n ≡ true → Whole bytes at
    unfolding name_good
    good_whole good = whole bytes at (rw at_is (both (whole_at bytes (name_at bytes base n)) _ good).0)

  -- what a look at so many names finds
  module _ {count n at : ℕ} (at_is : at ≡ name_at bytes base n) where
    pub bad_found : n < count → n ≡ first_bad_name bytes base count → names_good bytes base count ≡ false
    unfolding names_good
    bad_found below is = rw (← is, lt-leb count n below)

    pub none_found : n ≡ count → n ≡ first_bad_name bytes base count → eqb at (length bytes) ≡ names_good bytes base count
    unfolding names_good
    none_found all is = rw (← is, le-leb count n (omega arith), at_is, all)
