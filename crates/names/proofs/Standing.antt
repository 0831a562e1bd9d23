-- Names that stand in bytes: good names read from bytes are those bytes, and bytes of good names are read as the names.
use mathlib.Core.Path.{◌≡◌, refl, sym, ap, subst, ◌∙◌}
use mathlib.Core.Bool.{true, not}
use mathlib.Core.List.{List, [], ◌∷◌, ◌++◌, append_assoc, append-nil}
use mathlib.Core.Logic.{◌≢◌}
use Prim.Native.Nat.{ℕ, zero, suc, ◌+◌, ◌*◌, ◌≤◌, ◌<◌}
use native.Mathlib.Nat.{add-zero, zero-add}
use native.Mathlib.Numerals.{add-one}
use native.Mathlib.Omega.{arith}
use borrow.Author.Tests.{leb-true, eqb-true, le-leb, eq-eqb, not-true}
use lib.Dec.{leb}
use lib.ListN.{length, get_or, drop, length-append, length-drop, take-append-drop}
use lib.Seq.{drop-cons, drop-drop, take-append_seam, drop-append_seam}
use Rattle.words.specs.Lists.{same}
use Rattle.words.proofs.FirstBad.{first_none, first_past, every_is, every_good}
use Rattle.words.proofs.Same.{get_d_part, is_same, same_is}
use Rattle.words.proofs.Tests.{both, joined, never, fails}
use Rattle.names.specs.Names.{visible, past_name, name_from, whole_at, name_at, name_of, name_new, name_good, first_bad_name, names_good, names_from, names_of, names_bytes, GoodName, GoodNames}
use Rattle.names.proofs.Places.{Whole, whole, is_whole, is_visible, length_name, name_first, name_next}

-- so many names are whole, and each differs from those before it
pub record Standing (bytes : List ℕ) (base count : ℕ) : Type 0 where
  pub each_whole : (n : ℕ) → n < count → Whole bytes (name_at bytes base n)
  pub each_new : (m n : ℕ) → m < n → n < count → name_of bytes base m ≢ name_of bytes base n

-- equal lists are the same
equal_same : {xs ys : List ℕ} → xs ≡ ys → same xs ys ≡ true
equal_same {xs} {ys} e = subst (λ l. same xs l ≡ true) e (is_same xs)

-- a whole name is its length byte and its bytes
name_split : (bytes : List ℕ) (at : ℕ) → Whole bytes at
    → drop at bytes ≡ length (name_from bytes at) ∷ (name_from bytes at ++ drop (past_name bytes at) bytes)
name_split bytes at w =
    drop-cons bytes at 0 (omega (arith, w.within))
    ∙ (λ i. size_is i ∷ behind i)
  where
    size_is : get_or bytes at 0 ≡ length (name_from bytes at)
    size_is = sym (length_name bytes at w.within)

    behind : drop (suc at) bytes ≡ name_from bytes at ++ drop (past_name bytes at) bytes
    behind =
        rw (← add-one at, ← drop-drop (get_or bytes at 0) (at + 1) bytes)
        (sym (take-append-drop (get_or bytes at 0) (drop (at + 1) bytes)))

-- a whole name is a good one
whole_good : (bytes : List ℕ) (at : ℕ) → Whole bytes at → GoodName (name_from bytes at)
whole_good bytes at w =
    let long = length_name bytes at w.within in
    record {
      some_byte = omega (arith, long, w.some_byte);
      few_bytes = omega (arith, long, w.few_bytes);
      all-visible =
          λ i below.
          let within : i < get_or bytes at 0 = omega (arith, long, below) in
          let byte-is = get_d_part bytes (at + 1) (get_or bytes at 0) i within in
          let (least, most) = both (leb 33 (get_or bytes (at + 1 + i) 0)) _ (every_is _ (get_or bytes at 0) w.all-visible i within) in
          (rw byte-is (leb-true _ _ least), rw byte-is (leb-true _ _ most));
    }

module _ (bytes : List ℕ) (base : ℕ) where
  -- so many names, by their numbers
  pub length_names : (left n : ℕ) → length (names_from bytes base left n) ≡ left
  unfolding names_from
  length_names zero n = refl
  length_names (suc left) n = ap suc (length_names left (suc n))

  pub get_d_names : (left n i : ℕ) → i < left → get_or (names_from bytes base left n) i [] ≡ name_of bytes base (n + i)
  unfolding names_from
  get_d_names zero n i below = absurd (omega arith)
  get_d_names (suc left) n zero below = rw add-zero
  get_d_names (suc left) n (suc i) below =
      let next : n + suc i ≡ suc n + i = omega arith in
      rw next (get_d_names left (suc n) i (omega arith))

  -- good names stand, and end with the bytes
  pub names_stand : (count : ℕ) → names_good bytes base count ≡ true → Standing bytes base count
  unfolding names_good name_good name_new
  names_stand count good =
      let each = first_none _ count (leb-true _ _ (both (leb count (first_bad_name bytes base count)) _ good).0) in
      record {
        each_whole = λ n below. whole bytes _ (both (whole_at bytes (name_at bytes base n)) _ (each n below)).0;
        each_new =
            λ m n before below alike.
            never
            (sym (not-true _ (every_is _ n (both (whole_at bytes (name_at bytes base n)) _ (each n below)).1 m before))
            ∙ equal_same alike);
      }

  pub names_end : (count : ℕ) → names_good bytes base count ≡ true → name_at bytes base count ≡ length bytes
  unfolding names_good
  names_end count good = eqb-true _ _ (both (leb count (first_bad_name bytes base count)) _ good).1

  -- names that stand and end with the bytes are good
  pub names_are_good : {count : ℕ} → Standing bytes base count → name_at bytes base count ≡ length bytes
      → names_good bytes base count ≡ true
  unfolding names_good name_good name_new
  names_are_good {count} s end =
      joined _ _
      (le-leb count (first_bad_name bytes base count)
      (omega (
        arith,
        first_past (name_good bytes base) count
            (λ n below.
            joined _ _ (is_whole (s.each_whole n below))
            (every_good _ n
            (λ m before.
            ap not
            (fails (same (name_of bytes base m) (name_of bytes base n)) (λ alike. s.each_new m n before below (same_is _ _ alike)))))),
      )))
      (eq-eqb _ _ end)

  -- fewer of them stand too
  pub fewer_stand : {count fewer : ℕ} → fewer ≤ count → Standing bytes base count → Standing bytes base fewer
  fewer_stand few s =
      record {
        each_whole = λ n below. s.each_whole n (omega arith);
        each_new = λ m n before below. s.each_new m n before (omega arith);
      }

  module _ {count : ℕ} (s : Standing bytes base count) where
    -- names are 2 to 17 bytes each, with their length byte
    pub names_short : (n : ℕ) → n ≤ count → name_at bytes base n ≤ base + 17 * n
    names_short zero within = omega (arith, name_first bytes base)
    names_short (suc n) within =
        omega (arith, names_short n (omega arith), name_next bytes base n, (s.each_whole n (omega arith)).few_bytes)

    pub names_within : (n : ℕ) → n ≤ count → base ≤ length bytes → name_at bytes base n ≤ length bytes
    names_within zero within from = omega (arith, name_first bytes base)
    names_within (suc n) within from = omega (arith, name_next bytes base n, (s.each_whole n (omega arith)).within)

    -- the bytes from a name on: so many names, and what is behind them
    pub names_from_lem : (left n : ℕ) → n + left ≤ count
        → drop (name_at bytes base n) bytes ≡ names_bytes (names_from bytes base left n) ++ drop (name_at bytes base (n + left)) bytes
    unfolding names_bytes names_from
    names_from_lem zero n within = rw add-zero
    names_from_lem (suc left) n within =
        let name = name_of bytes base n in
        let next : n + suc left ≡ suc n + left = omega arith in
        name_split bytes _ (s.each_whole n (omega arith))
        ∙ ap (λ (l : List ℕ). length name ∷ (name ++ l))
        (ap (λ (at : ℕ). drop at bytes) (sym (name_next bytes base n)) ∙ names_from_lem left (suc n) (omega arith))
        ∙ rw next (ap (λ (l : List ℕ). length name ∷ l) (sym (append_assoc name (names_bytes (names_from bytes base left (suc n))) _)))

    -- all of them, from the first
    pub names_all : drop base bytes ≡ names_bytes (names_of bytes base count) ++ drop (name_at bytes base count) bytes
    names_all =
        ap (λ (at : ℕ). drop at bytes) (sym (name_first bytes base))
        ∙ names_from_lem count 0 (omega arith)
        ∙ ap (λ (n : ℕ). names_bytes (names_of bytes base count) ++ drop (name_at bytes base n) bytes) (zero-add count)

    -- the names that are read are good names
    pub names_read_good : GoodNames (names_of bytes base count)
    names_read_good =
        record {
          each_good =
              λ n below.
              let within : n < count = omega (arith, below, length_names count 0) in
              subst GoodName (sym (name_is n within)) (whole_good bytes _ (s.each_whole n within));
          none_twice =
              λ m n before below alike.
              let within : n < count = omega (arith, below, length_names count 0) in
              s.each_new m n before within (sym (name_is m (omega arith)) ∙ alike ∙ name_is n within);
        }
      where
        name_is : (n : ℕ) → n < count → get_or (names_of bytes base count) n [] ≡ name_of bytes base n
        name_is n below = get_d_names count 0 n below ∙ ap (name_of bytes base) (zero-add n)

-- ---- bytes of good names

-- so many names of a list stand in bytes from the name with a number on, and something behind them
record From (bytes : List ℕ) (base n : ℕ) (names : List (List ℕ)) (rest : List ℕ) : Type 0 where
  within : name_at bytes base n ≤ length bytes
  is : drop (name_at bytes base n) bytes ≡ names_bytes names ++ rest

module _ (bytes : List ℕ) (base : ℕ) where
  module _ {n : ℕ} {name : List ℕ} {more : List (List ℕ)} {rest : List ℕ} (f : From bytes base n (name ∷ more) rest) where
    abbrev at : ℕ
    at = name_at bytes base n

    there : at < length bytes
    unfolding names_bytes
    there = omega (arith, f.within, sym (length-drop at bytes) ∙ ap length f.is)

    split : get_or bytes at 0 ∷ drop (at + 1) bytes ≡ length name ∷ (name ++ (names_bytes more ++ rest))
    unfolding names_bytes
    split =
        rw (add-one) (sym (drop-cons bytes at 0 there)) ∙ f.is
        ∙ ap (λ (l : List ℕ). length name ∷ l) (append_assoc name (names_bytes more) rest)

    size_is : get_or bytes at 0 ≡ length name
    size_is = cc split

    behind : drop (at + 1) bytes ≡ name ++ (names_bytes more ++ rest)
    behind = cc split

    name_read : name_of bytes base n ≡ name
    name_read = rw (size_is, behind) (take-append_seam name _)

    long : length bytes ≡ at + 1 + length name + length (names_bytes more ++ rest)
    long = omega (arith, there, sym (length-drop (at + 1) bytes) ∙ ap length behind ∙ length-append name _)

    next_from : From bytes base (suc n) more rest
    next_from =
        record {
          within = rw (name_next bytes base n, size_is) (omega (arith, long));
          is =
              rw (name_next bytes base n, size_is)
              (sym (drop-drop (length name) (at + 1) bytes) ∙ ap (drop (length name)) behind ∙ drop-append_seam name _);
        }

  -- a name of the list is the one that is read
  record Read (n : ℕ) (name : List ℕ) : Type 0 where
    size : get_or bytes (name_at bytes base n) 0 ≡ length name
    name_is : name_of bytes base n ≡ name
    ends : past_name bytes (name_at bytes base n) ≤ length bytes

  each_read : {n : ℕ} (names : List (List ℕ)) {rest : List ℕ} → From bytes base n names rest
      → (i : ℕ) → i < length names → Read (n + i) (get_or names i [])
  each_read [] f i below = absurd (omega arith)
  each_read {n} (name ∷ more) f zero below =
      rw add-zero
      (record { size = size_is f; name_is = name_read f; ends = rw (size_is f) (omega (arith, long f)) })
  each_read {n} (name ∷ more) f (suc i) below =
      let next : n + suc i ≡ suc n + i = omega arith in
      rw next (each_read more (next_from f) i (omega arith))

  -- all are read, and what is behind them comes next
  all_read : {n : ℕ} (names : List (List ℕ)) {rest : List ℕ} → From bytes base n names rest
      → names_from bytes base (length names) n ≡ names
  unfolding names_from
  all_read {n = n} [] f = refl
  all_read {n = n} (name ∷ more) f = λ i. name_read f i ∷ all_read {n = suc n} more (next_from f) i

  past_all : {n : ℕ} (names : List (List ℕ)) {rest : List ℕ} → From bytes base n names rest
      → From bytes base (n + length names) [] rest
  past_all [] f = rw add-zero f
  past_all {n} (name ∷ more) f =
      let next : n + suc (length more) ≡ suc n + length more = omega arith in
      rw next (past_all more (next_from f))

  -- a good name that is read is whole
  good_whole_name : {n : ℕ} {name : List ℕ} → Read n name → GoodName name → Whole bytes (name_at bytes base n)
  good_whole_name {n} {name} r g =
      record {
        some_byte = omega (arith, r.size, g.some_byte);
        few_bytes = omega (arith, r.size, g.few_bytes);
        within = r.ends;
        all-visible = rw r.size (every_good _ (length name) (λ i below. each i below (g.all-visible i below)));
      }
    where
      each : (i : ℕ) → i < length name → (33 ≤ get_or name i 0) × (get_or name i 0 ≤ 126)
          → visible (get_or bytes (name_at bytes base n + 1 + i) 0) ≡ true
      each i below (least, most) =
          let byte-is : get_or bytes (name_at bytes base n + 1 + i) 0 ≡ get_or name i 0 =
          sym (get_d_part bytes (name_at bytes base n + 1) (get_or bytes (name_at bytes base n) 0) i (omega (arith, r.size)))
          ∙ ap (λ (l : List ℕ). get_or l i 0) r.name_is in
          is_visible (sym byte-is) least most

  -- good names that are read stand
  read_stand : (names : List (List ℕ)) → GoodNames names → ((n : ℕ) → n < length names → Read n (get_or names n []))
      → Standing bytes base (length names)
  read_stand names good read =
      record {
        each_whole = λ n below. good_whole_name (read n below) (good.each_good n below);
        each_new = λ m n before below alike.
            good.none_twice m n before below (sym (read m (omega arith)).name_is ∙ alike ∙ (read n below).name_is);
      }

-- bytes of good names, behind others: they are good names, and are read as they are
module _ (front : List ℕ) (names : List (List ℕ)) where
  abbrev bytes : List ℕ
  bytes = front ++ names_bytes names

  from_start : From bytes (length front) 0 names []
  from_start =
      record {
        within = rw (name_first bytes (length front), length-append front (names_bytes names)) (omega arith);
        is = rw (name_first bytes (length front)) (drop-append_seam front _ ∙ sym (append-nil _));
      }

  pub names_have_bytes : GoodNames names → names_good bytes (length front) (length names) ≡ true
  unfolding names_bytes
  names_have_bytes good =
      names_are_good bytes (length front)
      (read_stand bytes (length front) names good
      (λ n below.
      subst (λ m. Read bytes (length front) m (get_or names n [])) (zero-add n) (each_read bytes (length front) names from_start n below)))
      (subst (λ m. name_at bytes (length front) m ≡ length bytes) (zero-add (length names)) end)
    where
      past : From bytes (length front) (0 + length names) [] []
      past = past_all bytes (length front) names from_start

      end : name_at bytes (length front) (0 + length names) ≡ length bytes
      end = omega (arith, past.within, sym (length-drop (name_at bytes (length front) (0 + length names)) bytes) ∙ ap length past.is)

  pub names_are_read : names_of bytes (length front) (length names) ≡ names
  names_are_read = all_read bytes (length front) names from_start
