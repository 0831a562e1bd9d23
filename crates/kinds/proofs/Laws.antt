-- What a set has, by how it was made; two sets with the same kinds are one; the lowest kind.
use Prim.Native.Nat.{ℕ, zero, suc, ◌+◌, ◌-◌, ◌*◌, ◌/◌, ◌%◌, ◌^◌, ◌≤◌, ◌<◌, min, max}
use mathlib.Core.Path.{◌≡◌, refl, sym, ap, subst, ◌∙◌}
use mathlib.Core.Logic.Iff
use mathlib.Core.Logic.{◌↔◌, ◌≢◌, ◌⊎◌, inl, inr, ⊎_elim}
use mathlib.Core.Bool.{Bool, true, false, cond, true≢false}
use native.Mathlib.Nat.{mod-lt, div-eq_of_lt, div_self, lt_of_lt_of_le, pow-suc, one-mul, zero-add}
use native.Mathlib.Decide.{ℕ_discrete, dec_lt}
use native.Mathlib.Omega.{arith}
use borrow.Author.Tests.{eqb-true, eq-eqb}
use lib.Dec.{lit<}
use lib.Pow.{pow_mono, pow-lt, pow_pos, shr-shr, ones_split, ones_lt, high}
use lib.Bits.{bit_and, bit_or, bit_xor, differ, and_shr, or_shr, xor_shr, and_step, or_step, xor_step, or_lt, xor_lt, and_le_r, or_shifted}
use lib.Count.{count_trailing_zeros, under, trailing_of_zero}
use Rattle.kinds.specs.Kinds.{Has, has?, every_kind, only_kind, set_of, joined, in_both, without_kind, lowest_kind, LowestIn}

-- the test decides
pub has?_is : (mask k : ℕ) → (has? mask k ≡ true) ↔ Has mask k
has?_is mask k = ((λ e. record { bit = eqb-true _ _ e }), (λ h. eq-eqb _ _ h.bit))

-- a set has a kind or has it not
pub has_dec : (mask k : ℕ) → Dec (Has mask k)
has_dec mask k = elim (ℕ_discrete (mask / 2 ^ k % 2) 1) [ yes e ↦ yes (record { bit = e }) | no f ↦ no (λ h. f h.bit) ]

-- ---- bounds

-- a set below 2 ^ width has no kind from width on
pub beyond : (width : ℕ) {mask k : ℕ} → mask < 2 ^ width → width ≤ k → Has mask k → ⊥
beyond width {mask} {k} small far h =
    omega (arith, h.bit, div-eq_of_lt {n = mask} {m = 2 ^ k} (lt_of_lt_of_le small (pow_mono far)))

-- such a set has kinds below width only
pub has_below : (width : ℕ) {mask k : ℕ} → mask < 2 ^ width → Has mask k → k < width
has_below width {mask} {k} small has =
    elim (dec_lt k width) [ yes below ↦ below | no past ↦ absurd (beyond width small (omega arith) has) ]

-- the empty set has no kind
pub none : {k : ℕ} → Has 0 k → ⊥
none h = beyond 0 (lit< tt) (omega arith) h

half_shift : (a k : ℕ) → a / 2 / 2 ^ k ≡ a / 2 ^ suc k
half_shift a k = shr-shr a 1 k ∙ ap (λ (j : ℕ). a / 2 ^ j) (omega arith)

-- a set has what its half has, one place higher
has_half : (mask k : ℕ) → Has (mask / 2) k ↔ Has mask (suc k)
has_half mask k = (
  (λ h. record { bit = omega (arith, h.bit, half_shift mask k) }),
  (λ h. record { bit = omega (arith, h.bit, half_shift mask k) }),
)

-- ---- one kind, all kinds, joined, shared

single_only : (j k : ℕ) → Has (only_kind k) j → j ≡ k
single_only zero zero h = refl
single_only zero (suc k) h = absurd (omega (arith, h.bit, pow-suc 2 k))
single_only (suc j) zero h = absurd (beyond 1 (lit< tt) (omega arith) h)
single_only (suc j) (suc k) h =
    let halved : 2 ^ suc k / 2 ≡ 2 ^ k = omega (arith, pow-suc 2 k) in
    ap suc (single_only j k (rw halved at ((has_half (2 ^ suc k) j).1 h)))

-- the set of one kind has that kind and no other
pub has_single : (j k : ℕ) → Has (only_kind k) j ↔ (j ≡ k)
has_single j k = (single_only j k, (λ e. record { bit = rw (e, div_self (pow_pos k)) refl }))

-- the set of all kinds has exactly those below 64
pub all : {k : ℕ} → Has every_kind k ↔ (k < 64)
unfolding every_kind
all {k} = (has_below 64 (lit< tt), (λ h. record { bit = bit_is (63 - k) (omega arith) }))
  where
    bit_is : (i : ℕ) → suc i + k ≡ 64 → 18446744073709551615 / 2 ^ k % 2 ≡ 1
    bit_is i e =
        let whole : 18446744073709551615 ≡ (2 ^ suc i - 1) * 2 ^ k + (2 ^ k - 1) = ap (λ (n : ℕ). 2 ^ n - 1) (sym e) ∙ ones_split (suc i) k in
        let top : 18446744073709551615 / 2 ^ k ≡ 2 ^ suc i - 1 = ap (λ (n : ℕ). n / 2 ^ k) whole ∙ high (2 ^ suc i - 1) k (ones_lt k) in
        omega (arith, pow-suc 2 i, pow_pos i)

and_bit : (a b k : ℕ) → bit_and a b / 2 ^ k % 2 ≡ min (a / 2 ^ k % 2) (b / 2 ^ k % 2)
and_bit a b k = omega (arith, and_shr a b k, and_step (a / 2 ^ k) (b / 2 ^ k))

or_bit : (a b k : ℕ) → bit_or a b / 2 ^ k % 2 ≡ max (a / 2 ^ k % 2) (b / 2 ^ k % 2)
or_bit a b k = omega (arith, or_shr a b k, or_step (a / 2 ^ k) (b / 2 ^ k))

-- two sets joined have the kinds of either
pub has_join : (a b k : ℕ) → Has (joined a b) k ↔ (Has a k ⊎ Has b k)
has_join a b k = (to (has_dec a k), ⊎_elim (λ h. record { bit = from (inl h.bit) }) (λ h. record { bit = from (inr h.bit) }))
  where
    to : Dec (Has a k) → Has (joined a b) k → Has a k ⊎ Has b k
    to (yes h) j = inl h
    to (no f) j = let other : a / 2 ^ k % 2 ≢ 1 = λ e. f (record { bit = e }) in inr (record { bit = omega (arith, or_bit a b k, j.bit) })

    from : (a / 2 ^ k % 2 ≡ 1) ⊎ (b / 2 ^ k % 2 ≡ 1) → bit_or a b / 2 ^ k % 2 ≡ 1
    from (inl e) = omega (arith, or_bit a b k)
    from (inr e) = omega (arith, or_bit a b k)

-- the set of what two sets share has the kinds of both
pub has_shared : (a b k : ℕ) → Has (in_both a b) k ↔ (Has a k × Has b k)
has_shared a b k = (
  (λ h. (record { bit = omega (arith, h.bit, and_bit a b k) }, record { bit = omega (arith, h.bit, and_bit a b k) })),
  (λ h. record { bit = omega (arith, h.0.bit, h.1.bit, and_bit a b k) }),
)

-- the set of what passes a test is within its width
pub set_small : (test : ℕ → Bool) (width : ℕ) → set_of test width < 2 ^ width
unfolding set_of
set_small test zero = lit< tt
set_small test (suc width) = go (test width) (set_small test width)
  where
    go : (t : Bool) → set_of test width < 2 ^ width → cond t (2 ^ width) 0 + set_of test width < 2 ^ suc width
    go true h = omega (arith, pow-suc 2 width)
    go false h = omega (arith, pow-suc 2 width)

-- and has what passes the test below its width
pub has_set : (test : ℕ → Bool) (width k : ℕ) → Has (set_of test width) k ↔ ((k < width) × (test k ≡ true))
unfolding set_of
has_set test zero k = ((λ h. absurd (none h)), (λ p. absurd (omega (arith, p.0))))
has_set test (suc width) k = go (test width) refl (has_set test width k)
  where
    more : 2 ^ width + set_of test width ≡ joined (only_kind width) (set_of test width)
    more = rw one-mul at (sym (or_shifted 1 width (set_of test width) (set_small test width)))

    go : (t : Bool) → test width ≡ t → Has (set_of test width) k ↔ ((k < width) × (test k ≡ true))
        → Has (cond t (2 ^ width) 0 + set_of test width) k ↔ ((k < suc width) × (test k ≡ true))
    go true e (to, from) = rw more (
      (λ h.
          ⊎_elim (λ one. let same = (has_single k width).0 one in (omega (arith, same), rw same e)) (λ low. (omega (arith, (to low).0), (to low).1))
          ((has_join (only_kind width) (set_of test width) k).0 h)),
      (λ p. (has_join (only_kind width) (set_of test width) k).1 (last p (ℕ_discrete k width))),
    )
      where
        last : (k < suc width) × (test k ≡ true) → Dec (k ≡ width) → Has (only_kind width) k ⊎ Has (set_of test width) k
        last p (yes same) = inl ((has_single k width).1 same)
        last p (no other) = inr (from (omega (arith, p.0), p.1))
    go false e (to, from) = (
      (λ h. let low = to (rw zero-add at h) in (omega (arith, low.0), low.1)),
      (λ p. rw zero-add (from (below p (ℕ_discrete k width), p.1))),
    )
      where
        below : (k < suc width) × (test k ≡ true) → Dec (k ≡ width) → k < width
        below p (yes same) = absurd (true≢false (sym p.1 ∙ rw same e))
        below p (no other) = omega (arith, p.0)

-- the digits of a bit that a set has not, and of one that it has
differ_none : (x y : ℕ) → y ≡ 0 → differ x y ≡ x
differ_none zero y e = e
differ_none (suc x) y e = rw e

xor_bit : (a b k : ℕ) → bit_xor a b / 2 ^ k % 2 ≡ differ (a / 2 ^ k % 2) (b / 2 ^ k % 2)
xor_bit a b k = omega (arith, xor_shr a b k, xor_step (a / 2 ^ k) (b / 2 ^ k), small (a / 2 ^ k % 2) (b / 2 ^ k % 2) (mod-lt _ {m = 2} (lit< tt)) (mod-lt _ {m = 2} (lit< tt)))
  where
    small : (x y : ℕ) → x < 2 → y < 2 → differ x y < 2
    small zero y hx hy = hy
    small (suc x) zero hx hy = hx
    small (suc x) (suc y) hx hy = small x y (omega arith) (omega arith)

-- a set without one of its kinds has all its others
pub has_without : {mask k : ℕ} → Has mask k → (j : ℕ) → Has (without_kind mask k) j ↔ (Has mask j × (j ≢ k))
has_without {mask} {k} has j = go (ℕ_discrete j k)
  where
    bit_is : without_kind mask k / 2 ^ j % 2 ≡ differ (mask / 2 ^ j % 2) (only_kind k / 2 ^ j % 2)
    bit_is = xor_bit mask (only_kind k) j

    go : Dec (j ≡ k) → Has (without_kind mask k) j ↔ (Has mask j × (j ≢ k))
    go (yes e) = ((λ h. absurd (omega (arith, h.bit, gone))), (λ p. absurd (p.1 e)))
      where
        gone : without_kind mask k / 2 ^ j % 2 ≡ 0
        gone = bit_is ∙ rw (rw (← e) at has.bit, ((has_single j k).1 e).bit) refl
    go (no other) = ((λ h. (record { bit = sym stays ∙ h.bit }, other)), (λ p. record { bit = stays ∙ p.0.bit }))
      where
        alone : only_kind k / 2 ^ j % 2 ≢ 1
        alone e = other ((has_single j k).0 (record { bit = e }))

        stays : without_kind mask k / 2 ^ j % 2 ≡ mask / 2 ^ j % 2
        stays = bit_is ∙ differ_none _ _ (omega (arith, alone, mod-lt (only_kind k / 2 ^ j) {m = 2} (lit< tt)))

-- ---- sets by their kinds

same_bits : (width a b : ℕ) → a < 2 ^ width → b < 2 ^ width → ((k : ℕ) → Has a k ↔ Has b k) → a ≡ b
same_bits zero a b ha hb same = omega arith
same_bits (suc width) a b ha hb same =
    let high : a / 2 ≡ b / 2 =
    same_bits width (a / 2) (b / 2) (omega (arith, pow-suc 2 width)) (omega (arith, pow-suc 2 width))
    (λ k. Iff.trans (has_half a k) (Iff.trans (same (suc k)) (swap (has_half b k)))) in
    low (has_dec a 0) (has_dec b 0) high
  where
    swap : {A B : Type 0} → A ↔ B → B ↔ A
    swap e = (e.1, e.0)

    low : Dec (Has a 0) → Dec (Has b 0) → a / 2 ≡ b / 2 → a ≡ b
    low (yes x) (yes y) e = omega (arith, x.bit, y.bit)
    low (yes x) (no g) e = absurd (g ((same 0).0 x))
    low (no f) (yes y) e = absurd (f ((same 0).1 y))
    low (no f) (no g) e =
        let p : a % 2 ≢ 1 = λ q. f (record { bit = omega arith }) in
        let r : b % 2 ≢ 1 = λ q. g (record { bit = omega arith }) in
        omega arith

-- two masks below 2 ^ 64 with the same kinds are equal
pub same_kinds : {a b : ℕ} → a < 2 ^ 64 → b < 2 ^ 64 → ((k : ℕ) → Has a k ↔ Has b k) → a ≡ b
same_kinds {a} {b} ha hb same = same_bits 64 a b ha hb same

-- a number is below its power of two
below_power : (n : ℕ) → n < 2 ^ n
below_power zero = lit< tt
below_power (suc n) = omega (arith, below_power n, pow-suc 2 n)

-- of three sets joined it does not matter which two are joined first
pub join_assoc : (a b c : ℕ) → joined (joined a b) c ≡ joined a (joined b c)
join_assoc a b c =
    same_bits width _ _ (or_lt width _ _ (or_lt width a b ha hb) hc) (or_lt width _ _ ha (or_lt width b c hb hc)) (λ k. (to k, from k))
  where
    width : ℕ
    width = a + b + c

    ha : a < 2 ^ (a + b + c)
    ha = omega (arith, below_power a, pow_mono {i = a} {j = a + b + c} (omega arith))

    hb : b < 2 ^ (a + b + c)
    hb = omega (arith, below_power b, pow_mono {i = b} {j = a + b + c} (omega arith))

    hc : c < 2 ^ (a + b + c)
    hc = omega (arith, below_power c, pow_mono {i = c} {j = a + b + c} (omega arith))

    to : (k : ℕ) → Has (joined (joined a b) c) k → Has (joined a (joined b c)) k
    to k h =
        (has_join a (joined b c) k).1
        (⊎_elim
        (λ ab. ⊎_elim (λ x. inl x) (λ y. inr ((has_join b c k).1 (inl y))) ((has_join a b k).0 ab))
        (λ z. inr ((has_join b c k).1 (inr z)))
        ((has_join (joined a b) c k).0 h))

    from : (k : ℕ) → Has (joined a (joined b c)) k → Has (joined (joined a b) c) k
    from k h =
        (has_join (joined a b) c k).1
        (⊎_elim
        (λ x. inl ((has_join a b k).1 (inl x)))
        (λ bc. ⊎_elim (λ y. inl ((has_join a b k).1 (inr y))) (λ z. inr z) ((has_join b c k).0 bc))
        ((has_join a (joined b c) k).0 h))

-- a set with every kind of another and more is the greater number
pub more_kinds : {a b : ℕ} → a < 2 ^ 64 → b < 2 ^ 64 → ((k : ℕ) → Has a k → Has b k) → a ≢ b → a < b
more_kinds {a} {b} ha hb more differ =
    let e : in_both a b ≡ a = same_kinds (omega (arith, and_le_r a b)) ha (λ k. ((λ h. ((has_shared a b k).0 h).0), (λ h. (has_shared a b k).1 (h, more k h)))) in
    omega (arith, and_le_r a b, differ)

-- a set without one of its kinds is the smaller number
pub without_less : {mask k : ℕ} → mask < 2 ^ 64 → Has mask k → without_kind mask k < mask
without_less {mask} {k} small has =
    more_kinds (xor_lt 64 mask (only_kind k) small (pow-lt (has_below 64 small has))) small (λ j h. ((has_without has j).0 h).0)
    (λ e. ((has_without has k).0 (subst (λ (m : ℕ). Has m k) (sym e) has)).1 refl)

-- ---- the lowest kind

zeros_below : (width mask j : ℕ) → j < count_trailing_zeros width mask → Has mask j → ⊥
unfolding count_trailing_zeros
zeros_below zero mask j h = absurd (omega arith)
zeros_below (suc width) mask j h = go (mask % 2) j refl (λ i. zeros_below width (mask / 2) i) h
  where
    go : (r j : ℕ) → mask % 2 ≡ r → ((i : ℕ) → i < count_trailing_zeros width (mask / 2) → Has (mask / 2) i → ⊥)
        → j < under r (count_trailing_zeros width (mask / 2)) → Has mask j → ⊥
    go zero zero e rest l has = omega (arith, has.bit)
    go zero (suc j) e rest l has = rest j (omega arith) ((has_half mask j).1 has)
    go (suc r) j e rest l has = omega arith

zeros_end : (width mask : ℕ) → count_trailing_zeros width mask < width → Has mask (count_trailing_zeros width mask)
unfolding count_trailing_zeros
zeros_end zero mask h = absurd (omega arith)
zeros_end (suc width) mask h = go (mask % 2) refl (zeros_end width (mask / 2)) h
  where
    go : (r : ℕ) → mask % 2 ≡ r → (count_trailing_zeros width (mask / 2) < width → Has (mask / 2) (count_trailing_zeros width (mask / 2)))
        → under r (count_trailing_zeros width (mask / 2)) < suc width → Has mask (under r (count_trailing_zeros width (mask / 2)))
    go zero e rest l = (has_half mask _).0 (rest (omega arith))
    go (suc r) e rest l = record { bit = omega (arith, mod-lt mask {m = 2} (lit< tt)) }

-- the lowest kind is in a set that is not empty, no lower one is, and that of the empty set is 64
pub lowest_is : {mask : ℕ} → mask < 2 ^ 64 → LowestIn mask (lowest_kind mask)
unfolding lowest_kind
lowest_is {mask} small = record {
  least = λ j l. zeros_below 64 mask j l;
  found = λ some. found some (dec_lt (count_trailing_zeros 64 mask) 64);
  empty = λ e. ap (count_trailing_zeros 64) e ∙ trailing_of_zero 64;
}
  where
    found : mask ≢ 0 → Dec (count_trailing_zeros 64 mask < 64) → Has mask (count_trailing_zeros 64 mask)
    found some (yes l) = zeros_end 64 mask l
    found some (no f) = absurd (some (same_kinds small (lit< tt) (λ k. ((λ h. absurd (nowhere k (dec_lt k 64) h)), (λ h. absurd (none h))))))
      where
        nowhere : (k : ℕ) → Dec (k < 64) → Has mask k → ⊥
        nowhere k (yes l) = zeros_below 64 mask k (omega arith)
        nowhere k (no g) = beyond 64 small (omega arith)
