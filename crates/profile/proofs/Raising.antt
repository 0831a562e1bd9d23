-- Numbers raised to greater ones: laws of the greater number, of one weight more, and that raising is growth.
use Prim.Native.Nat.{ℕ, zero, suc, ◌+◌, ◌*◌, ◌^◌, ◌≤◌, ◌<◌}
use native.Mathlib.Decide.{ℕ_discrete}
use native.Mathlib.Nat.{lt_of_lt_of_le}
use native.Mathlib.Omega.{arith}
use mathlib.Core.Path.{◌≡◌, refl, sym, ap, subst, ◌∙◌}
use mathlib.Core.Bool.{Bool, true, false, cond, false≢true}
use mathlib.Core.List.{List}
use mathlib.Core.Logic.{◌⊎◌, inl, inr, ⊎_elim, ◌≢◌}
use borrow.Author.Tests.{eqb-true, eqb-false, ltb-true, ltb-false, not-true, not-false}
use lib.Dec.{ltb, eqb}
use lib.ListN.{length, get_or, set, length-set}
use lib.Pow.{pow_mono}
use lib.Seq.{get_or-set_same, get_or-set_other, set-get_or}
use Rattle.rules.specs.Growth.{total, went_up, Sound, Grown, Blank}
use Rattle.rules.proofs.Growing.{Settling, total-set, total_bound, way_left, grown_less}
use Rattle.depths.proofs.Rising.{before}
use Rattle.profile.specs.Weights.{MOST, weighing, greater, one_more, where_so, Raised}

-- ---- numbers

pub greater_is : (a b : ℕ) → (a ≤ greater a b) × (b ≤ greater a b) × ((greater a b ≡ a) ⊎ (greater a b ≡ b))
greater_is a b = go (ltb a b) refl
  where
    go : (t : Bool) → ltb a b ≡ t → (a ≤ cond t b a) × (b ≤ cond t b a) × ((cond t b a ≡ a) ⊎ (cond t b a ≡ b))
    go true e = let h = ltb-true a b e in (omega arith, omega arith, inr refl)
    go false e = let h = ltb-false a b e in (omega arith, omega arith, inl refl)

-- what is below the greater of two numbers is below one of them
pub greater_below : (a b j : ℕ) → j < greater a b → (j < a) ⊎ (j < b)
greater_below a b j h = ⊎_elim (λ e. inl (subst (λ (n : ℕ). j < n) e h)) (λ e. inr (subst (λ (n : ℕ). j < n) e h)) (greater_is a b).2

pub greater-left : (a b j : ℕ) → j < a → j < greater a b
greater-left a b j h = omega (arith, h, (greater_is a b).0)

pub greater_right : (a b j : ℕ) → j < b → j < greater a b
greater_right a b j h = omega (arith, h, (greater_is a b).1)

-- what is below a number where something is so
pub so_below : (so : Bool) (x j : ℕ) → j < where_so so x → (so ≡ true) × (j < x)
so_below true x j h = (refl, h)
so_below false x j h = absurd (omega arith)

pub so_above : (so : Bool) (x j : ℕ) → so ≡ true → j < x → j < where_so so x
so_above true x j e h = h
so_above false x j e h = absurd (false≢true e)

-- what is below one weight more, less one, is below the weight
pub more_below : (x j : ℕ) → j < one_more x → before j < x
more_below x j h = go (eqb x 0) refl (ltb x MOST) j h
  where
    go : (t : Bool) → eqb x 0 ≡ t → (u : Bool) (j : ℕ) → j < cond t 0 (cond u (x + 1) x) → before j < x
    go true e u j h = absurd (omega arith)
    go false e true zero h = let some = eqb-false x 0 e in omega arith
    go false e true (suc j) h = omega arith
    go false e false zero h = h
    go false e false (suc j) h = omega arith

-- and the other way, up to the most
pub more_above : (x j : ℕ) → before j < x → j < MOST → j < one_more x
more_above x j h small = go (eqb x 0) refl (ltb x MOST) refl j h small
  where
    go : (t : Bool) → eqb x 0 ≡ t → (u : Bool) → ltb x MOST ≡ u → (j : ℕ) → before j < x → j < MOST → j < cond t 0 (cond u (x + 1) x)
    go true e u f j h small = let none = eqb-true x 0 e in absurd (omega arith)
    go false e true f zero h small = omega arith
    go false e true f (suc j) h small = omega arith
    go false e false f j h small = let most = ltb-false x MOST f in omega arith

-- ---- lists

module _ {list after : List ℕ} {i more : ℕ} {changed : Bool} (inside : i < length list) (r : Raised list after i more changed) where
  here : get_or after i 0 ≡ greater (get_or list i 0) more
  here = ap (λ (l : List ℕ). get_or l i 0) r.list_is ∙ get_or-set_same list i _ 0 inside

  elsewhere : (m : ℕ) → m ≢ i → get_or after m 0 ≡ get_or list m 0
  elsewhere m differ = ap (λ (l : List ℕ). get_or l m 0) r.list_is ∙ get_or-set_other list i m _ 0 differ

  same : changed ≡ false → greater (get_or list i 0) more ≡ get_or list i 0
  same e = eqb-true _ _ (not-false _ (sym r.changed_is ∙ e))

  -- a number raised is growth by the weights below what it is raised to
  pub raised_grown : {By : ℕ → ℕ → Type 0} → ((j : ℕ) → j < more → By i j) → Grown weighing By list after changed
  raised_grown {By} by = record {
    long = ap length r.list_is ∙ length-set list i _;
    keeps = λ m j. keeps m j (ℕ_discrete m i);
    adds = λ m j. adds m j (ℕ_discrete m i);
    still = λ e. r.list_is ∙ ap (set list i) (same e) ∙ set-get_or list i 0;
    gone_on = λ e.
        let differ : greater (get_or list i 0) more ≢ get_or list i 0 = eqb-false _ _ (not-true _ (sym r.changed_is ∙ e)) in
        went_up {before = total list} {after = total after} (omega (
          arith,
          total-set list i (greater (get_or list i 0) more) inside,
          ap total r.list_is,
          (greater_is (get_or list i 0) more).0,
        ));
  }
    where
      keeps : (m j : ℕ) → Dec (m ≡ i) → j < get_or list m 0 → j < get_or after m 0
      keeps m j (yes e) has = rw (e, here) (greater-left (get_or list i 0) more j (rw e at has))
      keeps m j (no f) has = rw (elsewhere m f) has

      adds : (m j : ℕ) → Dec (m ≡ i) → j < get_or after m 0 → (j < get_or list m 0) ⊎ By m j
      adds m j (yes e) has =
          ⊎_elim (λ kept. inl (rw e kept)) (λ added. inr (rw e (by j added))) (greater_below (get_or list i 0) more j (rw (e, here) at has))
      adds m j (no f) has = inl (rw (elsewhere m f) at has)

  -- where nothing changed, the number was as great
  pub raised_held : changed ≡ false → more ≤ get_or list i 0
  raised_held e = omega (arith, same e, (greater_is (get_or list i 0) more).1)

-- blank weights tell nothing
pub blank-tells : {By : ℕ → ℕ → Type 0} {least : ℕ} {list : List ℕ} → Blank least list → Sound weighing By list
blank-tells blank = record { by = λ i j has. absurd (omega (arith, blank.zeros i, has)) }

-- a turn that changes something takes from what is left for the sum to grow
pub weights_less : {By : ℕ → ℕ → Type 0} {first list after : List ℕ} {changed : Bool} → Settling weighing By first list
    → Grown weighing By list after changed → changed ≡ true → ((i : ℕ) → get_or after i 0 < 2 ^ 32)
    → way_left true (length first * 2 ^ 64) (total after) < way_left true (length first * 2 ^ 64) (total list)
weights_less {first = first} {after = after} settling grown changed small =
    grown_less {bound = length first * 2 ^ 64} grown changed
    (omega (
      arith,
      total_bound after (λ i. lt_of_lt_of_le (small i) (pow_mono {i = 32} {j = 64} (omega arith))),
      grown.long,
      settling.long,
    ))
