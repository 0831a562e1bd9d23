-- Storing into zeros: what stays clear behind a run of stores, and a loop that stores a row's cells only for the kinds of a set.
use mathlib.Core.Path.{◌≡◌, refl, sym, ap, ◌∙◌}
use mathlib.Core.Logic.{◌≢◌}
use mathlib.Core.Bool.{cond}
use mathlib.Core.List.{List, [], ◌∷◌}
use Prim.Native.Nat.{ℕ, zero, suc, ◌+◌, ◌-◌, ◌^◌, ◌≤◌, ◌<◌}
use native.Mathlib.Nat.{add-zero, zero-add}
use native.Mathlib.Decide.{dec_lt, ℕ_discrete}
use native.Mathlib.Omega.{arith}
use lib.ListN.{length, get_or, set, length-set}
use lib.Seq.{sets, length-sets, get_or-set_same, get_or-set_other, ext_get_or}
use Rattle.kinds.specs.Kinds.{Has, has?, without_kind, lowest_kind}
use Rattle.kinds.proofs.Laws.{has?_is, has_without, without_less, lowest_is}
use Rattle.words.specs.Lists.{values_from}
use Rattle.words.specs.Words.{zeros}
use Rattle.words.proofs.Lists.{length_values}
use Rattle.words.proofs.Stored.{sets_one}
use Rattle.words.proofs.Tests.{fails}
use Rattle.rules.proofs.Growing.{blank-zeros}
use Rattle.writer.specs.Table.{cell_by, row_by, ClearFrom}

-- a place is none of so many from another on
abbrev Apart : ℕ → ℕ → ℕ → Type 0
Apart i at count = (j : ℕ) → j < count → i ≢ at + j

-- a run of stores leaves every other place
get_d_apart : (l : List ℕ) (at : ℕ) (xs : List ℕ) (i : ℕ) → Apart i at (length xs) → get_or (sets l at xs) i 0 ≡ get_or l i 0
get_d_apart l at [] i apart = refl
get_d_apart l at (x ∷ xs) i apart =
    get_d_apart (set l at x) (suc at) xs i (λ j below e. apart (suc j) (omega arith) (omega arith))
    ∙ get_or-set_other l at i x 0 (λ e. apart 0 (omega arith) (omega arith))

-- a run of values is found where it was stored
get_d_stored : (value : ℕ → ℕ) (l : List ℕ) (at count n k : ℕ) → k < count → at + count ≤ length l
    → get_or (sets l at (values_from value count n)) (at + k) 0 ≡ value (n + k)
unfolding values_from
get_d_stored value l at zero n k below fits = absurd (omega arith)
get_d_stored value l at (suc count) n zero below fits =
    rw (add-zero at, add-zero n)
    (get_d_apart (set l at (value n)) (suc at) (values_from value count (suc n)) at (λ j below e. omega arith)
    ∙ get_or-set_same l at (value n) 0 (omega arith))
get_d_stored value l at (suc count) n (suc k) below fits =
    let next : at + suc k ≡ suc at + k = omega arith in
    rw next
    (get_d_stored value (set l at (value n)) (suc at) count (suc n) k (omega arith) (omega (arith, length-set l at (value n)))
    ∙ ap value (omega arith))

-- zeros are clear from any place on
pub clear_zeros : {l : List ℕ} (room at : ℕ) → l ≡ zeros room → ClearFrom l at
clear_zeros {l} room at is = record { zero_from = λ i past. rw is ((blank-zeros room).zeros i) }

-- what is clear from a place on is clear behind a run stored there
pub clear_behind : {l next : List ℕ} {at behind : ℕ} (xs : List ℕ) → ClearFrom l at → next ≡ sets l at xs → behind ≡ at + length xs
    → ClearFrom next behind
clear_behind {l} {next} {at} {behind} xs clear is place =
    record { zero_from = λ i past. rw is (get_d_apart l at xs i (λ j below e. omega arith) ∙ clear.zero_from i (omega arith)) }

module _ (first left near far : ℕ) where
  abbrev value : ℕ → ℕ
  value = cell_by first left near far

  -- a loop that stores the cells of a set's kinds has these kinds left: all other cells are the row's
  pub record StoredByKinds (before after : List ℕ) (at kinds rest : ℕ) : Type 0 where
    pub long : length after ≡ length before
    pub small : rest < 2 ^ 64
    pub part : (j : ℕ) → Has rest j → Has first j
    pub cells : (j : ℕ) → j < kinds → (Has rest j → ⊥) → get_or after (at + j) 0 ≡ value j
    pub others : (i : ℕ) → Apart i at kinds → get_or after i 0 ≡ get_or before i 0

  -- a kind that is not in FIRST has the cell 0, one that is has one of the two cells
  value_none : (j : ℕ) → (Has first j → ⊥) → value j ≡ 0
  value_none j lacks = rw (fails (has? first j) (λ e. lacks ((has?_is first j).0 e))) refl

  value_some : (j : ℕ) → Has first j → value j ≡ cond (has? left j) near far
  value_some j has = rw ((has?_is first j).1 has) refl

  pub by_kinds_none : {l : List ℕ} {at : ℕ} (kinds : ℕ) → first < 2 ^ 64 → ClearFrom l at → StoredByKinds l l at kinds first
  by_kinds_none {l} {at} kinds small clear = record {
    long = refl;
    small = small;
    part = λ j has. has;
    cells = λ j below lacks. clear.zero_from (at + j) (omega arith) ∙ sym (value_none j lacks);
    others = λ i apart. refl;
  }

  module _ {before after : List ℕ} {at kinds rest k : ℕ} (s : StoredByKinds before after at kinds rest) (lowest : k ≡ lowest_kind rest) where
    -- the lowest kind left is in the set, where it is one of the row's
    pub by_kinds_has : kinds ≤ 64 → k < kinds → Has rest k
    by_kinds_has few below = rw lowest ((lowest_is s.small).found (λ e. omega (arith, (lowest_is s.small).empty e)))

    pub by_kinds_less : {less : ℕ} → kinds ≤ 64 → k < kinds → less ≡ without_kind rest k → less < rest
    by_kinds_less few below is = rw is (without_less s.small (by_kinds_has few below))

    pub by_kinds_more : {v less : ℕ} → kinds ≤ 64 → at + kinds ≤ length before → k < kinds → v ≡ cond (has? left k) near far
        → less ≡ without_kind rest k → StoredByKinds before (set after (at + k) v) at kinds less
    by_kinds_more {v} {less} few fits below v-is less-is =
        record {
          long = length-set after (at + k) v ∙ s.long;
          small = omega (arith, by_kinds_less few below less-is, s.small);
          part = λ j has. s.part j ((has_without it j).0 (rw less-is at has)).0;
          cells = λ j kind lacks. cell j kind lacks (ℕ_discrete j k);
          others = λ i apart. get_or-set_other after (at + k) i v 0 (apart k below) ∙ s.others i apart;
        }
      where
        it : Has rest k
        it = by_kinds_has few below

        cell : (j : ℕ) → j < kinds → (Has less j → ⊥) → Dec (j ≡ k) → get_or (set after (at + k) v) (at + j) 0 ≡ value j
        cell j kind lacks (yes e) =
            rw e (get_or-set_same after (at + k) v 0 (omega (arith, s.long)) ∙ v-is ∙ sym (value_some k (s.part k it)))
        cell j kind lacks (no other) =
            get_or-set_other after (at + k) (at + j) v 0 (λ e. other (omega arith))
            ∙ s.cells j kind (λ has. lacks (rw less-is ((has_without it j).1 (has, other))))

    -- with no kind of the row left, and its last cell stored, the row stands
    pub by_kinds_all : (mark : ℕ) → at + kinds ≤ length before → kinds ≤ k
        → set after (at + kinds) mark ≡ sets before at (row_by first left near far kinds mark)
    unfolding row_by
    by_kinds_all mark fits past =
        rw whole
        (sets_one before at (values_from value kinds 0) (at + kinds) mark (ap (λ (m : ℕ). at + m) (sym (length_values value kinds 0))))
      where
        stored : List ℕ
        stored = sets before at (values_from value kinds 0)

        apart_is : (i : ℕ) → Apart i at kinds → get_or after i 0 ≡ get_or stored i 0
        apart_is i apart =
            s.others i apart ∙ sym (get_d_apart before at (values_from value kinds 0) i (rw (length_values value kinds 0) apart))

        inside : (j : ℕ) → j < kinds → get_or after (at + j) 0 ≡ get_or stored (at + j) 0
        inside j kind =
            s.cells j kind (λ has. (lowest_is s.small).least j (omega arith) has)
            ∙ sym (get_d_stored value before at kinds 0 j kind fits ∙ ap value (zero-add j))

        same : (i : ℕ) → Dec (i < at) → Dec (i < at + kinds) → get_or after i 0 ≡ get_or stored i 0
        same i (yes ahead) within = apart_is i (λ j below e. omega arith)
        same i (no behind) (no beyond) = apart_is i (λ j below e. omega arith)
        same i (no behind) (yes within) =
            let place : i ≡ at + (i - at) = omega arith in
            rw place (inside (i - at) (omega arith))

        whole : after ≡ stored
        whole =
            ext_get_or 0 after stored (s.long ∙ sym (length-sets before at (values_from value kinds 0)))
            (λ i within. same i (dec_lt i at) (dec_lt i (at + kinds)))
