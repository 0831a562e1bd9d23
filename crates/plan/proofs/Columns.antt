-- What the test of a column says at a kind's cell and at the last cell.
use mathlib.Core.Path.{◌≡◌, sym, ◌∙◌}
use mathlib.Core.Bool.{Bool, true, false, ◌||◌}
use mathlib.Core.List.{List}
use Prim.Native.Nat.{ℕ, ◌+◌, ◌-◌, ◌≤◌, ◌<◌}
use native.Mathlib.Decide.{dec_lt}
use native.Mathlib.Nat.{le_refl}
use native.Mathlib.Omega.{arith}
use borrow.Author.Tests.{lt-ltb, le-ltb}
use lib.Dec.{leb, eqb}
use lib.ListN.{length, get_or, take, drop}
use Rattle.std.proofs.lemmas.List.Edits.{length-between, get_or-between}
use Rattle.std.specs.List.{AllWithin, HoldsAt}
use Rattle.std.specs.Option.{MatchOption, unwrap_or}
use Rattle.std.specs.declared.option.Option.{Option}
use Rattle.std.specs.declared.option.Option.TheVariants.{None, Some}
use Rattle.words.proofs.Tests.{never}
use Rattle.words.specs.Lists.{first_bad}
use Rattle.plan.specs.Rows.{column_good, bad_column}
use Rattle.plan.proofs.Searches.{found, first_is}

module _ (bytes : List ℕ) (row_at kinds one other : ℕ) {cell : ℕ} {test : Bool} where
  pub kind_column : {column : ℕ} → column < kinds → cell ≡ get_or bytes (row_at + column) 0
      → (eqb cell 0 || eqb cell one || eqb cell other) ≡ test
      → column_good bytes row_at kinds one other column ≡ test
  unfolding column_good
  kind_column below is tested = rw (lt-ltb _ _ below, ← is) tested

  pub last_column : cell ≡ get_or bytes (row_at + kinds) 0 → leb cell 1 ≡ test → column_good bytes row_at kinds one other kinds ≡ test
  unfolding column_good
  last_column is tested = rw (le-ltb kinds kinds (le_refl _), ← is) tested

-- the cells for kinds of a row, as the code takes them out of the plan
abbrev pub row_cells : List ℕ → ℕ → ℕ → List ℕ
row_cells bytes at kinds = take (at + kinds - at) (drop at bytes)

pub cells_long : (bytes : List ℕ) (at kinds : ℕ) → at + (kinds + 1) ≤ length bytes → length (row_cells bytes at kinds) ≡ kinds
cells_long bytes at kinds within = length-between bytes at (at + kinds) (omega arith) ∙ omega arith

pub cell_is : (bytes : List ℕ) (at kinds : ℕ) {column : ℕ} → at + (kinds + 1) ≤ length bytes → column < kinds
    → get_or (row_cells bytes at kinds) column 0 ≡ get_or bytes (at + column) 0
cell_is bytes at kinds within below = get_or-between bytes at (at + kinds) _ 0 (omega arith)

-- the first of a row's cells for kinds that is bad, or else the last column, is the row's first bad column
module _ (bytes : List ℕ) (at kinds one other : ℕ) where
  -- whether a cell for a kind is good
  abbrev pub Tested : Bool → ℕ → Type 0
  Tested test cell = (eqb cell 0 || eqb cell one || eqb cell other) ≡ test

  pub first_column : (r : Option ℕ)
      → MatchOption r (AllWithin (Tested true) (row_cells bytes at kinds) 0 (length (row_cells bytes at kinds)))
      (λ i. (i < length (row_cells bytes at kinds)) × HoldsAt (Tested false) (row_cells bytes at kinds) i
      × AllWithin (Tested true) (row_cells bytes at kinds) 0 i)
      → at + (kinds + 1) ≤ length bytes → bad_column bytes at kinds one other ≤ kinds
      → unwrap_or r kinds ≡ bad_column bytes at kinds one other
  unfolding bad_column
  first_column r met within some = by_case r met
    where
      cells : List ℕ
      cells = row_cells bytes at kinds

      passed : (n : ℕ) → n ≤ kinds → AllWithin (Tested true) cells 0 n → (column : ℕ) → column < n
          → column_good bytes at kinds one other column ≡ true
      passed n few good column below =
          kind_column bytes at kinds one other (omega (arith, below, few)) (cell_is bytes at kinds within (omega (arith, below, few)))
          (good column 0 (omega arith) below)

      by_case : (r : Option ℕ)
          → MatchOption r (AllWithin (Tested true) cells 0 (length cells))
          (λ i. (i < length cells) × HoldsAt (Tested false) cells i × AllWithin (Tested true) cells 0 i)
          → unwrap_or r kinds ≡ first_bad (column_good bytes at kinds one other) (kinds + 1) 0
      by_case None good =
          let it = found (column_good bytes at kinds one other) (kinds + 1) in
          elim (dec_lt (first_bad (column_good bytes at kinds one other) (kinds + 1) 0) kinds) [
            | yes below ↦
                never
                (sym (it.here (omega (arith, some)))
                ∙ passed kinds (le_refl kinds) (rw (cells_long bytes at kinds within) at good) _ below)
            | no past ↦ omega (arith, some)
          ]
      by_case (Some i) met =
          let below : i < kinds = rw (cells_long bytes at kinds within) at met.0 in
          sym
          (first_is (column_good bytes at kinds one other) (kinds + 1)
          (record {
            before = passed i (omega (arith, below)) met.2;
            here = λ _. kind_column bytes at kinds one other below (cell_is bytes at kinds within below) (met.1 0);
          })
          (omega (arith, below)))
