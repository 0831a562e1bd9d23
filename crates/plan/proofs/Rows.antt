-- The rows of a plan: where they begin, and how the search for a bad cell goes from row to row.
use mathlib.Core.Path.{◌≡◌, sym, ap, ◌∙◌}
use mathlib.Core.Bool.{Bool, true, false, cond}
use mathlib.Core.List.{List}
use Prim.Native.Nat.{ℕ, ◌+◌, ◌*◌, ◌-◌, ◌≤◌, ◌<◌}
use native.Mathlib.Decide.{dec_lt}
use native.Mathlib.Nat.{le_refl, zero-mul, add-mul, mul-le-mul_right}
use native.Mathlib.Numerals.{add-one}
use native.Mathlib.Omega.{arith}
use borrow.Author.Tests.{ltb-true, ltb-false, lt-ltb, le-ltb}
use lib.Arith.{digits_lt}
use lib.Dec.{ltb, leb}
use lib.ListN.{get_or}
use Rattle.book.specs.Form.{judged, DONE}
use Rattle.book.specs.Decode.{node_at}
use Rattle.book.specs.declared.Node.{Node}
use Rattle.words.specs.Lists.{first_bad}
use Rattle.words.proofs.FirstBad.{first_none, first_past}
use Rattle.plan.specs.Form.{CELL, plan_nodes_at, rows_at, row_at, plan_size, cell_good, cells_judged}
use Rattle.plan.specs.Rows.{one_cell, other_cell, column_good, bad_column}
use Rattle.plan.proofs.Laws.{has_cell_lem, place_test}
use Rattle.plan.proofs.Searches.{Found, found, first_is}

module _ (count kinds : ℕ) where
  -- the first row begins where the rows do
  pub first_row : rows_at count ≡ row_at count kinds 0
  first_row = omega (arith, zero-mul (kinds + 1))

  -- the next row begins behind a row
  pub next_row : (n : ℕ) → row_at count kinds (n + 1) ≡ row_at count kinds n + (kinds + 1)
  next_row n = omega (arith, add-mul n 1 (kinds + 1))

  pub next_at : {at : ℕ} (n : ℕ) → at ≡ row_at count kinds n → at + (kinds + 1) ≡ row_at count kinds (n + 1)
  next_at {at} n is = ap (λ (m : ℕ). m + (kinds + 1)) is ∙ sym (next_row n)

  -- a row stands within the plan
  pub row_within : {n : ℕ} → n < count → row_at count kinds n + (kinds + 1) ≤ plan_size count kinds
  row_within {n} below = omega (arith, next_row n, mul-le-mul_right (kinds + 1) below, add-one n)

  module _ (bytes : List ℕ) where
    abbrev good : ℕ → Bool
    good = cell_good bytes count kinds

    -- two cells are those that the type of a row's node has beside 0
    pub record CellsOf (n one other : ℕ) : Type 0 where
      pub one_is : one ≡ one_cell (node_at bytes plan_nodes_at n)
      pub other_is : other ≡ other_cell (node_at bytes plan_nodes_at n)

    pub cells_of : {n one other : ℕ} {node : Node} → node ≡ node_at bytes plan_nodes_at n → one ≡ one_cell node → other ≡ other_cell node
        → CellsOf n one other
    cells_of node_is one_is other_is = record { one_is = one_is ∙ ap one_cell node_is; other_is = other_is ∙ ap other_cell node_is }

    -- a search that has come to the row n, which begins at an offset
    pub record RowsSearched (at n : ℕ) : Type 0 where
      pub passed : (place : ℕ) → place < n * (kinds + 1) → good place ≡ true
      pub at_is : at ≡ row_at count kinds n

    pub rows_none : RowsSearched (rows_at count) 0
    rows_none = record { passed = λ place below. absurd (omega (arith, zero-mul (kinds + 1))); at_is = first_row }

    pub row_inside : {at n : ℕ} → RowsSearched at n → n < count → at + (kinds + 1) ≤ plan_size count kinds
    row_inside s below = rw s.at_is (row_within below)

    module _ {at n one other : ℕ} (s : RowsSearched at n) (below : n < count) (cells : CellsOf n one other) where
      -- a row's columns are tested as its cells
      column_is : (column : ℕ) → column < kinds + 1 → good (n * (kinds + 1) + column) ≡ column_good bytes at kinds one other column
      unfolding column_good
      column_is column within =
          let cell = get_or bytes (row_at count kinds n + column) 0 in
          rw (s.at_is, cells.one_is, cells.other_is)
          (place_test bytes count kinds n column within
          ∙ ap (λ (b : Bool). cond (ltb column kinds) b (leb cell 1)) (has_cell_lem cell (node_at bytes plan_nodes_at n)))

      -- what holds of the cells of all rows before, and of some columns of a row, holds of all cells up to there
      up_to : (columns : ℕ) → columns ≤ kinds + 1 → ((column : ℕ) → column < columns → column_good bytes at kinds one other column ≡ true)
          → (place : ℕ) → place < n * (kinds + 1) + columns → good place ≡ true
      up_to columns most tested place before =
          elim (dec_lt place (n * (kinds + 1))) [
            | yes earlier ↦ s.passed place earlier
            | no past ↦
                let column = place - n * (kinds + 1) in
                let place_is : place ≡ n * (kinds + 1) + column = omega arith in
                rw place_is (column_is column (omega arith) ∙ tested column (omega arith))
          ]

      pub rows_more : {test : Bool} → test ≡ ltb kinds (bad_column bytes at kinds one other) → test ≡ true
          → RowsSearched (at + (kinds + 1)) (n + 1)
      unfolding bad_column
      rows_more test_is none_bad =
          record {
            passed =
                λ place before.
                up_to (kinds + 1) (omega arith)
                (first_none (column_good bytes at kinds one other) (kinds + 1) (omega (arith, ltb-true kinds _ (sym test_is ∙ none_bad))))
                place (omega (arith, add-mul n 1 (kinds + 1)));
            at_is = next_at n s.at_is;
          }

      pub rows_bad : {test : Bool} {column : ℕ} → test ≡ ltb kinds (bad_column bytes at kinds one other) → test ≡ false
          → column ≡ bad_column bytes at kinds one other → judged CELL (at - rows_at count + column) ≡ cells_judged bytes count kinds
      unfolding bad_column cells_judged
      rows_bad {column = column} test_is some-bad is =
          rw (first_is good (count * (kinds + 1)) it within, lt-ltb _ _ within) (ap (judged CELL) place_is)
        where
          most : column ≤ kinds
          most = rw is (ltb-false kinds _ (sym test_is ∙ some-bad))

          within : n * (kinds + 1) + column < count * (kinds + 1)
          within = digits_lt {q = n} {m = count} {r = column} {c = kinds + 1} below (omega (arith, most))

          first : Found (column_good bytes at kinds one other) (kinds + 1) column
          first = rw is (found (column_good bytes at kinds one other) (kinds + 1))

          it : Found good (count * (kinds + 1)) (n * (kinds + 1) + column)
          it =
              record {
                before = up_to column (omega (arith, most)) first.before;
                here = λ small. column_is column (omega (arith, most)) ∙ first.here (omega (arith, most));
              }

          place_is : at - rows_at count + column ≡ n * (kinds + 1) + column
          place_is = let at_is = s.at_is in omega arith

    pub rows_all : {at n : ℕ} → RowsSearched at n → count ≤ n → judged DONE 0 ≡ cells_judged bytes count kinds
    unfolding cells_judged
    rows_all {at} {n} s past =
        let least : count * (kinds + 1) ≤ n * (kinds + 1) = mul-le-mul_right (kinds + 1) past in
        let none : first_bad good (count * (kinds + 1)) 0 ≡ count * (kinds + 1) =
        first_past good (count * (kinds + 1)) (λ place below. s.passed place (omega arith)) in
        rw (none, le-ltb (count * (kinds + 1)) (count * (kinds + 1)) (le_refl _))
