-- Laws of the form of a plan: what its tests have shown, and the answer by each test.
use mathlib.Core.Path.{◌≡◌, refl, sym, ap, subst, ◌∙◌}
use mathlib.Core.Bool.{Bool, true, false, ◌&&◌, ◌||◌, cond}
use mathlib.Core.Logic.{◌⊎◌, inl, inr, ⊎_elim}
use mathlib.Core.List.{List}
use Prim.Native.Nat.{ℕ, ◌+◌, ◌*◌, ◌/◌, ◌%◌, ◌≤◌, ◌<◌}
use native.Mathlib.Decide.{dec_lt}
use native.Mathlib.Nat.{le_refl, le_of_eq, mul-le-mul, mod-lt, div-add-mod', div-lt_iff_lt-mul}
use native.Mathlib.Omega.{arith}
use borrow.Author.Tests.{ltb-true, ltb-false, leb-true, eqb-true, ne_eqb, lt-ltb, le-ltb, le-leb}
use lib.Arith.{digits_lt, digits_div, digits_mod}
use lib.Dec.{ltb, leb, eqb}
use lib.ListN.{length, get_or}
use Rattle.words.proofs.Tests.{both, holds, fails, or_cases}
use Rattle.forms.specs.Forms.{contents_are}
use Rattle.book.specs.Decode.{node_at, nodes, GoodNodes}
use Rattle.book.specs.Form.{judged, DONE, settings_good}
use Rattle.book.specs.declared.Judged.{Judged}
use Rattle.book.specs.declared.Node.{Node}
use Rattle.book.specs.declared.Node.TheVariants.{Fail, Empty, Token, Either, Then, Tagged, Ref}
use Rattle.words.proofs.FirstBad.{first_none, first_past}
use Rattle.book.proofs.Decoded.{good_nodes, nodes_below}
use Rattle.plan.specs.Form.{PLAN-FORM, CELL, plan_sections, plan_settings_at, plan_nodes_at, rows_at, row_at, plan_size}
use Rattle.plan.specs.Form.{plan_count, plan_kinds, plan_start, cell_at, size_good, plan_good, has_cell, cell_good, cells_judged, plan_judged}
use Rattle.plan.specs.Rows.{one_cell, other_cell}

-- the size of a plan of good count and kinds
pub size_small : (count kinds : ℕ) → count ≤ 512 → kinds ≤ 64 → plan_size count kinds ≤ 37406
size_small count kinds few_nodes few_kinds =
    omega (arith, mul-le-mul {n₁ = count} {m₁ = kinds + 1} {n₂ = 512} {m₂ = 65} few_nodes (omega arith))

-- what a good length says
pub record Sized (size count kinds : ℕ) : Type 0 where
  pub is : size ≡ plan_size count kinds
  pub some_node : 0 < count
  pub few_nodes : count ≤ 512

pub sized : (size count kinds : ℕ) → size_good size count kinds ≡ true → Sized size count kinds
sized size count kinds good =
    let (front, most) = both (eqb size (plan_size count kinds) && leb 1 count) _ good in
    let (is, least) = both (eqb size (plan_size count kinds)) _ front in
    record { is = eqb-true _ _ is; some_node = leb-true _ _ least; few_nodes = leb-true _ _ most }

-- what the tests of a plan of good form have shown, cells aside
pub record Formed (bytes : List ℕ) : Type 0 where
  pub size : Sized (length bytes) (plan_count bytes) (plan_kinds bytes)
  pub contents : contents_are bytes (plan_sections (plan_count bytes) (plan_kinds bytes)) ≡ true
  pub some_kind : 0 < plan_kinds bytes
  pub few_kinds : plan_kinds bytes ≤ 64
  pub start_below : plan_start bytes < plan_count bytes
  pub good : GoodNodes bytes plan_nodes_at (plan_count bytes) (plan_kinds bytes)

pub formed : (bytes : List ℕ) → plan_good bytes (plan_count bytes) (plan_kinds bytes) ≡ true → Formed bytes
unfolding plan_good plan_kinds plan_start
formed bytes good =
    let count = plan_count bytes in
    let kinds = plan_kinds bytes in
    let contents? = contents_are bytes (plan_sections count kinds) in
    let (long, rest) = both (size_good (length bytes) count kinds) _ good in
    let (front, all) = both (contents? && settings_good bytes plan_settings_at count) _ rest in
    let (contents, settings) = both contents? _ front in
    let (ends, below) = both (leb 1 kinds && leb kinds 64) _ settings in
    let (least, most) = both (leb 1 kinds) _ ends in
    let size = sized (length bytes) count kinds long in
    record {
      size = size;
      contents = contents;
      some_kind = leb-true _ _ least;
      few_kinds = leb-true _ _ most;
      start_below = ltb-true _ _ below;
      good =
          good_nodes bytes plan_nodes_at _ _ (omega (arith, size.is)) size.few_nodes (leb-true _ _ most)
          (first_none _ _ (leb-true _ _ all));
    }

-- a plan of good form has its size, a small number
pub formed_size : {bytes : List ℕ} → Formed bytes
    → (plan_size (plan_count bytes) (plan_kinds bytes) ≤ length bytes) × (plan_size (plan_count bytes) (plan_kinds bytes) < 65536)
formed_size {bytes} f =
    let size = f.size in
    (omega arith, omega (arith, size_small (plan_count bytes) (plan_kinds bytes) size.few_nodes f.few_kinds))

-- bytes too few for settings are no plan
pub short_bad : (bytes : List ℕ) (count kinds : ℕ) → length bytes < plan_nodes_at → plan_good bytes count kinds ≡ false
unfolding plan_good
short_bad bytes count kinds short = rw (ne_eqb (length bytes) (plan_size count kinds) (λ is. omega arith))

-- a cell is one that the node's type has
abbrev pub Legal : Node → ℕ → Type 0
Legal node cell = (cell ≡ 0) ⊎ ((cell ≡ one_cell node) ⊎ (cell ≡ other_cell node))

-- a test joined with itself
again : (a b : Bool) → (a || b) ≡ (a || b || b)
again true b = refl
again false true = refl
again false false = refl

thrice : (a : Bool) → a ≡ (a || a || a)
thrice true = refl
thrice false = refl

-- a cell that a node's type has is 0 or one of its two
module _ (cell : ℕ) where
  pub has_cell_lem : (node : Node) → has_cell node cell ≡ (eqb cell 0 || eqb cell (one_cell node) || eqb cell (other_cell node))
  has_cell_lem Fail = thrice (eqb cell 0)
  has_cell_lem Empty = thrice (eqb cell 0)
  has_cell_lem (Token k) = again (eqb cell 0) (eqb cell 1)
  has_cell_lem (Either l r) = refl
  has_cell_lem (Then l r) = refl
  has_cell_lem (Tagged l t) = again (eqb cell 0) (eqb cell 2)
  has_cell_lem (Ref l) = again (eqb cell 0) (eqb cell 2)

  legal_cell : (node : Node) → has_cell node cell ≡ true → Legal node cell
  legal_cell node has =
      ⊎_elim
      (λ front. ⊎_elim (λ none. inl (eqb-true cell 0 none)) (λ first. inr (inl (eqb-true cell _ first))) (or_cases (eqb cell 0) _ front))
      (λ last. inr (inr (eqb-true cell _ last)))
      (or_cases (eqb cell 0 || eqb cell (one_cell node)) (eqb cell (other_cell node)) (sym (has_cell_lem node) ∙ has))

-- what the tests of a plan that is judged done have shown
pub record Done (bytes : List ℕ) : Type 0 where
  pub formed_is : Formed bytes
  pub cell_legal : (n k : ℕ) → n < plan_count bytes → k < plan_kinds bytes
      → Legal (nodes bytes plan_nodes_at (plan_count bytes) n) (cell_at bytes (plan_count bytes) (plan_kinds bytes) n k)
  pub last_mark : (n : ℕ) → n < plan_count bytes → cell_at bytes (plan_count bytes) (plan_kinds bytes) n (plan_kinds bytes) ≤ 1

-- the answer, test by test
module _ (bytes : List ℕ) where
  pub judged_form : plan_good bytes (plan_count bytes) (plan_kinds bytes) ≡ false → plan_judged bytes ≡ judged PLAN-FORM 0
  unfolding plan_judged
  judged_form bad = rw bad

  pub judged_cells : plan_good bytes (plan_count bytes) (plan_kinds bytes) ≡ true
      → plan_judged bytes ≡ cells_judged bytes (plan_count bytes) (plan_kinds bytes)
  unfolding plan_judged
  judged_cells good = rw good

-- the cells are judged done exactly if each is good
module _ (bytes : List ℕ) (count kinds : ℕ) where
  -- every cell for a kind is one that its node's type has, every last cell 0 or 1
  pub record CellsGood : Type 0 where
    pub kind_cell : (n k : ℕ) → n < count → k < kinds → has_cell (node_at bytes plan_nodes_at n) (cell_at bytes count kinds n k) ≡ true
    pub last_cell : (n : ℕ) → n < count → cell_at bytes count kinds n kinds ≤ 1

  -- how many cells there are
  abbrev all : ℕ
  all = count * (kinds + 1)

  -- the test of a cell by its row, its column and its offset
  abbrev pub test_at : ℕ → ℕ → ℕ → Bool
  test_at n column at =
      cond (ltb column kinds) (has_cell (node_at bytes plan_nodes_at n) (get_or bytes at 0)) (leb (get_or bytes at 0) 1)

  -- the cell in a column of a row, by its place
  pub place_test : (n column : ℕ) → column < kinds + 1
      → cell_good bytes count kinds (n * (kinds + 1) + column) ≡ test_at n column (row_at count kinds n + column)
  unfolding cell_good
  place_test n column within = λ i. test_at (digits_div n within i) (digits_mod n within i) (offset i)
    where
      offset : rows_at count + (n * (kinds + 1) + column) ≡ row_at count kinds n + column
      offset = omega arith

  pub cells_good : (cells_judged bytes count kinds).number ≡ DONE → CellsGood
  unfolding cells_judged cell_at
  cells_good is =
      record {
        kind_cell = λ n k below kind. rw (lt-ltb k kinds kind) at (tested n k below (omega arith));
        last_cell = λ n below. leb-true _ _ (rw (le-ltb kinds kinds (le_refl kinds)) at (tested n kinds below (omega arith)));
      }
    where
      none_bad : (bad : ℕ) → (cond (ltb bad all) (judged CELL bad) (judged DONE 0)).number ≡ DONE → ltb bad all ≡ false
      none_bad bad done = fails _ (λ found. let z : ◌≡◌ {A = ℕ} CELL DONE = rw found at done in omega arith)

      tested : (n column : ℕ) → n < count → column < kinds + 1 → test_at n column (row_at count kinds n + column) ≡ true
      tested n column below within =
          sym (place_test n column within) ∙ first_none _ all (ltb-false _ _ (none_bad _ is)) _ (digits_lt {q = n} {m = count} below within)

  pub cells_done : CellsGood → cells_judged bytes count kinds ≡ judged DONE 0
  unfolding cells_judged cell_at
  cells_done good = rw (le-ltb _ all (le_of_eq (sym (first_past _ all each))))
    where
      tested : (n column : ℕ) → n < count → column < kinds + 1 → test_at n column (row_at count kinds n + column) ≡ true
      tested n column below within =
          elim (dec_lt column kinds) [
            | yes kind ↦ rw (lt-ltb column kinds kind) (good.kind_cell n column below kind)
            | no past ↦
                let last : column ≡ kinds = omega arith in
                rw (last, le-ltb kinds kinds (le_refl kinds)) (le-leb _ 1 (good.last_cell n below))
          ]

      each : (place : ℕ) → place < all → cell_good bytes count kinds place ≡ true
      each place below =
          let row = place / (kinds + 1) in
          let column = place % (kinds + 1) in
          let within : column < kinds + 1 = mod-lt place (omega arith) in
          subst (λ p. cell_good bytes count kinds p ≡ true) (div-add-mod' place (kinds + 1))
          (place_test row column within
          ∙ tested row column ((div-lt_iff_lt-mul {k = kinds + 1} {x = place} {y = count} (omega arith)).1 below) within)

-- what a plan that is judged done has shown
pub done : (bytes : List ℕ) → (plan_judged bytes).number ≡ DONE → Done bytes
done bytes is =
    record {
      formed_is = formed bytes form;
      cell_legal = λ n k below kind. rw nodes_below (legal_cell _ (node_at bytes plan_nodes_at n) (cells.kind_cell n k below kind));
      last_mark = cells.last_cell;
    }
  where
    form : plan_good bytes (plan_count bytes) (plan_kinds bytes) ≡ true
    form =
        holds _
        (λ bad.
        let refused : ◌≡◌ {A = ℕ} PLAN-FORM DONE = sym (ap (λ (j : Judged). j.number) (judged_form bytes bad)) ∙ is in
        omega arith)

    cells : CellsGood bytes (plan_count bytes) (plan_kinds bytes)
    cells = cells_good bytes _ _ (sym (ap (λ (j : Judged). j.number) (judged_cells bytes form)) ∙ is)
