-- The form of a plan, and the plan that bytes are.
use Rattle.std.specs.Prelude.{ℕ, ◌+◌, ◌*◌, ◌/◌, ◌%◌, ◌≤◌, ◌<◌, ◌≡◌, Bool, ◌&&◌, ◌||◌, cond, List, [], ◌∷◌, ltb, leb, eqb, length, get_or}
use Rattle.words.specs.Words.{u16_at}
use Rattle.forms.specs.Forms.{contents_size, section_at, form_size, contents_are}
use Rattle.book.specs.Book.{left_of, right_of, tag_of}
use Rattle.words.specs.Lists.{first_bad}
use Rattle.book.specs.Decode.{node_at, nodes, node_good}
use Rattle.book.specs.Form.{DONE, judged, settings_good}
use Rattle.book.specs.declared.Judged.{Judged}
use Rattle.book.specs.declared.Node.{Node}
use Rattle.book.specs.declared.Node.TheVariants.{Fail, Empty, Token, Either, Then, Tagged, Ref}
use Rattle.running.specs.Running.{Plan}

-- the answers' numbers
abbrev pub PLAN-FORM : ℕ
PLAN-FORM = 8

abbrev pub CELL : ℕ
CELL = 9

-- the sections of a plan with so many nodes and kinds, by their sizes: settings, nodes, rows and what is due
abbrev pub plan_sections : ℕ → ℕ → List ℕ
plan_sections count kinds = 4 ∷ (6 * count) ∷ (count * (kinds + 1)) ∷ (2 * count) ∷ []

-- where a plan's settings and nodes begin, whatever its counts, and its rows, and a node's row
abbrev pub plan_settings_at : ℕ
plan_settings_at = section_at (plan_sections 0 0) 1

abbrev pub plan_nodes_at : ℕ
plan_nodes_at = section_at (plan_sections 0 0) 2

abbrev pub rows_at : ℕ → ℕ
rows_at count = section_at (plan_sections count 0) 3

abbrev pub row_at : ℕ → ℕ → ℕ → ℕ
row_at count kinds n = rows_at count + n * (kinds + 1)

-- where what is due begins, and a node's number there
abbrev pub dues_at : ℕ → ℕ → ℕ
dues_at count kinds = section_at (plan_sections count kinds) 4

abbrev pub due_at : ℕ → ℕ → ℕ → ℕ
due_at count kinds n = dues_at count kinds + 2 * n

-- a plan's size: 30 + 6N + N(K + 1) + 2N
abbrev pub plan_size : ℕ → ℕ → ℕ
plan_size count kinds = form_size (plan_sections count kinds)

-- a plan's nodes, by the length of section 2 in its contents, and its kinds and start, by its settings
unfoldable pub plan_count : List ℕ → ℕ
plan_count bytes = u16_at bytes (contents_size 1 + 4) / 6

unfoldable pub plan_kinds : List ℕ → ℕ
plan_kinds bytes = u16_at bytes plan_settings_at

unfoldable pub plan_start : List ℕ → ℕ
plan_start bytes = u16_at bytes (plan_settings_at + 2)

-- the cell of a node's row in a column; the last column, K, is the row's nullable mark
unfoldable pub cell_at : List ℕ → ℕ → ℕ → ℕ → ℕ → ℕ
cell_at bytes count kinds n column = get_or bytes (row_at count kinds n + column) 0

-- the plan that bytes with so many nodes and kinds are
unfoldable pub plan_from : List ℕ → ℕ → ℕ → Plan
plan_from bytes count kinds =
    record {
      count = count;
      kinds = kinds;
      start = plan_start bytes;
      left = λ n. left_of (nodes bytes plan_nodes_at count n);
      right = λ n. right_of (nodes bytes plan_nodes_at count n);
      tag = λ n. tag_of (nodes bytes plan_nodes_at count n);
      cell = λ n k. cell_at bytes count kinds n k;
      null = λ n. eqb (cell_at bytes count kinds n kinds) 1;
      due = λ n. u16_at bytes (due_at count kinds n);
    }

-- the plan that bytes are
abbrev pub plan_of : List ℕ → Plan
plan_of bytes = plan_from bytes (plan_count bytes) (plan_kinds bytes)

-- a plan's length is that of its nodes and kinds, for 1 to 512 nodes
abbrev pub size_good : ℕ → ℕ → ℕ → Bool
size_good size count kinds = eqb size (plan_size count kinds) && leb 1 count && leb count 512

-- the form of a plan: its length, contents, settings and nodes
unfoldable pub plan_good : List ℕ → ℕ → ℕ → Bool
plan_good bytes count kinds =
    size_good (length bytes) count kinds
    && (contents_are bytes (plan_sections count kinds) && settings_good bytes plan_settings_at count
    && leb count (first_bad (node_good bytes plan_nodes_at kinds count) count 0))

-- whether a cell for a kind is one that a node's type has
abbrev pub has_cell : Node → ℕ → Bool
has_cell Fail cell = eqb cell 0
has_cell Empty cell = eqb cell 0
has_cell (Token k) cell = eqb cell 0 || eqb cell 1
has_cell (Either l r) cell = eqb cell 0 || eqb cell 2 || eqb cell 5
has_cell (Then l r) cell = eqb cell 0 || eqb cell 3 || eqb cell 4
has_cell (Tagged l t) cell = eqb cell 0 || eqb cell 2
has_cell (Ref l) cell = eqb cell 0 || eqb cell 2

module _ (bytes : List ℕ) (count kinds : ℕ) where
  -- whether the cell at a place, row times (K + 1) plus column, is one that its node's type has, or a last cell up to 1
  unfoldable pub cell_good : ℕ → Bool
  cell_good place =
      let row = place / (kinds + 1) in
      let column = place % (kinds + 1) in
      let cell = get_or bytes (rows_at count + place) 0 in
      cond (ltb column kinds) (has_cell (node_at bytes plan_nodes_at row) cell) (leb cell 1)

  -- the cells' answer: done, or the first bad cell
  unfoldable pub cells_judged : Judged
  cells_judged =
      let bad = first_bad cell_good (count * (kinds + 1)) 0 in
      cond (ltb bad (count * (kinds + 1))) (judged CELL bad) (judged DONE 0)

-- a plan's form: done, or the first of 8 and 9 with its place
unfoldable pub plan_judged : List ℕ → Judged
plan_judged bytes =
    cond (plan_good bytes (plan_count bytes) (plan_kinds bytes))
    (cells_judged bytes (plan_count bytes) (plan_kinds bytes))
    (judged PLAN-FORM 0)

-- bytes that are judged a plan, with its count of nodes and its kinds
pub record Runnable (bytes : List ℕ) (count kinds : ℕ) : Type 0 where
  pub good : (plan_judged bytes).number ≡ DONE
  pub count_is : count ≡ plan_count bytes
  pub kinds_is : kinds ≡ plan_kinds bytes

-- a node's row has a cell for a kind that is at least a number
pub record RowHas (bytes : List ℕ) (n least : ℕ) : Type 0 where
  pub kind : ℕ
  pub known : kind < plan_kinds bytes
  pub high : least ≤ (plan_of bytes).cell n kind

-- plans that are alike but for what is due: as long, and the same in every byte before that section, the last
pub record AlikeButDue (one other : List ℕ) : Type 0 where
  pub long : length one ≡ length other
  pub before : (i : ℕ) → i < dues_at (plan_count one) (plan_kinds one) → get_or one i 0 ≡ get_or other i 0
