-- What stands in the bytes of a book's plan.
use mathlib.Core.Path.{◌≡◌, refl, sym, ap, ◌∙◌}
use mathlib.Core.Bool.{true, cond}
use mathlib.Core.List.{List, [], ◌∷◌, ◌++◌}
use Prim.Native.Nat.{ℕ, ◌+◌, ◌*◌, ◌/◌, ◌%◌, ◌<◌}
use native.Mathlib.Nat.{zero-add, add-zero}
use native.Mathlib.Omega.{arith}
use lib.ListN.{length, get_or, length-append, get_or-append}
use lib.Arith.{digits_lt}
use Rattle.words.specs.Lists.{first_bad, values_from, lists_from}
use Rattle.words.specs.Words.{u16_at, word_bytes}
use Rattle.words.proofs.Bytes.{word_is, length_words}
use Rattle.words.proofs.Lists.{get_d_second, length_values, get_d_values, length_lists, get_d_lists}
use Rattle.forms.specs.Forms.{contents_of, contents_are}
use Rattle.forms.proofs.Contents.{length_contents}
use Rattle.book.specs.Book.{Book, WellFormed}
use Rattle.book.specs.Decode.{node_at, node_good}
use Rattle.book.specs.Encode.{body_words}
use Rattle.book.specs.Form.{settings_good}
use Rattle.book.proofs.Holding as holds
use Rattle.book.proofs.Holding.{holding, holding_parts}
use Rattle.running.specs.Cells.{Marks, cell_of}
use Rattle.plan.specs.Form.{plan_sections, plan_settings_at, plan_nodes_at, rows_at, row_at, due_at, plan_size}
use Rattle.plan.specs.Form.{plan_count, plan_kinds, plan_start, cell_at}
use Rattle.plan.proofs.Laws.{size_small}
use Rattle.writer.specs.Bytes.{plan_contents, book_body, row_of, rows_of, dues_of, plan_bytes}

-- contents reach to where the settings begin
pub contents_long : (count kinds : ℕ) → length (plan_contents count kinds) ≡ plan_settings_at
unfolding plan_contents
contents_long count kinds = length_words (contents_of (plan_sections count kinds)) ∙ length_contents (plan_sections count kinds)

-- settings and nodes reach from there to where the rows begin
pub body_long : (book : Book) → plan_settings_at + length (book_body book) ≡ rows_at book.count
unfolding book_body
body_long book = omega (arith, length_words (body_words book), holds.body_long book)

module _ (marks : Marks) (book : Book) where
  -- the cells for kinds in a node's row
  abbrev cells : ℕ → List ℕ
  cells n = values_from (λ k. cell_of marks k n (book.node n)) book.kinds 0

  length_cells : (n : ℕ) → length (cells n) ≡ book.kinds
  length_cells n = length_values _ book.kinds 0

  pub length_row : (n : ℕ) → length (row_of marks book n) ≡ book.kinds + 1
  unfolding row_of
  length_row n = length-append (cells n) _ ∙ ap (λ (m : ℕ). m + 1) (length_cells n)

  pub row_cell : (n k : ℕ) → k < book.kinds → get_or (row_of marks book n) k 0 ≡ cell_of marks k n (book.node n)
  unfolding row_of
  row_cell n k below =
      get_or-append (cells n) _ 0 k (omega (arith, length_cells n)) ∙ get_d_values _ book.kinds 0 k below
      ∙ ap (λ (j : ℕ). cell_of marks j n (book.node n)) (zero-add k)

  pub row_mark : (n : ℕ) → get_or (row_of marks book n) book.kinds 0 ≡ cond (marks.null n) 1 0
  unfolding row_of
  row_mark n = get_d_second (cells n) _ book.kinds 0 (omega (arith, length_cells n))

  pub length_rows : length (rows_of marks book) ≡ book.count * (book.kinds + 1)
  unfolding rows_of
  length_rows = length_lists _ _ length_row book.count 0

  -- the bytes of what is due for a node, and for all
  length_word : (n : ℕ) → length (word_bytes (marks.due n ∷ [])) ≡ 2
  length_word n = length_words (marks.due n ∷ [])

  pub length_dues : length (dues_of marks book) ≡ book.count * 2
  unfolding dues_of
  length_dues = length_lists _ _ length_word book.count 0

-- what stands behind the nodes: the rows and what is due
abbrev pub behind : Book → Marks → List ℕ
behind book marks = rows_of marks book ++ dues_of marks book

module _ (book : Book) (marks : Marks) where
  abbrev count : ℕ
  count = book.count

  abbrev kinds : ℕ
  kinds = book.kinds

  abbrev plan : List ℕ
  plan = plan_bytes book marks

  -- a plan is a form that holds the book, with the rows behind it
  plan_holds : holding (plan_sections count kinds) book (behind book marks) ≡ plan
  unfolding plan_bytes plan_contents book_body
  plan_holds = holding_parts (plan_sections count kinds) book (behind book marks)

  pub size_is : length plan ≡ plan_size count kinds
  size_is =
      ap length (sym plan_holds)
      ∙ omega (
        arith,
        holds.length_is (plan_sections count kinds) book (behind book marks),
        length-append (rows_of marks book) (dues_of marks book),
        length_rows marks book,
        length_dues marks book,
      )

  inside : (n column : ℕ) → n < count → column < kinds + 1 → n * (kinds + 1) + column < length (lists_from (row_of marks book) count 0)
  unfolding rows_of
  inside n column below within =
      omega (arith, length_rows marks book, digits_lt {q = n} {m = count} {r = column} {c = kinds + 1} below within)

  -- a row stands where it should
  pub row_stands : (n column : ℕ) → n < count → column < kinds + 1
      → get_or plan (row_at count kinds n + column) 0 ≡ get_or (row_of marks book n) column 0
  unfolding plan_bytes rows_of
  row_stands n column below within =
      let place = n * (kinds + 1) + column in
      get_d_second (plan_contents count kinds) _ _ (length (book_body book) + place)
      (omega (arith, contents_long count kinds, body_long book))
      ∙ get_d_second (book_body book) _ _ place refl
      ∙ get_or-append (lists_from (row_of marks book) count 0) _ 0 place (inside n column below within)
      ∙ get_d_lists (row_of marks book) (kinds + 1) (length_row marks book) count 0 n column below within
      ∙ ap (λ (m : ℕ). get_or (row_of marks book m) column 0) (zero-add n)

  -- the cells are those of the marks
  pub cell_is : (n k : ℕ) → n < count → k < kinds → cell_at plan count kinds n k ≡ cell_of marks k n (book.node n)
  unfolding cell_at
  cell_is n k below kind = row_stands n k below (omega arith) ∙ row_cell marks book n k kind

  pub mark_is : (n : ℕ) → n < count → cell_at plan count kinds n kinds ≡ cond (marks.null n) 1 0
  unfolding cell_at
  mark_is n below = row_stands n kinds below (omega arith) ∙ row_mark marks book n

  -- so does what is due for a node
  due_stands : (n j : ℕ) → n < count → j < 2 → get_or plan (due_at count kinds n + j) 0 ≡ get_or (word_bytes (marks.due n ∷ [])) j 0
  unfolding plan_bytes dues_of
  due_stands n j below within =
      get_d_second (plan_contents count kinds) _ _ (length (book_body book) + (count * (kinds + 1) + (n * 2 + j)))
      (omega (arith, contents_long count kinds, body_long book))
      ∙ get_d_second (book_body book) _ _ (count * (kinds + 1) + (n * 2 + j)) refl
      ∙ get_d_second (rows_of marks book) _ _ (n * 2 + j) (omega (arith, length_rows marks book))
      ∙ get_d_lists (λ m. word_bytes (marks.due m ∷ [])) 2 (λ m. length_words (marks.due m ∷ [])) count 0 n j below within
      ∙ ap (λ (m : ℕ). get_or (word_bytes (marks.due m ∷ [])) j 0) (zero-add n)

  pub due_is : (n : ℕ) → n < count → marks.due n < 65536 → u16_at plan (due_at count kinds n) ≡ marks.due n
  unfolding u16_at word_bytes
  due_is n below small =
      let low : get_or plan (due_at count kinds n) 0 ≡ marks.due n % 256 = rw add-zero at (due_stands n 0 below (omega arith)) in
      let high : get_or plan (due_at count kinds n + 1) 0 ≡ marks.due n / 256 % 256 = due_stands n 1 below (omega arith) in
      omega (arith, low, high, word_is (marks.due n) small)

  module _ (formed : WellFormed book) where
    small : plan_size count kinds < 65536
    small = omega (arith, size_small count kinds formed.few_nodes formed.few_kinds)

    -- contents, settings and nodes
    pub count_is : plan_count plan ≡ count
    unfolding plan_count
    count_is =
        rw (← plan_holds)
        (ap (λ (m : ℕ). m / 6) (holds.contents_word (plan_sections count kinds) book (behind book marks) formed small 6 (omega arith))
        ∙ omega arith)

    pub contents_are_lem : contents_are plan (plan_sections count kinds) ≡ true
    contents_are_lem = rw (← plan_holds) (holds.contents_good_lem (plan_sections count kinds) book (behind book marks) formed small)

    pub kinds_is : plan_kinds plan ≡ kinds
    unfolding plan_kinds
    kinds_is = rw (← plan_holds) (holds.kinds_is (plan_sections count kinds) book (behind book marks) formed small)

    pub start_is : plan_start plan ≡ book.start
    unfolding plan_start
    start_is = rw (← plan_holds) (holds.start_is (plan_sections count kinds) book (behind book marks) formed small)

    pub settings_good_lem : settings_good plan plan_settings_at count ≡ true
    settings_good_lem = rw (← plan_holds) (holds.settings_good_lem (plan_sections count kinds) book (behind book marks) formed small)

    pub node_is : (n : ℕ) → n < count → node_at plan plan_nodes_at n ≡ book.node n
    node_is n below = rw (← plan_holds) (holds.node_is (plan_sections count kinds) book (behind book marks) formed small n below)

    pub none_bad : first_bad (node_good plan plan_nodes_at kinds count) count 0 ≡ count
    none_bad = rw (← plan_holds) (holds.none_bad (plan_sections count kinds) book (behind book marks) formed small)
