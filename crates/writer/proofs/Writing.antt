-- What the plan writer is called with, and the row that it writes for a node.
use mathlib.Core.Path.{◌≡◌, refl, sym, ap, ap₂, ◌∙◌}
use mathlib.Core.Bool.{cond}
use mathlib.Core.List.{List, [], ◌∷◌, ◌++◌, append_assoc}
use Prim.Native.Nat.{ℕ, min, ◌+◌, ◌-◌, ◌≤◌, ◌<◌}
use native.Mathlib.Omega.{arith}
use borrow.Author.Tests.{lt-ltb}
use Rattle.std.proofs.lemmas.Bool.Decides.{nat_tests}
use lib.ListN.{length, length-append}
use lib.Seq.{sets, length-sets}
use Rattle.kinds.specs.Kinds.{has?}
use Rattle.words.specs.Lists.{values_from, lists_from}
use Rattle.words.specs.Words.{with_u16, word_bytes, zeros}
use Rattle.words.proofs.Stored.{sets_then, sets_word}
use Rattle.book.specs.Book.{left_of}
use Rattle.book.specs.Form.{DONE, form_of, book_of}
use Rattle.book.specs.declared.Node.{Node}
use Rattle.book.specs.declared.Node.TheVariants.{Fail, Empty, Token, Either, Then, Tagged, Ref}
use Rattle.book.proofs.Decoded.{formed, well_formed}
use Rattle.rules.specs.declared.NodeFacts.{NodeFacts}
use Rattle.rules.specs.Facts.{facts_at}
use Rattle.lengths.specs.Least.{length_at}
use Rattle.lengths.specs.Falling.{smaller}
use Rattle.running.specs.Cells.{Marks, cell_of}
use Rattle.plan.specs.Form.{plan_settings_at, rows_at, row_at, dues_at, plan_size}
use Rattle.plan.specs.Rows.{one_cell}
use Rattle.writer.specs.Bytes.{plan_contents, book_body, row_of, rows_of, dues_of, plan_bytes}
use Rattle.writer.specs.Table.{marks_of, with_due, due_by, due_bytes, far_cell, row_by, Writable, ClearFrom}
use Rattle.plan.proofs.Children.{left_below}
use Rattle.writer.proofs.PlanBytes.{contents_long, body_long, length_row, length_rows, size_is}
use Rattle.writer.proofs.Row.{row_by_lem}
use Rattle.plan.proofs.Rows.{row_within}
use Rattle.writer.proofs.StoredByKinds.{clear_zeros, clear_behind}
use Rattle.words.proofs.Stored.{sets-zeros}

-- a buffer of the same length serves as well
pub writable_kept : {book table plan other : List ℕ} {count kinds : ℕ} → length other ≡ length plan → Writable book table plan count kinds
    → Writable book table other count kinds
writable_kept long w =
    record {
      form = w.form;
      count_is = w.count_is;
      kinds_is = w.kinds_is;
      table_long = w.table_long;
      plan_long = rw long w.plan_long;
    }

-- what is due changes no cell
cell_due : (marks : Marks) (lengths : List ℕ) (count k n : ℕ) (node : Node) → cell_of marks k n node ≡ cell_of (with_due marks lengths count) k n node
unfolding cell_of with_due
cell_due marks lengths count k n Fail = refl
cell_due marks lengths count k n Empty = refl
cell_due marks lengths count k n (Token j) = refl
cell_due marks lengths count k n (Either l r) = refl
cell_due marks lengths count k n (Then l r) = refl
cell_due marks lengths count k n (Tagged l t) = refl
cell_due marks lengths count k n (Ref l) = refl

-- the least of two numbers is the smaller
min_is : (a b : ℕ) → min a b ≡ smaller a b
min_is a b = grind (arith, nat_tests)

-- a length held at 65,535 and written as a 16-bit number is what is due
pub due_stored : (l lengths : List ℕ) {next : List ℕ} (at n count : ℕ) {value size : ℕ} → n < count → size ≡ length_at lengths n
    → value ≡ min size 65535 → next ≡ with_u16 l at value → next ≡ sets l at (due_bytes lengths count n)
due_stored l lengths at n count {value} below length_is value-is is =
    is ∙ sets_word l at value ∙ ap (λ (v : ℕ). sets l at (word_bytes (v ∷ []))) due
  where
    due : value ≡ due_by lengths count n
    due = rw (lt-ltb n count below) (value-is ∙ min_is _ _ ∙ ap (λ (v : ℕ). smaller v 65535) length_is)

-- the row that a node gets by a table of facts
module _ (book : List ℕ) (form : (form_of book).number ≡ DONE) {n : ℕ} {node : Node} (below : n < (book_of book).count)
    (node_is : node ≡ (book_of book).node n) where
  pub left_small : left_of node < (book_of book).count
  left_small = left_below below (rw (← node_is) at ((well_formed (formed book form)).proper n below))

  pub row_is : (table : List ℕ) {left near far mark skip : ℕ} {facts left-facts : NodeFacts} → left ≡ left_of node → facts ≡ facts_at table n
      → left-facts ≡ facts_at table left → near ≡ one_cell node → far ≡ far_cell node skip → skip ≡ cond (has? left-facts.nullable 0) 4 3
      → mark ≡ cond (has? facts.nullable 0) 1 0
      → row_by facts.first left-facts.first near far (book_of book).kinds mark ≡ row_of (marks_of table (book_of book).count) (book_of book) n
  row_is table left_is facts_are left-facts-are near-is far-is skip_is mark_is =
      rw (mark_is, far-is, skip_is, facts_are, left-facts-are, near-is, left_is, node_is)
      (row_by_lem table (book_of book).count n below (book_of book) (rw node_is at left_small))

module _ {book table plan : List ℕ} {count kinds : ℕ} (w : Writable book table plan count kinds) where
  pub row_fits : {n at : ℕ} → n < count → at ≡ row_at count kinds n → at + (kinds + 1) ≤ length plan
  row_fits below is = omega (arith, w.plan_long, row_within count kinds below)

  pub row_length : (n : ℕ) → length (row_of (marks_of table count) (book_of book) n) ≡ kinds + 1
  row_length n = length_row (marks_of table count) (book_of book) n ∙ ap (λ (k : ℕ). k + 1) (sym w.kinds_is)

  pub rows_are : lists_from (row_of (marks_of table count) (book_of book)) count 0 ≡ rows_of (marks_of table count) (book_of book)
  unfolding rows_of
  rows_are = ap (λ (m : ℕ). lists_from (row_of (marks_of table count) (book_of book)) m 0) w.count_is

  -- the dues of a table of lengths are those of marks with them, which have the rows of the marks without
  pub dues_are : (lengths : List ℕ)
      → lists_from (due_bytes lengths count) count 0 ≡ dues_of (with_due (marks_of table count) lengths count) (book_of book)
  unfolding dues_of with_due
  dues_are lengths = ap (λ (m : ℕ). lists_from (due_bytes lengths count) m 0) w.count_is

  pub same_rows : (lengths : List ℕ)
      → rows_of (marks_of table count) (book_of book) ≡ rows_of (with_due (marks_of table count) lengths count) (book_of book)
  unfolding rows_of row_of with_due
  same_rows lengths =
      λ i. lists_from
      (λ n. values_from (λ k. cell_due (marks_of table count) lengths count k n ((book_of book).node n) i) (book_of book).kinds 0
      ++ (cond ((marks_of table count).null n) 1 0 ∷ []))
      (book_of book).count
      0

  -- settings and nodes reach to where the rows begin
  body_to_rows : plan_settings_at + length (book_body (book_of book)) ≡ rows_at count
  body_to_rows = rw w.count_is (body_long (book_of book))

  -- contents, settings and nodes stored in a clear buffer leave it clear where the rows begin
  pub rows_ready : {one two : List ℕ} → plan ≡ zeros (length plan) → one ≡ sets plan 0 (plan_contents count kinds)
      → two ≡ sets one plan_settings_at (book_body (book_of book)) → Writable book table two count kinds × ClearFrom two (rows_at count)
  rows_ready {one} {two} clear first second = (
    writable_kept
        (ap length second ∙ length-sets one plan_settings_at (book_body (book_of book)) ∙ ap length first
        ∙ length-sets plan 0 (plan_contents count kinds))
        w,
    clear_behind (book_body (book_of book))
        (clear_behind {behind = plan_settings_at} (plan_contents count kinds) (clear_zeros (length plan) 0 clear) first
        (omega (arith, contents_long count kinds)))
        second
        (sym body_to_rows),
  )

  -- contents, settings and nodes, and rows and dues, stored one behind the other in a cleared buffer, are the plan and zeros behind it
  module _ (marks : Marks) where
    abbrev rows : List ℕ
    rows = rows_of marks (book_of book)

    abbrev written : List ℕ
    written = plan_bytes (book_of book) marks

    abbrev dues : List ℕ
    dues = dues_of marks (book_of book)

    parts_are : plan_contents count kinds ++ (book_body (book_of book) ++ (rows ++ dues)) ≡ written
    unfolding plan_bytes
    parts_are = ap₂ (λ (c k : ℕ). plan_contents c k ++ (book_body (book_of book) ++ (rows ++ dues))) w.count_is w.kinds_is

    rows_to_dues : rows_at count + length rows ≡ dues_at count kinds
    rows_to_dues = rw (w.count_is, w.kinds_is) (omega (arith, length_rows marks (book_of book)))

    pub plan-written : {cleared one two three four : List ℕ} → cleared ≡ zeros (length plan) → one ≡ sets cleared 0 (plan_contents count kinds)
        → two ≡ sets one plan_settings_at (book_body (book_of book)) → three ≡ sets two (rows_at count) rows
        → four ≡ sets three (dues_at count kinds) dues → four ≡ written ++ zeros (length plan - plan_size count kinds)
    plan-written clear first second third fourth =
        fourth
        ∙ rw (third, second, first, clear)
        (ap (λ (l : List ℕ). sets (sets l (rows_at count) rows) (dues_at count kinds) dues)
        (sets_then (zeros (length plan)) 0 contents plan_settings_at body (omega (arith, contents_long count kinds)))
        ∙ ap (λ (l : List ℕ). sets l (dues_at count kinds) dues)
        (sets_then (zeros (length plan)) 0 (contents ++ body) (rows_at count) rows
        (omega (arith, contents_long count kinds, length-append contents body, body_to_rows)))
        ∙ sets_then (zeros (length plan)) 0 ((contents ++ body) ++ rows) (dues_at count kinds) dues
        (omega (
          arith,
          contents_long count kinds,
          length-append (contents ++ body) rows,
          length-append contents body,
          body_to_rows,
          rows_to_dues,
        ))
        ∙ rw (append_assoc, append_assoc, parts_are)
        (sets-zeros (length plan) written (omega (arith, size, w.plan_long))
        ∙ ap (λ (m : ℕ). written ++ zeros (length plan - m)) size))
      where
        contents : List ℕ
        contents = plan_contents count kinds

        body : List ℕ
        body = book_body (book_of book)

        size : length written ≡ plan_size count kinds
        size = rw (w.count_is, w.kinds_is) (size_is (book_of book) marks)
