-- The plan of a well-formed book is judged done, and is the plan of the book's marks.
use mathlib.Core.Path.{◌≡◌, refl, sym, ap, ◌∙◌}
use mathlib.Core.Bool.{Bool, true, false, not, ◌&&◌, cond}
use mathlib.Core.List.{List}
use Prim.Native.Nat.{ℕ, ◌≤◌, ◌<◌}
use native.Mathlib.Nat.{le_of_eq}
use native.Mathlib.Omega.{arith}
use borrow.Author.Tests.{eq-eqb, le-leb}
use lib.Dec.{eqb}
use lib.ListN.{length}
use Rattle.words.proofs.Tests.{joined}
use Rattle.book.specs.Book.{Book, WellFormed, left_of, right_of}
use Rattle.book.specs.Decode.{nodes}
use Rattle.book.specs.Form.{judged, DONE}
use Rattle.book.specs.declared.Node.{Node}
use Rattle.book.specs.declared.Node.TheVariants.{Fail, Empty, Token, Either, Then, Tagged, Ref}
use Rattle.book.proofs.Decoded.{nodes_below}
use Rattle.running.specs.Cells.{Marks, cell_of, plan_for}
use Rattle.plan.specs.Form.{plan_nodes_at, plan_count, plan_of, plan_from}
use Rattle.plan.specs.Form.{size_good, plan_good, has_cell, plan_judged}
use Rattle.running.specs.Running.{reading}
use Rattle.writer.specs.Bytes.{plan_bytes}
use Rattle.running.proofs.Agrees.{Agree, reading_agrees}
use Rattle.plan.proofs.Children.{left_below, right_below}
use Rattle.plan.proofs.Laws.{CellsGood, cells_done}
use Rattle.writer.proofs.PlanBytes.{size_is, count_is, kinds_is, start_is, contents_are_lem, settings_good_lem, node_is, none_bad}
use Rattle.writer.proofs.PlanBytes.{cell_is, mark_is}

-- what holds of both of two cells holds of the one that a test chooses
chosen : (P : ℕ → Type 0) (b : Bool) {x y : ℕ} → P x → P y → P (cond b x y)
chosen P true x y = x
chosen P false x y = y

-- the cells of the marks are ones that the node's type has
module _ (marks : Marks) (k n : ℕ) where
  abbrev Has : Node → ℕ → Type 0
  Has node cell = has_cell node cell ≡ true

  cell_has : (node : Node) → Has node (cell_of marks k n node)
  unfolding cell_of
  cell_has Fail = refl
  cell_has Empty = refl
  cell_has (Token j) = chosen (Has (Token j)) (marks.first n k) refl refl
  cell_has (Either l r) = chosen (Has (Either l r)) (marks.first n k) (chosen (Has (Either l r)) (marks.first l k) refl refl) refl
  cell_has (Then l r) =
      chosen (Has (Then l r)) (marks.first n k) (chosen (Has (Then l r)) (marks.null l && not (marks.first l k)) refl refl) refl
  cell_has (Tagged l t) = chosen (Has (Tagged l t)) (marks.first n k) refl refl
  cell_has (Ref l) = chosen (Has (Ref l)) (marks.first n k) refl refl

module _ (book : Book) (marks : Marks) (formed : WellFormed book) where
  abbrev count : ℕ
  count = book.count

  abbrev kinds : ℕ
  kinds = book.kinds

  abbrev plan : List ℕ
  plan = plan_bytes book marks

  -- size, contents, settings and nodes are good
  size_good_lem : size_good (length plan) count kinds ≡ true
  size_good_lem =
      joined _ _ (joined _ _ (eq-eqb _ _ (size_is book marks)) (le-leb 1 _ formed.some_node))
      (le-leb _ 512 formed.few_nodes)

  form_good : plan_good plan count kinds ≡ true
  unfolding plan_good
  form_good =
      joined _ _ size_good_lem
      (joined _ _ (joined _ _ (contents_are_lem book marks formed) (settings_good_lem book marks formed))
      (le-leb count _ (le_of_eq (sym (none_bad book marks formed)))))

  cells_are_good : CellsGood plan count kinds
  cells_are_good =
      record {
        kind_cell =
            λ n k below kind.
            rw (node_is book marks formed n below, cell_is book marks n k below kind) (cell_has marks k n (book.node n));
        last_cell =
            λ n below. rw (mark_is book marks n below) (chosen (λ mark. mark ≤ 1) (marks.null n) (omega arith) (omega arith));
      }

  pub plan_done : plan_judged plan ≡ judged DONE 0
  unfolding plan_judged
  plan_done = rw (count_is book marks formed, kinds_is book marks formed, form_good) (cells_done plan count kinds cells_are_good)

  pub plan_agrees : Agree (plan_for book marks) (plan_of plan)
  unfolding plan_from
  plan_agrees =
      record {
        count = sym counted;
        kinds = sym (kinds_is book marks formed);
        start = sym (start_is book marks formed);
        start_below = formed.start_below;
        left = λ n below. ap left_of (looked_up n below);
        right = λ n below. ap right_of (looked_up n below);
        left_below = λ n below. left_below below (formed.proper n below);
        right_below = λ n below. right_below below (formed.proper n below);
        cell = λ n k below kind. rw (counted, kinds_is book marks formed) (sym (cell_is book marks n k below kind));
        null = λ n below. rw (counted, kinds_is book marks formed, mark_is book marks n below) (marked (marks.null n));
      }
    where
      counted : plan_count plan ≡ count
      counted = count_is book marks formed

      looked_up : (n : ℕ) → n < count → book.node n ≡ nodes plan plan_nodes_at (plan_count plan) n
      looked_up n below =
          sym (node_is book marks formed n below) ∙ sym (nodes_below plan plan_nodes_at _ n (rw counted below))

      marked : (b : Bool) → b ≡ eqb (cond b 1 0) 1
      marked true = refl
      marked false = refl

  -- the plan's bytes read as the marks say
  pub plan_reads : (free : ℕ → Bool) (run : List ℕ) → reading (plan_of plan) free run ≡ reading (plan_for book marks) free run
  plan_reads free run = sym (reading_agrees plan_agrees free run)
