-- The cells of a plan's rows, by the rules, and the plan of a book by its facts.
use Rattle.std.specs.Prelude.{ℕ, ◌≡◌, Bool, true, not, ◌&&◌, cond, ◌↔◌}
use Rattle.book.specs.declared.Node.{Node}
use Rattle.book.specs.declared.Node.TheVariants.{Fail, Empty, Token, Either, Then, Tagged, Ref}
use Rattle.book.specs.Book.{Book, left_of, right_of, tag_of}
use Rattle.grammar.specs.Rules.{First, Nullable}
use Rattle.lengths.specs.Least.{LeastCut}
use Rattle.running.specs.Running.{Plan}

-- marks for every node: the kinds in its FIRST set, whether it is nullable, and how many events it still wants
pub record Marks : Type 0 where
  pub first : ℕ → ℕ → Bool
  pub null : ℕ → Bool
  pub due : ℕ → ℕ

-- the marks are the facts that the rules give, and the least lengths of the runs derived, held at 65,535
pub record Marked (node : ℕ → Node) (marks : Marks) : Type 0 where
  pub first_is : (n k : ℕ) → (marks.first n k ≡ true) ↔ First node (node n) k
  pub null_is : (n : ℕ) → (marks.null n ≡ true) ↔ Nullable node (node n)
  pub due_is : (n : ℕ) → LeastCut node (node n) 65535 (marks.due n)

-- the cell of a node's row for a kind: 0 if the kind is not in FIRST(node); otherwise token 1; either 2 if the kind
-- is in FIRST(left), else 5; then 4 if left is nullable and the kind is not in FIRST(left), else 3; tagged and ref 2
unfoldable pub cell_of : Marks → ℕ → ℕ → Node → ℕ
cell_of marks k n Fail = 0
cell_of marks k n Empty = 0
cell_of marks k n (Token j) = cond (marks.first n k) 1 0
cell_of marks k n (Either l r) = cond (marks.first n k) (cond (marks.first l k) 2 5) 0
cell_of marks k n (Then l r) = cond (marks.first n k) (cond (marks.null l && not (marks.first l k)) 4 3) 0
cell_of marks k n (Tagged l t) = cond (marks.first n k) 2 0
cell_of marks k n (Ref l) = cond (marks.first n k) 2 0

-- the plan of a book by marks for its nodes
abbrev pub plan_for : Book → Marks → Plan
plan_for book marks =
    record {
      count = book.count;
      kinds = book.kinds;
      start = book.start;
      left = λ n. left_of (book.node n);
      right = λ n. right_of (book.node n);
      tag = λ n. tag_of (book.node n);
      cell = λ n k. cell_of marks k n (book.node n);
      null = marks.null;
      due = marks.due;
    }
