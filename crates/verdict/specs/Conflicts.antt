-- What the functions that judge a book answer: the facts in a table, and what clashes at a node.
use Rattle.std.specs.Prelude.{ℕ, ◌≤◌, ◌≡◌, Bool, false, cond, List, length}
use Rattle.kinds.specs.Kinds.{in_both, has?}
use Rattle.book.specs.declared.Node.{Node}
use Rattle.book.specs.declared.Node.TheVariants.{Fail, Empty, Token, Either, Then, Tagged, Ref}
use Rattle.book.specs.Form.{DONE, form_of, book_of}
use Rattle.grammar.specs.Rules.{Conflict}
use Rattle.rules.specs.declared.NodeFacts.{NodeFacts}
use Rattle.rules.specs.Facts as rules
use Rattle.rules.specs.Facts.{table_size}
use Rattle.rules.specs.Growth.{Narrow}
use Rattle.verdict.specs.declared.Clash.{Clash}
use Rattle.verdict.specs.declared.Verdict.{Verdict}
use Rattle.verdict.specs.Judges.{Judges, Told}

-- a book of good form with so many nodes
pub record GoodBook (bytes : List ℕ) (count : ℕ) : Type 0 where
  pub form : (form_of bytes).number ≡ DONE
  pub count_is : count ≡ (book_of bytes).count

-- such a book, whose facts stand in a table's numbers, 64-bit numbers all
pub record Known (bytes : List ℕ) (count : ℕ) (table : List ℕ) : Type 0 where
  pub good : GoodBook bytes count
  pub long : table_size count ≤ length table
  pub facts : rules.Facts (book_of bytes).node count table
  pub narrow : Narrow table

-- a book's bytes, and a table's numbers
pub record Facts : Type 0 where
  pub bytes : List ℕ
  pub table : List ℕ

abbrev pub facts_of : List ℕ → List ℕ → Facts
facts_of bytes table = record { bytes = bytes; table = table }

-- the table has the facts of the book, which is of good form
pub record AtHand (facts : Facts) : Type 0 where
  pub known : Known facts.bytes (book_of facts.bytes).count facts.table

-- what judging leaves: the verdict, and in the table the facts of a book that passes
pub record Leaves (bytes : List ℕ) (verdict : Verdict) (table : List ℕ) : Type 0 where
  pub judges : Judges bytes verdict
  pub known : verdict.number ≡ DONE → Known bytes (book_of bytes).count table

-- what clashes at a node by the facts of its left and right
unfoldable pub clash_of : Node → NodeFacts → NodeFacts → Clash
clash_of Fail left right = record { both = false; kinds = 0 }
clash_of Empty left right = record { both = false; kinds = 0 }
clash_of (Token k) left right = record { both = false; kinds = 0 }
clash_of (Either l r) left right = record {
  both = has? (in_both left.nullable right.nullable) 0;
  kinds = in_both left.first right.first;
}
clash_of (Then l r) left right = record { both = false; kinds = in_both left.snf right.first }
clash_of (Tagged l t) left right = record { both = false; kinds = 0 }
clash_of (Ref l) left right = record { both = false; kinds = 0 }

-- a test as a flag: 1 if it holds, else 0
abbrev pub flag : Bool → ℕ
flag test = cond test 1 0

-- a node has a conflict, and what clashes there is told
pub record Clashes (node : ℕ → Node) (at : Node) (clash : Clash) : Type 0 where
  pub conflict : Conflict node at
  pub told : Told node at (flag clash.both) clash.kinds
