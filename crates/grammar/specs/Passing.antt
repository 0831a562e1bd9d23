-- When a book passes, by the rules.
use Rattle.std.specs.Prelude.{ℕ, ◌<◌}
use Rattle.book.specs.Book.{Book, WellFormed}
use Rattle.grammar.specs.Rules.{Productive, Conflict, Reach}

-- every node below a number is reachable from the start
abbrev pub ReachedBelow : Book → ℕ → Type 0
ReachedBelow b n = (m : ℕ) → m < n → Reach b.node b.start m

module _ (b : Book) where
  -- every node is reachable from the start
  abbrev pub AllReached : Type 0
  AllReached = ReachedBelow b b.count

  -- the start can produce some run
  abbrev pub Fruitful : Type 0
  Fruitful = Productive b.node (b.node b.start)

  -- no node has a conflict
  abbrev pub NoConflict : Type 0
  NoConflict = (n : ℕ) → Conflict b.node (b.node n) → ⊥

-- a book passes: well formed, every node reachable, its start productive, and no node has a conflict
pub record Passes (b : Book) : Type 0 where
  pub well_formed : WellFormed b
  pub all_reached : AllReached b
  pub productive : Fruitful b
  pub no_conflict : NoConflict b
