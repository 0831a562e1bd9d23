-- How many events are still due after a run: the least number that makes it lawful, cut.
use Rattle.std.specs.Prelude.{ℕ, ◌≤◌, ◌<◌, ◌≡◌, List, ◌++◌, length}
use Rattle.book.specs.Book.{Book}
use Rattle.grammar.specs.Derivations.{Lawful}
use Rattle.drums.specs.Drums.{most_due}

-- so many events are still due after a run: no fewer make it lawful; if they are under 65,535, as many do; and they are
-- 65,535 where no fewer than that make it lawful
pub record StillDue (b : Book) (run : List ℕ) (due : ℕ) : Type 0 where
  pub none_fewer : (more : List ℕ) → Lawful b (run ++ more) → due ≤ length more
  pub as_few : due < most_due → (more : List ℕ) × Lawful b (run ++ more) × (length more ≡ due)
  pub cut : ((more : List ℕ) → Lawful b (run ++ more) → most_due ≤ length more) → due ≡ most_due
