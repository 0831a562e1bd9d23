-- How many parts are ever held at once over all beginnings of lawful runs.
use Rattle.std.specs.Prelude.{ℕ, ◌≤◌, ◌<◌, ◌≡◌, List, [], ◌∷◌, length}
use Rattle.book.specs.Book.{Book}
use Rattle.grammar.specs.Derivations.{Begins}
use Rattle.running.specs.Running.{Plan, unlimited, taken, event}
use Rattle.running.specs.Cells.{Marks, Marked, plan_for}

-- the parts held behind events that are taken one after another, with slots without a limit: what is held before, the
-- events, what is held then
pub data After (p : Plan) : List ℕ → List ℕ → List ℕ → Type 0 where
  after_none : {held : List ℕ} → After p held [] held
  after_event : {k : ℕ} {held then run parts records : List ℕ} → event p unlimited k held ≡ taken then records
      → After p then run parts → After p held (k ∷ run) parts

-- so many parts are held behind a beginning of a lawful run, by the book's plan: the start alone before the first event
pub record HeldBehind (b : Book) (m : ℕ) : Type 0 where
  pub run : List ℕ
  pub begins : Begins b run
  pub marks : Marks
  pub marked : Marked b.node marks
  pub parts : List ℕ
  pub after : After (plan_for b marks) (b.start ∷ []) run parts
  pub many : length parts ≡ m

-- the greatest number of parts ever held at once: it is held behind some beginning, and no more behind any
pub record Greatest (b : Book) (m : ℕ) : Type 0 where
  pub reached : HeldBehind b m
  pub most : (n : ℕ) → HeldBehind b n → n ≤ m

-- there is no greatest: for every number more are held behind some beginning
abbrev pub NoGreatest : Book → Type 0
NoGreatest b = (m : ℕ) → (n : ℕ) × (m < n) × HeldBehind b n
