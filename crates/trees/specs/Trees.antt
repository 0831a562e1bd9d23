-- The trees of a book, and the events in them.
use Rattle.std.specs.Prelude.{ℕ, Bool, cond, List, [], ◌∷◌, ◌++◌, leb, length}
use Rattle.words.specs.Beginnings.{Parts, Lacks}
use Rattle.book.specs.Book.{Book}
use Rattle.book.specs.declared.Node.{Node}
use Rattle.book.specs.declared.Node.TheVariants.{Fail, Empty, Token, Either, Then, Tagged, Ref}
use Rattle.meaning.specs.Meaning.{Accepts}

-- a tree of a book: the records of a derivation by the start, of a run of any length
pub record Tree (b : Book) (records : List ℕ) : Type 0 where
  pub run : List ℕ
  pub accepts : Accepts b run records

-- where records are wrong: at the first at which no tree begins so, or at their count where more is due
pub data Wrong (b : Book) (records : List ℕ) : ℕ → Type 0 where
  wrong_at : {i : ℕ} → Parts (Tree b) records i → Wrong b records i
  more_due : Lacks (Tree b) records → Wrong b records (length records)

-- whether a record is an empty one
abbrev pub is_emptied : ℕ → Bool
is_emptied given = leb 32768 given

-- the events that a node takes by itself: a token one of its kind
unfoldable pub own_events : Node → List ℕ
own_events Fail = []
own_events Empty = []
own_events (Token k) = k ∷ []
own_events (Either l r) = []
own_events (Then l r) = []
own_events (Tagged l t) = []
own_events (Ref l) = []

module _ (node : ℕ → Node) where
  -- the events of a record
  unfoldable pub events_at : ℕ → List ℕ
  events_at given = cond (is_emptied given) [] (own_events (node given))

  -- the events of records in turn
  unfoldable pub events : List ℕ → List ℕ
  events [] = []
  events (given ∷ more) = events_at given ++ events more
