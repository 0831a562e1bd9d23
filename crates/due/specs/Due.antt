-- What is due at a record of a tree: by which facts a record may stand there, and what can be looked back at.
use Rattle.std.specs.Prelude.{ℕ, ◌≤◌, ◌<◌, ◌≡◌, Bool, true, false, not, ◌&&◌, List, [], ◌∷◌, ltb, eqb, length, get_or}
use Rattle.words.specs.Words.{Below}
use Rattle.kinds.specs.Kinds.{has?}
use Rattle.book.specs.Book.{Book}
use Rattle.rules.specs.Facts.{facts_at}
use Rattle.trees.specs.declared.Due.{Due}
use Rattle.trees.specs.declared.Due.TheVariants.{Nothing, Part, Taking, OneOf, Both}
use Rattle.trees.specs.Trees.{is_emptied}
use Rattle.trees.specs.Machine.{Powers}

-- what the nodes below a count can do, by a table of their facts
abbrev pub powers_in : ℕ → List ℕ → Powers
powers_in count table =
    record {
      takes = λ n. ltb n count && not (eqb (facts_at table n).first 0);
      null = λ n. ltb n count && has? (facts_at table n).nullable 0;
    }

-- so many nodes, with a table of their facts, and what each can do by it
pub record Able : Type 0 where
  pub count : ℕ
  pub table : List ℕ

abbrev pub able : ℕ → List ℕ → Able
able count table = record { count = count; table = table }

abbrev pub powers_of : Able → Powers
powers_of a = powers_in a.count a.table

-- whether nothing is due
abbrev pub is_nothing : Due → Bool
is_nothing Nothing = true
is_nothing (Part n) = false
is_nothing (Taking n) = false
is_nothing (OneOf l r) = false
is_nothing (Both l r) = false

-- the nodes whose parts may be due next
unfoldable pub due_nodes : Due → List ℕ
due_nodes Nothing = []
due_nodes (Part n) = n ∷ []
due_nodes (Taking n) = n ∷ []
due_nodes (OneOf l r) = l ∷ r ∷ []
due_nodes (Both l r) = l ∷ r ∷ []

-- they are below a count
pub record DueBelow (count : ℕ) (due : Due) : Type 0 where
  pub below : Below count (due_nodes due)

-- a book, and records of which so many are looked back at: those that are no empty ones are its nodes
pub record Looked (b : Book) (records : List ℕ) (i : ℕ) : Type 0 where
  pub within : i ≤ length records
  pub below : (j : ℕ) → j < i → is_emptied (get_or records j 0) ≡ false → get_or records j 0 < b.count

-- a book's bytes, and records of which so many are looked back at
pub record Seen : Type 0 where
  pub bytes : List ℕ
  pub records : List ℕ
  pub at : ℕ

abbrev pub seen : List ℕ → List ℕ → ℕ → Seen
seen bytes records at = record { bytes = bytes; records = records; at = at }
