-- Reading a tree's records in turn: what is due, what may stand there, and what is due then.
use Rattle.std.specs.Prelude.{ℕ, ◌≡◌, Bool, true, false, ◌&&◌, ◌||◌, cond, ◌↔◌, List, [], ◌∷◌, eqb}
use Rattle.book.specs.Book.{Book}
use Rattle.book.specs.declared.Node.{Node}
use Rattle.book.specs.declared.Node.TheVariants.{Fail, Empty, Token, Either, Then, Tagged, Ref}
use Rattle.grammar.specs.Rules.{First, Nullable}
use Rattle.running.specs.Running.{emptied}
use Rattle.trees.specs.declared.Due.{Due}
use Rattle.trees.specs.declared.Due.TheVariants.{Nothing, Part, Taking, OneOf, Both}
use Rattle.trees.specs.Trees.{is_emptied}

-- what each node can do: take an event, take none
pub record Powers : Type 0 where
  pub takes : ℕ → Bool
  pub null : ℕ → Bool

-- they are as the rules give it: a node takes an event if its FIRST is not empty, and none if it is nullable
pub record PowersOf (node : ℕ → Node) (powers : Powers) : Type 0 where
  pub takes_is : (n : ℕ) → (powers.takes n ≡ true) ↔ ((k : ℕ) × First node (node n) k)
  pub null_is : (n : ℕ) → (powers.null n ≡ true) ↔ Nullable node (node n)

-- how the reading stands: what is due next, and the nodes whose parts are due behind it, with or without events
pub record State : Type 0 where
  pub due : Due
  pub held : List ℕ

abbrev pub state : Due → List ℕ → State
state due held = record { due = due; held = held }

-- a part is whole: the next is due, or nothing
unfoldable pub next : List ℕ → State
next [] = state Nothing []
next (n ∷ held) = state (Part n) held

-- behind the record of a node that takes an event
unfoldable pub opened : Node → List ℕ → State
opened Fail held = next held
opened Empty held = next held
opened (Token k) held = next held
opened (Either l r) held = state (OneOf l r) held
opened (Then l r) held = state (Both l r) held
opened (Tagged l t) held = state (Taking l) held
opened (Ref l) held = state (Taking l) held

-- what is held behind the part that is due
unfoldable pub kept : Due → List ℕ → List ℕ
kept Nothing held = held
kept (Part n) held = held
kept (Taking n) held = held
kept (OneOf l r) held = held
kept (Both l r) held = r ∷ held

-- behind an empty record
unfoldable pub lapsed : Due → List ℕ → State
lapsed Nothing held = next held
lapsed (Part n) held = next held
lapsed (Taking n) held = next held
lapsed (OneOf l r) held = next held
lapsed (Both l r) held = state (Taking r) held

-- what a record may be
module _ (powers : Powers) where
  -- the record of a node that takes an event, and the empty record of a node
  abbrev pub stands : ℕ → ℕ → Bool
  stands n given = eqb given n && powers.takes n

  abbrev pub blank : ℕ → ℕ → Bool
  blank n given = eqb given (emptied n) && powers.null n

  -- whether a record may stand where this is due
  unfoldable pub allows : Due → ℕ → Bool
  allows Nothing given = false
  allows (Part n) given = stands n given || blank n given
  allows (Taking n) given = stands n given
  allows (OneOf l r) given = stands l given || stands r given
  allows (Both l r) given = stands l given || (blank l given && powers.takes r)

-- what a record does: the reading goes on, or no tree begins so
pub data Next : Type 0 where
  goes : State → Next
  stops : Next

module _ (node : ℕ → Node) where
  -- behind a record that may stand where this is due
  unfoldable pub behind : Due → List ℕ → ℕ → State
  behind due held given = cond (is_emptied given) (lapsed due held) (opened (node given) (kept due held))

  module _ (powers : Powers) where
    -- a record, where the reading stands so
    unfoldable pub step : State → ℕ → Next
    step s given = cond (allows powers s.due given) (goes (behind s.due s.held given)) stops

    -- on after what a record does, and records in turn
    unfoldable pub onward : Next → (State → Next) → Next
    onward (goes s) rest = rest s
    onward stops rest = stops

    unfoldable pub reads : State → List ℕ → Next
    reads s [] = goes s
    reads s (given ∷ more) = onward (step s given) (λ t. reads t more)

-- records from the start on
unfoldable pub read_tree : Book → Powers → List ℕ → Next
read_tree b powers records = reads b.node powers (state (Part b.start) []) records
