-- A list of numbers that go one way only, up or down, each telling a set that only grows: masks are sets of kinds.
use Rattle.std.specs.Prelude.{ℕ, ◌+◌, ◌^◌, ◌≤◌, ◌<◌, ◌≡◌, Bool, true, false, not, List, [], ◌∷◌, ◌⊎◌, eqb, length, get_or, set}
use Rattle.kinds.specs.Kinds.{Has, joined}

-- how a number tells a set: what it tells, the number that tells nothing, and whether numbers go up as their sets grow
pub record Told : Type 1 where
  pub tells : ℕ → ℕ → Type 0
  pub nothing : ℕ
  pub up : Bool

-- a mask tells the kinds that it has
abbrev pub masks : Told
masks = record { tells = Has; nothing = 0; up = true }

-- the sum of the numbers
unfoldable pub total : List ℕ → ℕ
total [] = 0
total (n ∷ list) = n + total list

-- a number has gone on to another, up or down
pub data GoneOn : Bool → ℕ → ℕ → Type 0 where
  went_up : {before after : ℕ} → before < after → GoneOn true before after
  went_down : {before after : ℕ} → after < before → GoneOn false before after

module _ (told : Told) where
  -- all that a list tells is by a rule: at which place, and what
  pub record Sound (By : ℕ → ℕ → Type 0) (list : List ℕ) : Type 0 where
    pub by : (i k : ℕ) → told.tells (get_or list i told.nothing) k → By i k

  -- a list tells what another does and more, all by a rule; whether any, in which case its sum has gone on
  pub record Grown (By : ℕ → ℕ → Type 0) (before after : List ℕ) (changed : Bool) : Type 0 where
    pub long : length after ≡ length before
    pub keeps : (i k : ℕ) → told.tells (get_or before i told.nothing) k
        → told.tells (get_or after i told.nothing) k
    pub adds : (i k : ℕ) → told.tells (get_or after i told.nothing) k
        → told.tells (get_or before i told.nothing) k ⊎ By i k
    pub still : changed ≡ false → after ≡ before
    pub gone_on : changed ≡ true → GoneOn told.up (total before) (total after)

  -- a node has been visited: the list has grown by a rule, and if it has not changed, it is closed at the node
  pub record Visited (By : ℕ → ℕ → Type 0) (Closed : List ℕ → ℕ → Type 0)
      (n : ℕ) (before after : List ℕ) (changed : Bool) : Type 0 where
    pub grown : Grown By before after changed
    pub closed : changed ≡ false → Closed before n

  -- the nodes below a count have been visited: the list has grown, and if it has not changed, it is closed at all
  pub record Turned (By : ℕ → ℕ → Type 0) (Closed : List ℕ → ℕ → Type 0)
      (count : ℕ) (before after : List ℕ) (changed : Bool) : Type 0 where
    pub grown : Grown By before after changed
    pub closed : changed ≡ false → (n : ℕ) → n < count → Closed before n

-- the numbers of a list are 64-bit numbers
abbrev pub Narrow : List ℕ → Type 0
Narrow list = (i : ℕ) → get_or list i 0 < 2 ^ 64

-- a list of empty sets, of a length at least
pub record Blank (least : ℕ) (sets : List ℕ) : Type 0 where
  pub long : least ≤ length sets
  pub zeros : (i : ℕ) → get_or sets i 0 ≡ 0

-- one set has been joined with another; whether it changed
pub record Joined (before after : List ℕ) (i more : ℕ) (changed : Bool) : Type 0 where
  pub sets : after ≡ set before i (joined (get_or before i 0) more)
  pub changed_is : changed ≡ not (eqb (joined (get_or before i 0) more) (get_or before i 0))
