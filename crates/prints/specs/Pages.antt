-- Bytes added to a page.
use Rattle.std.specs.Prelude.{ℕ, ◌<◌, ◌≡◌, List}
use Rattle.std.specs.Borrow.{MutBor}
use Rattle.prints.specs.Prints.{Adds}
use Rattle.prints.specs.declared.Page.{Page}

-- bytes added to a page, as far as there is room: the page stays over the buffer that it was lent
pub record Added (before after : Page) (bytes : List ℕ) : Type 0 where
  pub same : after.out.ghost_name ≡ before.out.ghost_name
  pub adds : Adds before.out.now after.out.now before.at after.at bytes

-- an adding may be called at each number below a count; and adds the list of each such number
abbrev pub CallableBelow : (MutBor Page → ℕ → Type 0) → ℕ → Type 0
CallableBelow pre count = (n : ℕ) (page : MutBor Page) → n < count → pre page n

abbrev pub AddsBelow : (MutBor Page → ℕ → Unit {0} → MutBor Page → Type 0) → ℕ → (ℕ → List ℕ) → Type 0
AddsBelow post count list = (n : ℕ) (page end : MutBor Page) → n < count → post page n tt end → Added page.now end.now (list n)
