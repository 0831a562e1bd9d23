-- What it is for kinds to be numbered by first appearance.
use Rattle.std.specs.Prelude.{ℕ, ◌<◌, ◌≡◌, ◌≢◌, true, false, List, [], length, get_or}
use Rattle.sheets.specs.Nodes.{among, number_of}

-- the kinds among words, where some words name rules: no rule's name, each one of the words, none left out, and none
-- twice; a kind with a lower number stands first at an earlier place
pub record ByFirstAppearance (names words kinds : List (List ℕ)) : Type 0 where
  pub no_rule : (k : ℕ) → k < length kinds → among (get_or kinds k []) names ≡ false
  pub appears : (k : ℕ) → k < length kinds → among (get_or kinds k []) words ≡ true
  pub none_left-out : (w : List ℕ) → among w words ≡ true → among w names ≡ false → among w kinds ≡ true
  pub none_twice : (i j : ℕ) → i < j → j < length kinds → get_or kinds i [] ≢ get_or kinds j []
  pub in_order : (i j : ℕ) → i < j → j < length kinds
      → number_of (get_or kinds i []) words < number_of (get_or kinds j []) words
