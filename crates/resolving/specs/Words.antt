-- The words of a sheet by their places: its rules' names, the words of its nodes, and the kinds.
use Rattle.std.specs.Prelude.{ℕ, ◌<◌, ◌≤◌, ◌≡◌, true, false, List, [], ◌∷◌, ◌++◌, length, map, take, Option, MatchOption}
use Rattle.book.specs.declared.Node.{Node}
use Rattle.book.specs.declared.Node.TheVariants.{Fail, Empty, Token, Either, Then, Tagged, Ref}
use Rattle.sheets.specs.Nodes.{among, number_of}
use Rattle.outline.specs.declared.RawNode.{RawNode}
use Rattle.outline.specs.declared.Row.{Row}
use Rattle.resolving.specs.Letters.{word_at}

-- the number of a word among words, if it is one of them
abbrev pub Found : List ℕ → List (List ℕ) → Option ℕ → Type 0
Found letters words r =
    MatchOption r (among letters words ≡ false)
    (λ n. (among letters words ≡ true) × (n ≡ number_of letters words) × (n < length words))

-- there are more than 64
abbrev pub TooMany : List (List ℕ) → Type 0
TooMany wanted = 64 < length wanted

module _ (text : List ℕ) where
  -- the words of kinds, which are put down by their places
  abbrev pub kinds_at : List ℕ → List (List ℕ)
  kinds_at kinds = map (word_at text) kinds

  -- the names of rules
  abbrev pub names_at : List Row → List (List ℕ)
  names_at rows = map (λ row. word_at text row.name) rows

  -- the word of a node, where it is one, and those of nodes
  unfoldable pub word_of_node : Node → ℕ → List (List ℕ)
  word_of_node Fail place = []
  word_of_node Empty place = []
  word_of_node (Token k) place = word_at text place ∷ []
  word_of_node (Either l r) place = []
  word_of_node (Then l r) place = []
  word_of_node (Tagged l t) place = []
  word_of_node (Ref l) place = []

  unfoldable pub words_of_nodes : List RawNode → List (List ℕ)
  words_of_nodes [] = []
  words_of_nodes (raw ∷ more) = word_of_node raw.node raw.place ++ words_of_nodes more

  -- kinds are put down, so many
  pub record Collected (wanted : List (List ℕ)) (before kinds : List ℕ) (many : ℕ) : Type 0 where
    pub long : length kinds ≡ length before
    pub few : many ≤ 64
    pub are : kinds_at (take many kinds) ≡ wanted
