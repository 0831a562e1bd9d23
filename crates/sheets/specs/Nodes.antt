-- The book that a sheet makes: its kinds, and its nodes, numbered as the text is read.
use Rattle.std.specs.Prelude.{ℕ, suc, ◌+◌, ◌-◌, Bool, false, ◌||◌, cond, List, [], ◌∷◌, ◌++◌, length, get_or}
use Rattle.book.specs.Book.{Book}
use Rattle.book.specs.declared.Node.{Node}
use Rattle.book.specs.declared.Node.TheVariants.{Fail, Empty, Token, Either, Then, Ref}
use Rattle.sheets.specs.Text.{same}
use Rattle.sheets.specs.Grammar.{Expression, named, nothing, choice, sequence, starred, Rule}

-- whether a word is among words
unfoldable pub among : List ℕ → List (List ℕ) → Bool
among letters [] = false
among letters (other ∷ more) = same letters other || among letters more

-- the number of a word among words
unfoldable pub number_of : List ℕ → List (List ℕ) → ℕ
number_of letters [] = 0
number_of letters (other ∷ more) = cond (same letters other) 0 (suc (number_of letters more))

-- the rules' names
unfoldable pub rule_names : List Rule → List (List ℕ)
rule_names [] = []
rule_names (r ∷ rules) = r.name ∷ rule_names rules

-- the words of an expression, and of all rules' expressions, as the text is read
unfoldable pub words_in : Expression → List (List ℕ)
words_in (named p letters) = letters ∷ []
words_in (nothing p) = []
words_in (choice p e f) = words_in e ++ words_in f
words_in (sequence p e f) = words_in e ++ words_in f
words_in (starred p e) = words_in e

unfoldable pub all_words : List Rule → List (List ℕ)
all_words [] = []
all_words (r ∷ rules) = words_in r.expression ++ all_words rules

-- the kinds after those seen: words that name no rule, by first appearance
unfoldable pub kinds_after : List (List ℕ) → List (List ℕ) → List (List ℕ) → List (List ℕ)
kinds_after names seen [] = seen
kinds_after names seen (letters ∷ more) =
    cond (among letters names || among letters seen) (kinds_after names seen more)
    (kinds_after names (seen ++ (letters ∷ [])) more)

-- the event kinds of a sheet, by their names
abbrev pub kind_names : List Rule → List (List ℕ)
kind_names rules = kinds_after (rule_names rules) [] (all_words rules)

-- how many nodes an expression has: one for each word and each `empty`, one for each further sequence or factor, four
-- for a star
unfoldable pub size : Expression → ℕ
size (named p letters) = 1
size (nothing p) = 1
size (choice p e f) = size e + size f + 1
size (sequence p e f) = size e + size f + 1
size (starred p e) = size e + 4

unfoldable pub sizes : List Rule → ℕ
sizes [] = 0
sizes (r ∷ rules) = size r.expression + sizes rules

-- the last node of the rule with a name, where the rules' nodes begin at a number
unfoldable pub last_node : ℕ → List Rule → List ℕ → ℕ
last_node at [] letters = 0
last_node at (r ∷ rules) letters =
    cond (same letters r.name) (at + size r.expression - 1) (last_node (at + size r.expression) rules letters)

module _ (all : List Rule) where
  -- a word that names a rule is a ref to that rule's last node, any other a token
  unfoldable pub word_node : List ℕ → Node
  word_node letters =
      cond (among letters (rule_names all)) (Ref (last_node 0 all letters)) (Token (number_of letters (kind_names all)))

  -- the nodes of an expression, from a number on
  unfoldable pub nodes_from : ℕ → Expression → List Node
  nodes_from at (named p letters) = word_node letters ∷ []
  nodes_from at (nothing p) = Empty ∷ []
  nodes_from at (choice p e f) =
      nodes_from at e ++ (nodes_from (at + size e) f
      ++ (Either (at + size e - 1) (at + size e + size f - 1) ∷ []))
  nodes_from at (sequence p e f) =
      nodes_from at e ++ (nodes_from (at + size e) f
      ++ (Then (at + size e - 1) (at + size e + size f - 1) ∷ []))
  nodes_from at (starred p e) =
      nodes_from at e
      ++ (Ref (at + size e + 3) ∷ Then (at + size e - 1) (at + size e) ∷ Empty
      ∷ Either (at + size e + 1) (at + size e + 2) ∷ [])

  unfoldable pub rules_nodes : ℕ → List Rule → List Node
  rules_nodes at [] = []
  rules_nodes at (r ∷ rules) = nodes_from at r.expression ++ rules_nodes (at + size r.expression) rules

-- the book of a first rule and further ones: the start is the last node of the first rule
unfoldable pub sheet_book : Rule → List Rule → Book
sheet_book first further =
    record {
      count = sizes (first ∷ further);
      kinds = length (kind_names (first ∷ further));
      start = size first.expression - 1;
      node = λ n. get_or (rules_nodes (first ∷ further) 0 (first ∷ further)) n Fail;
    }

-- the places of the text from which an expression's nodes come, in their order
unfoldable pub places_of : Expression → List ℕ
places_of (named p letters) = p ∷ []
places_of (nothing p) = p ∷ []
places_of (choice p e f) = places_of e ++ (places_of f ++ (p ∷ []))
places_of (sequence p e f) = places_of e ++ (places_of f ++ (p ∷ []))
places_of (starred p e) = places_of e ++ (p ∷ p ∷ p ∷ p ∷ [])

unfoldable pub rules_places : List Rule → List ℕ
rules_places [] = []
rules_places (r ∷ rules) = places_of r.expression ++ rules_places rules
