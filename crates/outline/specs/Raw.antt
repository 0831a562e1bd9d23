-- The nodes of a sheet as they are put down while its text is read, each with the place of the text from which it comes.
-- A word is put down as a token of kind 0; which word it is, its place tells.
use Rattle.std.specs.Prelude.{ℕ, ◌+◌, ◌-◌, cond, List, [], ◌∷◌, ◌++◌, ltb}
use Rattle.book.specs.declared.Node.{Node}
use Rattle.book.specs.declared.Node.TheVariants.{Empty, Token, Either, Then, Ref}
use Rattle.sheets.specs.Grammar.{Expression, named, nothing, choice, sequence, starred, Rule}
use Rattle.sheets.specs.Nodes.{size}
use Rattle.outline.specs.declared.RawNode.{RawNode}
use Rattle.outline.specs.declared.Row.{Row}

abbrev pub raw : Node → ℕ → RawNode
raw node place = record { node = node; place = place }

-- the four nodes of a star at a place, after the nodes before a number
abbrev pub raw_star : ℕ → ℕ → List RawNode
raw_star n place = raw (Ref (n + 3)) place ∷ raw (Then (n - 1) n) place ∷ raw Empty place ∷ raw (Either (n + 1) (n + 2)) place ∷ []

-- the nodes of an expression, from a number on
unfoldable pub raw_from : ℕ → Expression → List RawNode
raw_from at (named p letters) = raw (Token 0) p ∷ []
raw_from at (nothing p) = raw Empty p ∷ []
raw_from at (choice p e f) =
    raw_from at e ++ (raw_from (at + size e) f ++ (raw (Either (at + size e - 1) (at + size e + size f - 1)) p ∷ []))
raw_from at (sequence p e f) =
    raw_from at e ++ (raw_from (at + size e) f ++ (raw (Then (at + size e - 1) (at + size e + size f - 1)) p ∷ []))
raw_from at (starred p e) = raw_from at e ++ raw_star (at + size e) p

-- the nodes of rules
unfoldable pub raw_rules : ℕ → List Rule → List RawNode
raw_rules at [] = []
raw_rules at (r ∷ rules) = raw_from at r.expression ++ raw_rules (at + size r.expression) rules

-- for each rule the place of its name and its last node
unfoldable pub rule_rows : ℕ → List Rule → List Row
rule_rows at [] = []
rule_rows at (r ∷ rules) =
    record { name = r.place; last = at + size r.expression - 1 } ∷ rule_rows (at + size r.expression) rules

-- the most nodes of a book; and a count of nodes or rules, cut where it is more than that
abbrev pub most : ℕ
most = 512

unfoldable pub cut : ℕ → ℕ
cut n = cond (ltb most n) 513 n
