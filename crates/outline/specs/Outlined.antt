-- What the readers of a rule and of a whole sheet answer, by the reading byte by byte.
use Rattle.std.specs.Prelude.{ℕ, ◌≤◌, ◌<◌, ◌≡◌, List, [], ◌∷◌, ◌++◌, length}
use Rattle.std.proofs.lemmas.List.Edits.{sets}
use Rattle.sheets.specs.Grammar.{Expression, Rule, rule}
use Rattle.sheets.specs.Nodes.{sizes}
use Rattle.syntax.specs.Machine.{name_due, sheet, wrong, read_sheet}
use Rattle.outline.specs.Raw.{raw_from, raw_rules, rule_rows, most, cut}
use Rattle.spelling.specs.Places.{letters_at, GoesWrong, Comes, LettersTo, Fresh}
use Rattle.outline.specs.Parts.{Laid}
use Rattle.outline.specs.declared.RawNode.{RawNode}
use Rattle.outline.specs.declared.Row.{Row}
use Rattle.outline.specs.declared.Cursor.{Cursor}
use Rattle.outline.specs.declared.Outline.{Outline}

module _ (text : List ℕ) where
  -- a rule is read from its name on: one rule more, with its nodes put down
  pub record RuleDone (at : ℕ) (before : List RawNode) (n : ℕ) (r : Cursor) (after : List RawNode) : Type 0 where
    pub name_end : ℕ
    pub letters : LettersTo text at name_end
    pub expression : Expression
    pub further : at < r.at
    pub within : r.at ≤ length text
    pub fresh : Fresh text r.at
    pub put : Laid before n r.next (raw_from n expression) after
    pub comes : (rules : List Rule) → Comes text at (name_due rules)
        r.at (name_due (rules ++ (rule at (letters_at text at name_end) expression ∷ [])))

  -- or it goes wrong at a place
  pub record RuleWrong (at : ℕ) (before : List RawNode) (place : ℕ) (after : List RawNode) : Type 0 where
    pub within : place ≤ length text
    pub long : length after ≡ length before
    pub wrong : (rules : List Rule) → GoesWrong text at (name_due rules) place

  -- a whole sheet is read: its rules, with their nodes and rows put down where they are not too many and the buffers hold
  -- the most
  pub record OutlinedAs (nodes : List RawNode) (rows : List Row) (r : Outline) (nodes' : List RawNode) (rows' : List Row)
      : Type 0 where
    pub rules : List Rule
    pub read : read_sheet text ≡ sheet rules
    pub nodes_counted : r.nodes ≡ cut (sizes rules)
    pub rules_counted : r.rules ≡ cut (length rules)
    pub nodes_put : sizes rules ≤ most → most ≤ length nodes → nodes' ≡ sets nodes 0 (raw_rules 0 rules)
    pub rows_put : sizes rules ≤ most → most ≤ length rows → rows' ≡ sets rows 0 (rule_rows 0 rules)

  -- or it goes wrong at a place, or more is due there
  pub record NoOutline (nodes : List RawNode) (rows : List Row) (place : ℕ) (nodes' : List RawNode) (rows' : List Row)
      : Type 0 where
    pub read : read_sheet text ≡ wrong place
