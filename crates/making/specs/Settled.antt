-- What is settled of a sheet before a book is written: why none is made, or its nodes, rules and kinds put down.
use Rattle.std.specs.Prelude.{ℕ, ◌<◌, ◌≡◌, true, false, List, [], ◌∷◌, length}
use Rattle.written.specs.Written.{written}
use Rattle.written.specs.declared.Written.{Written}
use Rattle.sheets.specs.Grammar.{Rule, Sheet}
use Rattle.sheets.specs.Nodes.{kind_names}
use Rattle.sheets.specs.Made.{SHEET, TWICE, BIG, KINDLESS, repeats, repeated_at, too_big}
use Rattle.syntax.specs.Machine.{wrong, read_sheet}
use Rattle.outline.specs.Raw.{raw_rules, rule_rows}
use Rattle.resolving.specs.Words.{kinds_at}
use Rattle.making.specs.Bytes.{Down}
use Rattle.making.specs.declared.Refusal.{Refusal}
use Rattle.making.specs.declared.Refusal.TheVariants.{NoSheet, NamedTwice, TooBig, Kindless}

-- the answer that a refusal is: its number and its place
abbrev pub written_by : Refusal → Written
written_by (NoSheet place) = written SHEET 0 place
written_by (NamedTwice place) = written TWICE 0 place
written_by TooBig = written BIG 0 0
written_by Kindless = written KINDLESS 0 0

-- rules are refused with a number and a place, or pass
pub data Refused (rules : List Rule) : ℕ → ℕ → Type 0 where
  twice : repeats [] rules ≡ true → Refused rules TWICE (repeated_at [] rules)
  big : repeats [] rules ≡ false → too_big rules ≡ true → Refused rules BIG 0
  kindless : repeats [] rules ≡ false → too_big rules ≡ false → length (kind_names rules) ≡ 0 → Refused rules KINDLESS 0

pub record Pass (rules : List Rule) : Type 0 where
  pub once : repeats [] rules ≡ false
  pub small : too_big rules ≡ false
  pub some_kind : 0 < length (kind_names rules)

-- the nodes, rules and kinds of a sheet are put down
pub record PutDown (text : List ℕ) (rules : List Rule) (d : Down) : Type 0 where
  pub text_is : d.text ≡ text
  pub nodes_are : d.nodes ≡ raw_rules 0 rules
  pub rows_are : d.rows ≡ rule_rows 0 rules
  pub kinds_are : kinds_at text d.kinds ≡ kind_names rules

-- a text is a sheet whose rules pass and are put down
pub record SettledAs (text : List ℕ) (d : Down) : Type 0 where
  pub first : Rule
  pub further : List Rule
  pub sheet : Sheet text first further
  pub pass : Pass (first ∷ further)
  pub put : PutDown text (first ∷ further) d

-- or it is no sheet, or its rules are refused
pub data RefusedAs (text : List ℕ) : Refusal → Type 0 where
  no_sheet : {place : ℕ} → read_sheet text ≡ wrong place → RefusedAs text (NoSheet place)
  refused : {first : Rule} {further : List Rule} {refusal : Refusal}
      → Sheet text first further
      → Refused (first ∷ further) (written_by refusal).number (written_by refusal).place
      → RefusedAs text refusal
