-- The runs that a sheet means; no node is in this.
use Rattle.std.specs.Prelude.{ℕ, ◌<◌, ◌≡◌, false, List, [], ◌∷◌, ◌++◌, length, get_or}
use Rattle.sheets.specs.Grammar.{Expression, named, nothing, choice, sequence, starred, Rule}
use Rattle.sheets.specs.Nodes.{among, rule_names, kind_names}

-- a rule is among rules
pub data Has (r : Rule) : List Rule → Type 0 where
  here : {rules : List Rule} → Has r (r ∷ rules)
  there : {other : Rule} {rules : List Rule} → Has r rules → Has r (other ∷ rules)

-- the kind with a number has a name
pub record IsKind (rules : List Rule) (k : ℕ) (letters : List ℕ) : Type 0 where
  pub no_rule : among letters (rule_names rules) ≡ false
  pub known : k < length (kind_names rules)
  pub named_so : get_or (kind_names rules) k [] ≡ letters

-- what an expression means, by the rules of its sheet: a word that names a rule what that rule means, any other word one
-- event of its kind; `empty` no event; a choice what either means; a sequence the one's events and then the other's; a
-- star any number in a row
pub data Means (rules : List Rule) : Expression → List ℕ → Type 0 where
  by_rule : {p : ℕ} {r : Rule} {run : List ℕ}
      → Has r rules → Means rules r.expression run → Means rules (named p r.name) run
  by_kind : {p k : ℕ} {letters : List ℕ} → IsKind rules k letters → Means rules (named p letters) (k ∷ [])
  by_nothing : {p : ℕ} → Means rules (nothing p) []
  by_first : {p : ℕ} {e f : Expression} {run : List ℕ} → Means rules e run → Means rules (choice p e f) run
  by_second : {p : ℕ} {e f : Expression} {run : List ℕ} → Means rules f run → Means rules (choice p e f) run
  by_sequence : {p : ℕ} {e f : Expression} {xs ys : List ℕ}
      → Means rules e xs → Means rules f ys → Means rules (sequence p e f) (xs ++ ys)
  by_none : {p : ℕ} {e : Expression} → Means rules (starred p e) []
  by_more : {p : ℕ} {e : Expression} {xs ys : List ℕ}
      → Means rules e xs → Means rules (starred p e) ys → Means rules (starred p e) (xs ++ ys)

-- a sheet means what its first rule does
abbrev pub SheetMeans : Rule → List Rule → List ℕ → Type 0
SheetMeans first further run = Means (first ∷ further) first.expression run
