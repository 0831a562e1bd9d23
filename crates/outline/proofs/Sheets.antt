-- Reading rule after rule follows the reading byte by byte, and puts the rules' nodes and rows down.
use Prim.Native.Nat.{ℕ, ◌+◌, ◌-◌, ◌≤◌}
use native.Mathlib.Omega.{arith}
use native.Mathlib.Nat.{add_assoc, add-zero, zero-add}
use mathlib.Core.Path.{◌≡◌, refl, sym, ap, ◌∙◌}
use mathlib.Core.List.{List, [], ◌∷◌, ◌++◌, append_assoc, append-nil}
use lib.ListN.{length, length-append}
use lib.Seq.{sets}
use Rattle.sheets.specs.Grammar.{Expression, named, nothing, choice, sequence, starred, Rule, rule}
use Rattle.sheets.specs.Nodes.{size, sizes}
use Rattle.syntax.specs.Machine.{name_due, at_end, sheet, read_sheet}
use Rattle.spelling.specs.Places.{SkippedTo, Comes, Fresh, letters_at}
use Rattle.spelling.proofs.Running.{comes_then, wrong_then, run_end}
use Rattle.spelling.proofs.States.{idle_name}
use Rattle.outline.specs.Raw.{raw_from, raw_rules, rule_rows, most, cut}
use Rattle.outline.specs.Parts.{Laid}
use Rattle.outline.specs.Outlined.{RuleDone, RuleWrong, OutlinedAs, NoOutline}
use Rattle.outline.specs.declared.RawNode.{RawNode}
use Rattle.outline.specs.declared.Row.{Row}
use Rattle.outline.specs.declared.Cursor.{Cursor}
use Rattle.outline.proofs.Counting.{sets_append, cut_small, cut_some, cut_add, laid_none, laid_then, laid_as, next_small}
use Rattle.outline.proofs.Filling.{raw_length}

-- ---- a rule more

-- an expression has a node
size_some : (e : Expression) → 1 ≤ size e
unfolding size
size_some (named p letters) = omega arith
size_some (nothing p) = omega arith
size_some (choice p e f) = omega arith
size_some (sequence p e f) = omega arith
size_some (starred p e) = omega arith

-- there are as many nodes as rules
pub few_rules : (rules : List Rule) → length rules ≤ sizes rules
unfolding sizes
few_rules [] = omega arith
few_rules (r ∷ rules) = omega (arith, few_rules rules, size_some r.expression)

pub raw_rules_length : (n : ℕ) (rules : List Rule) → length (raw_rules n rules) ≡ sizes rules
unfolding raw_rules sizes
raw_rules_length n [] = refl
raw_rules_length n (r ∷ rules) =
    simp length-append (omega (arith, raw_length n r.expression, raw_rules_length (n + size r.expression) rules))

pub rows_length : (n : ℕ) (rules : List Rule) → length (rule_rows n rules) ≡ length rules
unfolding rule_rows
rows_length n [] = refl
rows_length n (r ∷ rules) = omega (arith, rows_length (n + size r.expression) rules)

module _ (last : Rule) where
  sizes_more : (rules : List Rule) → sizes (rules ++ (last ∷ [])) ≡ sizes rules + size last.expression
  unfolding sizes
  sizes_more [] = omega arith
  sizes_more (r ∷ rules) = omega (arith, sizes_more rules)

  raw_more : (n : ℕ) (rules : List Rule)
      → raw_rules n (rules ++ (last ∷ [])) ≡ raw_rules n rules ++ raw_from (n + sizes rules) last.expression
  unfolding raw_rules sizes
  raw_more n [] = append-nil (raw_from n last.expression) ∙ rw add-zero
  raw_more n (r ∷ rules) =
      rw (raw_more (n + size r.expression) rules, add_assoc)
      (sym (append_assoc (raw_from n r.expression) _ _))

  rows_more : (n : ℕ) (rules : List Rule)
      → rule_rows n (rules ++ (last ∷ []))
      ≡ rule_rows n rules ++ (record { name = last.place; last = n + sizes rules + size last.expression - 1 } ∷ [])
  unfolding rule_rows sizes
  rows_more n [] = rw add-zero
  rows_more n (r ∷ rules) = rw (rows_more (n + size r.expression) rules, add_assoc n (size r.expression) (sizes rules))

-- ---- the loop over rules

-- what is read and put down so far; the rows stand where the nodes are not too many
pub record Outlining (text : List ℕ) (nodes : List RawNode) (rows : List Row) (at next count : ℕ) (nodes' : List RawNode)
    (rows' : List Row) : Type 0 where
  pub rules : List Rule
  pub within : at ≤ length text
  pub fresh : Fresh text at
  pub comes : Comes text 0 (name_due []) at (name_due rules)
  pub nodes_put : Laid nodes 0 next (raw_rules 0 rules) nodes'
  pub counted : count ≡ cut (length rules)
  pub rows_long : length rows' ≡ length rows
  pub rows_put : sizes rules ≤ most → most ≤ length rows → rows' ≡ sets rows 0 (rule_rows 0 rules)

pub outlining_none : {text : List ℕ} {at : ℕ} {nodes : List RawNode} {rows : List Row} → SkippedTo text 0 at
    → Outlining text nodes rows at 0 0 nodes rows
unfolding sizes raw_rules rule_rows cut
outlining_none s =
    record {
      rules = [];
      within = s.high;
      fresh = record { fresh = s.fresh };
      comes = s.passed _ idle_name;
      nodes_put = laid_none;
      counted = refl;
      rows_long = refl;
      rows_put = λ few room. refl;
    }

module _ {text : List ℕ} {nodes : List RawNode} {rows : List Row} {at next count : ℕ} {nodes' : List RawNode} {rows' : List Row}
    (o : Outlining text nodes rows at next count nodes' rows') where
  -- a row more
  row_put : {count' last : ℕ} {rows'' : List Row} (new : Rule)
      → Laid rows' count count' (record { name = new.place; last = last } ∷ []) rows''
      → last ≡ sizes o.rules + size new.expression - 1
      → sizes o.rules + size new.expression ≤ 512
      → 512 ≤ length rows
      → rows'' ≡ sets rows 0 (rule_rows 0 (o.rules ++ (new ∷ [])))
  row_put {last = last} {rows''} new row is few room =
      let some = size_some new.expression in
      let rules_few = few_rules o.rules in
      let here : count ≡ 0 + length (rule_rows 0 o.rules) =
      o.counted ∙ cut_small (length o.rules) (omega arith) ∙ omega (arith, rows_length 0 o.rules) in
      let small : count + 1 ≤ 512 = omega (arith, here, rows_length 0 o.rules) in
      row.laid small (rw o.rows_long room)
      ∙ ap (λ (l : List Row). sets l count (record { name = new.place; last = last } ∷ [])) (o.rows_put (omega arith) room)
      ∙ ap (λ (i : ℕ). sets (sets rows 0 (rule_rows 0 o.rules)) i (record { name = new.place; last = last } ∷ [])) here
      ∙ sets_append rows 0 (rule_rows 0 o.rules) (record { name = new.place; last = last } ∷ [])
      ∙ rw (rows_more new 0 o.rules, is, zero-add)

  pub outlining_more : {r : Cursor} {nodes'' : List RawNode} {count' last : ℕ} {rows'' : List Row}
      → RuleDone text at nodes' next r nodes''
      → last ≡ r.next - 1
      → Laid rows' count count' (record { name = at; last = last } ∷ []) rows''
      → Outlining text nodes rows r.at r.next count' nodes'' rows''
  outlining_more {r} q is row =
      let new = rule at (letters_at text at q.name_end) q.expression in
      let all : sizes o.rules + size q.expression ≡ sizes (o.rules ++ (new ∷ [])) = sym (sizes_more new o.rules) in
      let more : length (o.rules ++ (new ∷ [])) ≡ length o.rules + 1 = length-append o.rules (new ∷ []) in
      let sum : length (raw_rules 0 o.rules ++ raw_from next q.expression) ≡ sizes o.rules + size q.expression =
      length-append (raw_rules 0 o.rules) (raw_from next q.expression)
      ∙ omega (arith, raw_rules_length 0 o.rules, raw_length next q.expression) in
      let put = laid_then o.nodes_put q.put in
      record {
        rules = o.rules ++ (new ∷ []);
        within = q.within;
        fresh = q.fresh;
        comes = comes_then o.comes (q.comes o.rules);
        nodes_put = laid_as put (raw_rules_length 0 (o.rules ++ (new ∷ [])) ∙ omega (arith, all, sum)) (λ few.
            let here : next ≡ 0 + length (raw_rules 0 o.rules) = next_small o.nodes_put
            (omega (arith, few, sum, raw_rules_length 0 o.rules)) in
            let at_end : next ≡ 0 + sizes o.rules = omega (arith, here, raw_rules_length 0 o.rules) in
            rw at_end (sym (raw_more new 0 o.rules)));
        counted = row.counted ∙ rw (o.counted, cut_add (length o.rules) 1, more);
        rows_long = row.long ∙ o.rows_long;
        rows_put = λ few room.
            let end : r.next ≡ 0 + length (raw_rules 0 o.rules ++ raw_from next q.expression) = next_small put
            (omega (arith, few, all, sum)) in
            row_put new row (omega (arith, is, end, sum)) (omega (arith, few, all)) room;
      }

  -- a rule that is wrong
  pub outlining_wrong : {place : ℕ} {nodes'' : List RawNode} → RuleWrong text at nodes' place nodes''
      → NoOutline text nodes rows place nodes'' rows'
  outlining_wrong p = record { read = (wrong_then o.comes (p.wrong o.rules)).ends }

  -- the end of the text: more is due where there is no rule
  pub outlining_ended : length text ≤ at → count ≡ 0 → NoOutline text nodes rows at nodes' rows'
  unfolding at_end
  outlining_ended past none = go o.rules (o.comes.runs ∙ run_end text (name_due o.rules) at past) o.counted
    where
      go : (rules : List Rule) → read_sheet text ≡ at_end (name_due rules) at → count ≡ cut (length rules)
          → NoOutline text nodes rows at nodes' rows'
      go [] ends counted = record { read = ends }
      go (r ∷ rules) ends counted = absurd (omega (arith, none, counted, cut_some (length (r ∷ rules)) (omega arith)))

  pub outlining_done : length text ≤ at → (count ≡ 0 → ⊥)
      → OutlinedAs text nodes rows (record { nodes = next; rules = count }) nodes' rows'
  unfolding at_end cut
  outlining_done past some =
      record {
        rules = o.rules;
        read = go o.rules (o.comes.runs ∙ run_end text (name_due o.rules) at past) o.counted;
        nodes_counted = o.nodes_put.counted ∙ rw (zero-add, raw_rules_length 0 o.rules);
        rules_counted = o.counted;
        nodes_put = λ few room. o.nodes_put.laid (omega (arith, few, raw_rules_length 0 o.rules)) room;
        rows_put = o.rows_put;
      }
    where
      go : (rules : List Rule) → read_sheet text ≡ at_end (name_due rules) at → count ≡ cut (length rules)
          → read_sheet text ≡ sheet rules
      go [] ends counted = absurd (some counted)
      go (r ∷ rules) ends counted = ends
