-- Rules by their names: a word names a rule if the rule is among them, and where no name comes again the last node that goes with a
-- rule's name is that rule's own.
use Prim.Native.Nat.{ℕ, ◌+◌}
use native.Mathlib.Omega.{arith}
use mathlib.Core.Path.{◌≡◌}
use mathlib.Core.Logic.{◌⊎◌, inl, inr}
use mathlib.Core.Bool.{true, false}
use mathlib.Core.List.{List, [], ◌∷◌}
use Rattle.words.proofs.Tests.{never, or_left, or_right}
use Rattle.book.specs.declared.Node.{Node}
use Rattle.sheets.specs.Text.{same}
use Rattle.sheets.specs.Grammar.{Rule}
use Rattle.sheets.specs.Nodes.{among, rule_names, words_in, all_words, size, last_node, nodes_from, rules_nodes}
use Rattle.sheets.specs.Meaning.{Has, here, there}
use Rattle.sheets.specs.Made.{repeats}
use Rattle.sheets.proofs.Words.{neither, same_self, among_cons}
use Rattle.sheets.proofs.Known.{Known, known_left, known_right}
use Rattle.sheets.proofs.Sizes.{length_nodes}
use Rattle.sheets.proofs.Last.{Last, Stand, stand_left, stand_right, stand_last}

pub has_among : {r : Rule} {rules : List Rule} → Has r rules → among r.name (rule_names rules) ≡ true
unfolding among rule_names
has_among {r} (here {rules}) = or_left (same r.name r.name) (among r.name (rule_names rules)) (same_self r.name)
has_among {r} (there {other} {rules} h) =
    or_right (same r.name other.name) (among r.name (rule_names rules)) (has_among h)

-- the rule that a word names
pub record Names (rules : List Rule) (letters : List ℕ) : Type 0 where
  pub the_rule : Rule
  pub has : Has the_rule rules
  pub name_is : letters ≡ the_rule.name

pub among_names : (rules : List Rule) (letters : List ℕ) → among letters (rule_names rules) ≡ true → Names rules letters
unfolding rule_names among
among_names [] letters e = never e
among_names (r ∷ rules) letters e = go (among_cons letters r.name (rule_names rules) e) (among_names rules letters)
  where
    go : (letters ≡ r.name) ⊎ (among letters (rule_names rules) ≡ true)
        → (among letters (rule_names rules) ≡ true → Names rules letters) → Names (r ∷ rules) letters
    go (inl p) more = record { the_rule = r; has = here; name_is = p }
    go (inr p) more = let t = more p in record { the_rule = t.the_rule; has = there t.has; name_is = t.name_is }

-- where no name comes again, no rule has a name seen before
pub unseen : {r : Rule} {rules : List Rule} (seen : List (List ℕ)) → repeats seen rules ≡ false → Has r rules → among r.name seen ≡ false
unfolding repeats among
unseen {r} seen e (here {rules}) = (neither (among r.name seen) _ e).0
unseen {r} seen e (there {other} {rules} h) =
    let t = neither (among other.name seen) _ e in
    (neither (same r.name other.name) (among r.name seen) (unseen (other.name ∷ seen) t.1 h)).1

module _ (all : List Rule) {node : ℕ → Node} where
  pub rule_last : {r : Rule} (at : ℕ) {rules : List Rule} (seen : List (List ℕ)) → repeats seen rules ≡ false
      → Known all (all_words rules) → Stand node at (rules_nodes all at rules) → Has r rules
      → Last all node r.expression (node (last_node at rules r.name))
  unfolding rules_nodes all_words last_node repeats among
  rule_last {r} at seen e known s (here {rules}) =
      rw (same_self r.name)
      (stand_last all at r.expression (known_left (words_in r.expression) (all_words rules) known) (stand_left _ s))
  rule_last {r} at seen e known s (there {other} {rules} h) =
      let t = neither (among other.name seen) _ e in
      let apart = (neither (same r.name other.name) (among r.name seen) (unseen (other.name ∷ seen) t.1 h)).0 in
      let next = at + size other.expression in
      rw apart
      (rule_last {r = r} next (other.name ∷ seen) t.1 (known_right (words_in other.expression) (all_words rules) known)
      (stand_right (nodes_from all at other.expression) next (omega (arith, length_nodes all at other.expression)) s)
      h)
