-- How many nodes there are: as many as the sizes say, each with a place of the text; and where a rule's last node stands.
use Prim.Native.Nat.{ℕ, ◌+◌, ◌-◌, ◌≤◌, ◌<◌}
use native.Mathlib.Omega.{arith}
use mathlib.Core.Path.{◌≡◌, refl, ◌∙◌}
use mathlib.Core.Bool.{Bool, true, false, ◌||◌, cond}
use mathlib.Core.List.{List, [], ◌∷◌}
use lib.ListN.{length, length-append}
use Rattle.words.proofs.Tests.{never}
use Rattle.sheets.specs.Text.{same}
use Rattle.sheets.specs.Grammar.{Expression, named, nothing, choice, sequence, starred, Rule}
use Rattle.sheets.specs.Nodes.{among, rule_names, size, sizes, last_node, nodes_from, rules_nodes, places_of, rules_places}

-- an expression has a node
pub size_positive : (e : Expression) → 1 ≤ size e
unfolding size
size_positive (named p letters) = omega arith
size_positive (nothing p) = omega arith
size_positive (choice p e f) = omega arith
size_positive (sequence p e f) = omega arith
size_positive (starred p e) = omega arith

module _ (all : List Rule) where
  pub length_nodes : (at : ℕ) (e : Expression) → length (nodes_from all at e) ≡ size e
  unfolding nodes_from size
  length_nodes at (named p letters) = refl
  length_nodes at (nothing p) = refl
  length_nodes at (choice p e f) =
      let l = length_nodes at e in
      let r = length_nodes (at + size e) f in
      simp length-append (omega arith)
  length_nodes at (sequence p e f) =
      let l = length_nodes at e in
      let r = length_nodes (at + size e) f in
      simp length-append (omega arith)
  length_nodes at (starred p e) =
      let l = length_nodes at e in
      simp length-append (omega arith)

  pub length_rules_nodes : (at : ℕ) (rules : List Rule) → length (rules_nodes all at rules) ≡ sizes rules
  unfolding rules_nodes sizes
  length_rules_nodes at [] = refl
  length_rules_nodes at (r ∷ rules) =
      length-append (nodes_from all at r.expression) (rules_nodes all (at + size r.expression) rules)
      ∙ rw (length_nodes at r.expression, length_rules_nodes (at + size r.expression) rules)

pub length_places : (e : Expression) → length (places_of e) ≡ size e
unfolding places_of size
length_places (named p letters) = refl
length_places (nothing p) = refl
length_places (choice p e f) =
    let l = length_places e in
    let r = length_places f in
    simp length-append (omega arith)
length_places (sequence p e f) =
    let l = length_places e in
    let r = length_places f in
    simp length-append (omega arith)
length_places (starred p e) = let l = length_places e in simp length-append (omega arith)

pub length_rules_places : (rules : List Rule) → length (rules_places rules) ≡ sizes rules
unfolding rules_places sizes
length_rules_places [] = refl
length_rules_places (r ∷ rules) =
    length-append (places_of r.expression) (rules_places rules) ∙ rw (length_places r.expression, length_rules_places rules)

-- a rule's last node is one of the rules' nodes
pub last_below : (at : ℕ) (rules : List Rule) (letters : List ℕ) → among letters (rule_names rules) ≡ true
    → last_node at rules letters < at + sizes rules
unfolding among rule_names last_node sizes
last_below at [] letters e = never e
last_below at (r ∷ rules) letters e = go (same letters r.name) refl (last_below (at + size r.expression) rules letters)
  where
    go : (t : Bool) → same letters r.name ≡ t
        → (among letters (rule_names rules) ≡ true
        → last_node (at + size r.expression) rules letters < at + size r.expression + sizes rules)
        → last_node at (r ∷ rules) letters < at + sizes (r ∷ rules)
    go true s more = rw s (omega (arith, size_positive r.expression))
    go false s more = let h = more (rw s at e) in rw s (omega arith)
