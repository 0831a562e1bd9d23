-- A sheet's nodes and rules as they are put down tell its names, words, kinds, places and nodes.
use mathlib.Core.Path.{◌≡◌, refl, sym, ap, ap₂, ◌∙◌}
use mathlib.Core.Bool.{Bool, true, false, cond}
use mathlib.Core.List.{List, [], ◌∷◌, ◌++◌, append-nil}
use Prim.Native.Nat.{ℕ, ◌+◌, ◌-◌}
use native.Mathlib.Nat.{zero-add}
use Rattle.std.specs.Prelude.{map}
use Rattle.std.proofs.lemmas.List.{map-append}
use Rattle.words.proofs.Tests.{never}
use Rattle.book.specs.declared.Node.{Node}
use Rattle.book.specs.declared.Node.TheVariants.{Fail, Empty, Token, Either, Then, Tagged, Ref}
use Rattle.sheets.specs.Text.{same}
use Rattle.sheets.specs.Grammar.{Expression, named, nothing, choice, sequence, starred, Rule}
use Rattle.sheets.specs.Nodes.{among, number_of, rule_names, kind_names, words_in, all_words, size, last_node, word_node}
use Rattle.sheets.specs.Nodes.{nodes_from, rules_nodes, places_of, rules_places}
use Rattle.outline.specs.Raw.{raw_from, raw_rules, rule_rows}
use Rattle.outline.specs.declared.Row.{Row}
use Rattle.resolving.specs.Letters.{word_at}
use Rattle.resolving.specs.Words.{names_at, kinds_at, word_of_node, words_of_nodes}
use Rattle.resolving.specs.Writing.{last_of, resolved_word, resolved, resolved_all}
use Rattle.resolving.proofs.Words.{words_append}
use Rattle.resolving.proofs.Placed.{Told, told_word, told_nothing, told_choice, told_sequence, told_starred}
use Rattle.resolving.proofs.Placed.{ToldRules, told_none, told_more}

-- what is no token is written as it is put down
pub resolved_other : (text : List ℕ) (rows : List Row) (kinds : List ℕ) (node : Node) (place : ℕ)
    → ((k : ℕ) → node ≡ Token k → ⊥) → node ≡ resolved text rows kinds node place
unfolding resolved
resolved_other text rows kinds Fail place other = refl
resolved_other text rows kinds Empty place other = refl
resolved_other text rows kinds (Token k) place other = absurd (other k refl)
resolved_other text rows kinds (Either l r) place other = refl
resolved_other text rows kinds (Then l r) place other = refl
resolved_other text rows kinds (Tagged l t) place other = refl
resolved_other text rows kinds (Ref l) place other = refl

-- the start, where there is a rule
pub start_is : (first : Rule) (further : List Rule) → last_of (rule_rows 0 (first ∷ further)) 0 ≡ size first.expression - 1
unfolding rule_rows
start_is first further = rw zero-add

-- the names of the rules, and the last node of the rule with a name
names_from : (text : List ℕ) {rules : List Rule} (at : ℕ) → ToldRules text rules → names_at text (rule_rows at rules) ≡ rule_names rules
unfolding rule_names rule_rows
names_from text at told_none = refl
names_from text at (told_more {r = r} name_is told others) =
    ap₂ (λ (name : List ℕ) (names : List (List ℕ)). name ∷ names) (sym name_is) (names_from text (at + size r.expression) others)

row_last : (w : List ℕ) (rules : List Rule) (at : ℕ) → among w (rule_names rules) ≡ true
    → last_of (rule_rows at rules) (number_of w (rule_names rules)) ≡ last_node at rules w
unfolding rule_names rule_rows among number_of last_node
row_last w [] at known = never known
row_last w (r ∷ rules) at known = go (same w r.name) refl (λ k. row_last w rules (at + size r.expression) k)
  where
    go : (t : Bool) → same w r.name ≡ t
        → (among w (rule_names rules) ≡ true
        → last_of (rule_rows (at + size r.expression) rules) (number_of w (rule_names rules)) ≡ last_node (at + size r.expression) rules w)
        → last_of (rule_rows at (r ∷ rules)) (number_of w (rule_names (r ∷ rules))) ≡ last_node at (r ∷ rules) w
    go true is rest = rw is
    go false is rest = rw is (rest (rw is at known))

-- the words
words_from : (text : List ℕ) (at : ℕ) {e : Expression} → Told text e → words_of_nodes text (raw_from at e) ≡ words_in e
unfolding words_in raw_from words_of_nodes word_of_node
words_from text at (told_word is) = rw is
words_from text at told_nothing = refl
words_from text at (told_choice {e = e} {f = f} one two) =
    words_append text (raw_from at e) _
    ∙ rw (words_from text at one, words_append text (raw_from (at + size e) f) _, words_from text (at + size e) two)
    (ap (λ rest. words_in e ++ rest) (append-nil (words_in f)))
words_from text at (told_sequence {e = e} {f = f} one two) =
    words_append text (raw_from at e) _
    ∙ rw (words_from text at one, words_append text (raw_from (at + size e) f) _, words_from text (at + size e) two)
    (ap (λ rest. words_in e ++ rest) (append-nil (words_in f)))
words_from text at (told_starred {e = e} one) =
    words_append text (raw_from at e) _ ∙ rw (words_from text at one) (append-nil (words_in e))

pub words_are : (text : List ℕ) (at : ℕ) {rules : List Rule} → ToldRules text rules
    → words_of_nodes text (raw_rules at rules) ≡ all_words rules
unfolding all_words raw_rules words_of_nodes
words_are text at told_none = refl
words_are text at (told_more {r = r} name_is told others) =
    words_append text (raw_from at r.expression) _
    ∙ rw (words_from text at told, words_are text (at + size r.expression) others)

-- the places
places_from : (at : ℕ) (e : Expression) → map (λ raw. raw.place) (raw_from at e) ≡ places_of e
unfolding places_of raw_from
places_from at (named p letters) = refl
places_from at (nothing p) = refl
places_from at (choice p e f) =
    simp map-append (rw (places_from at e, places_from (at + size e) f))
places_from at (sequence p e f) =
    simp map-append (rw (places_from at e, places_from (at + size e) f))
places_from at (starred p e) = simp map-append (rw (places_from at e))

pub places_are : (at : ℕ) (rules : List Rule) → map (λ raw. raw.place) (raw_rules at rules) ≡ rules_places rules
unfolding rules_places raw_rules
places_are at [] = refl
places_are at (r ∷ rules) = simp map-append (rw (places_from at r.expression, places_are (at + size r.expression) rules))

module _ {text : List ℕ} {rules : List Rule} (told : ToldRules text rules) where
  pub names_are : names_at text (rule_rows 0 rules) ≡ rule_names rules
  names_are = names_from text 0 told

  -- the nodes that are written are those of the sheet's book
  module _ (kinds : List ℕ) (kinds_are : kinds_at text kinds ≡ kind_names rules) where
    word_is : (place : ℕ) → resolved_word text (rule_rows 0 rules) kinds place ≡ word_node rules (word_at text place)
    unfolding resolved_word word_node
    word_is place = rw (names_are, kinds_are) (go (among (word_at text place) (rule_names rules)) refl)
      where
        go : (t : Bool) → among (word_at text place) (rule_names rules) ≡ t
            → cond (among (word_at text place) (rule_names rules))
            (Ref (last_of (rule_rows 0 rules) (number_of (word_at text place) (rule_names rules))))
            (Token (number_of (word_at text place) (kind_names rules)))
            ≡ cond (among (word_at text place) (rule_names rules)) (Ref (last_node 0 rules (word_at text place)))
            (Token (number_of (word_at text place) (kind_names rules)))
        go true is = rw is (ap (λ (last : ℕ). Ref last) (row_last (word_at text place) rules 0 is))
        go false is = rw is

    nodes_told : (at : ℕ) {e : Expression} → Told text e → resolved_all text (rule_rows 0 rules) kinds (raw_from at e) ≡ nodes_from rules at e
    unfolding raw_from nodes_from resolved
    nodes_told at (told_word {p = p} is) = rw (word_is p, is)
    nodes_told at told_nothing = refl
    nodes_told at (told_choice {e = e} {f = f} one two) =
        simp map-append (rw (nodes_told at one, nodes_told (at + size e) two))
    nodes_told at (told_sequence {e = e} {f = f} one two) =
        simp map-append (rw (nodes_told at one, nodes_told (at + size e) two))
    nodes_told at (told_starred {e = e} one) = simp map-append (rw (nodes_told at one))

    rules_told : (at : ℕ) {some : List Rule} → ToldRules text some
        → resolved_all text (rule_rows 0 rules) kinds (raw_rules at some) ≡ rules_nodes rules at some
    unfolding raw_rules rules_nodes
    rules_told at told_none = refl
    rules_told at (told_more {r = r} name_is one others) =
        simp map-append (rw (nodes_told at one, rules_told (at + size r.expression) others))

    pub nodes_are : resolved_all text (rule_rows 0 rules) kinds (raw_rules 0 rules) ≡ rules_nodes rules 0 rules
    nodes_are = rules_told 0 told
