-- The book of a sheet derives what the sheet means: by induction on a derivation one way, on a meaning the other.
use Prim.Native.Nat.{ℕ}
use native.Mathlib.Nat.{zero-add}
use mathlib.Core.Path.{◌≡◌, sym, subst, ◌∙◌}
use mathlib.Core.Logic.{◌↔◌}
use mathlib.Core.Bool.{false}
use mathlib.Core.List.{List, [], ◌∷◌}
use Rattle.words.proofs.Tests.{never}
use Rattle.book.specs.declared.Node.{Node}
use Rattle.book.specs.declared.Node.TheVariants.{Empty, Then, Tagged, Ref}
use Rattle.grammar.specs.Derivations.{Derives, d_empty, d_token, d_left, d_right, d_then, d_tagged, d_ref, Lawful}
use Rattle.sheets.specs.Grammar.{Expression, starred, Rule}
use Rattle.sheets.specs.Nodes.{size, last_node, rules_nodes, sheet_book}
use Rattle.sheets.specs.Meaning.{Has, here, SheetMeans}
use Rattle.sheets.specs.Meaning.{Means, by_rule, by_kind, by_nothing, by_first, by_second, by_sequence, by_none, by_more}
use Rattle.sheets.specs.Made.{repeats}
use Rattle.sheets.proofs.Words.{same_self}
use Rattle.sheets.proofs.Known.{all_known, word_kind, kind_number}
use Rattle.sheets.proofs.Last.{Last, last_rule, last_kind, last_nothing, last_choice, last_sequence, last_star}
use Rattle.sheets.proofs.Last.{Star, Stand}
use Rattle.sheets.proofs.Named.{has_among, among_names, rule_last}

-- a node derives only what an expression means: its last node, and the other three of a star
data Part (rules : List Rule) (node : ℕ → Node) : Expression → Node → Type 0 where
  part_last : {e : Expression} {top : Node} → Last rules node e top → Part rules node e top
  part_both : {p factor ref both none last : ℕ} {e : Expression} → Last rules node e (node factor)
      → Star node factor ref both none last → Part rules node (starred p e) (Then factor ref)
  part_ref : {p factor ref both none last : ℕ} {e : Expression} → Last rules node e (node factor)
      → Star node factor ref both none last → Part rules node (starred p e) (Ref last)
  part_none : {p : ℕ} {e : Expression} → Part rules node (starred p e) Empty

-- no expression's node is tagged
untagged : {rules : List Rule} {node : ℕ → Node} {e : Expression} {l t : ℕ} → Last rules node e (Tagged l t) → ⊥
untagged = elim [ ]

module _ (rules : List Rule) {node : ℕ → Node}
    (at-rule : (r : Rule) → Has r rules → Last rules node r.expression (node (last_node 0 rules r.name))) where
  derives_means : {top : Node} {run : List ℕ} {e : Expression} → Derives node top run → Part rules node e top → Means rules e run
  derives_means d_empty (part_last last_nothing) = by_nothing
  derives_means d_empty part_none = by_none
  derives_means d_token (part_last (last_kind {letters = letters} free kind)) = by_kind (word_kind rules letters free kind)
  derives_means (d_left d) (part_last (last_choice l r)) = by_first (derives_means d (part_last l))
  derives_means (d_left d) (part_last (last_star l s)) = derives_means d (rw s.both_is (part_both l s))
  derives_means (d_right d) (part_last (last_choice l r)) = by_second (derives_means d (part_last r))
  derives_means (d_right d) (part_last (last_star l s)) = derives_means d (rw s.none_is part_none)
  derives_means (d_then d g) (part_last (last_sequence l r)) = by_sequence (derives_means d (part_last l)) (derives_means g (part_last r))
  derives_means (d_then d g) (part_both {p} l s) =
      by_more {p = p} (derives_means d (part_last l)) (derives_means g (rw s.ref_is (part_ref l s)))
  derives_means (d_tagged d) (part_last l) = absurd (untagged l)
  derives_means (d_ref d) (part_last (last_rule {p} {letters} known)) =
      let t = among_names rules letters known in
      let last =
      subst (λ (x : List ℕ). Last rules node t.the_rule.expression (node (last_node 0 rules x))) (sym t.name_is)
      (at-rule t.the_rule t.has)
      in
      rw t.name_is (by_rule t.has (derives_means d (part_last last)))
  derives_means (d_ref d) (part_ref l s) = derives_means d (rw s.last_is (part_last (last_star l s)))

  means_derives : {run : List ℕ} {e : Expression} → Means rules e run → {top : Node} → Last rules node e top → Derives node top run
  means_derives (by_rule {r = r} h m) (last_rule known) = d_ref (means_derives m (at-rule r h))
  means_derives (by_rule h m) (last_kind free kind) = never (sym free ∙ has_among h)
  means_derives (by_kind is) (last_rule known) = never (sym is.no_rule ∙ known)
  means_derives (by_kind is) (last_kind free kind) = rw (kind_number is) d_token
  means_derives by_nothing last_nothing = d_empty
  means_derives (by_first m) (last_choice l r) = d_left (means_derives m l)
  means_derives (by_second m) (last_choice l r) = d_right (means_derives m r)
  means_derives (by_sequence m n) (last_sequence l r) = d_then (means_derives m l) (means_derives n r)
  means_derives by_none (last_star {both = both} {none = none} l s) = d_right {l = both} {r = none} {xs = []} (rw s.none_is d_empty)
  means_derives (by_more m n) (last_star l s) =
      let again = rw (sym s.last_is) at (means_derives n (last_star l s)) in
      let behind = rw (sym s.ref_is) at (d_ref again) in
      d_left (rw (sym s.both_is) at (d_then (means_derives m l) behind))

-- the nodes of a sheet's book stand from 0 on
book-stands : (first : Rule) (further : List Rule)
    → Stand (sheet_book first further).node 0 (rules_nodes (first ∷ further) 0 (first ∷ further))
unfolding sheet_book
book-stands first further = record { each = λ i h. rw (zero-add i) }

module _ (first : Rule) (further : List Rule) (once : repeats [] (first ∷ further) ≡ false) where
  abbrev all : List Rule
  all = first ∷ further

  abbrev node : ℕ → Node
  node = (sheet_book first further).node

  rules_last : (r : Rule) → Has r all → Last all node r.expression (node (last_node 0 all r.name))
  rules_last r h = rule_last all 0 [] once (all_known all) (book-stands first further) h

  first_last : Last all node first.expression (node (sheet_book first further).start)
  unfolding sheet_book last_node
  first_last = rw (zero-add (size first.expression), same_self first.name) at (rules_last first here)

  pub book_derives_the_meaning : (run : List ℕ) → Lawful (sheet_book first further) run ↔ SheetMeans first further run
  book_derives_the_meaning run = (
    λ d. derives_means all rules_last d (part_last first_last),
    λ m. means_derives all rules_last m first_last,
  )
