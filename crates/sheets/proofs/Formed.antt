-- The book of a sheet that is not too big and has a kind is well formed: each node is proper where it stands.
use Prim.Native.Nat.{ℕ, zero, suc, ◌+◌, ◌-◌, ◌≤◌, ◌<◌}
use native.Mathlib.Nat.{zero-add, add-zero}
use native.Mathlib.Omega.{arith}
use mathlib.Core.Path.{◌≡◌, refl}
use mathlib.Core.Bool.{Bool, true, false, cond}
use mathlib.Core.List.{List, [], ◌∷◌, ◌++◌}
use lib.ListN.{length, get_or, get_or-eq_default}
use lib.Dec.{ltb}
use borrow.Author.Tests.{ltb-false}
use Rattle.book.specs.Book.{WellFormed, Proper, empty_is, token_is, either_is, then_is, ref_is}
use Rattle.book.specs.declared.Node.{Node}
use Rattle.book.specs.declared.Node.TheVariants.{Fail, Ref, Token}
use Rattle.sheets.specs.Grammar.{Expression, named, nothing, choice, sequence, starred, Rule}
use Rattle.sheets.specs.Nodes.{among, number_of, rule_names, words_in, all_words, kind_names, size, sizes, last_node}
use Rattle.sheets.specs.Nodes.{word_node, nodes_from, rules_nodes, sheet_book}
use Rattle.sheets.specs.Made.{too_big}
use Rattle.sheets.proofs.Words.{neither, number_below}
use Rattle.sheets.proofs.Known.{Known, all_known, known_left, known_right, known_one}
use Rattle.sheets.proofs.Sizes.{size_positive, length_nodes, length_rules_nodes, last_below}

-- nodes from a number on are each proper
data Each (kinds count : ℕ) : ℕ → List Node → Type 0 where
  each_none : {at : ℕ} → Each kinds count at []
  each_one : {at : ℕ} {top : Node} {nodes : List Node} → Proper kinds count at top → Each kinds count (suc at) nodes
      → Each kinds count at (top ∷ nodes)

module _ {kinds count : ℕ} where
  each_append : {at : ℕ} {xs : List Node} (next : ℕ) {ys : List Node} → Each kinds count at xs → next ≡ at + length xs
      → Each kinds count next ys → Each kinds count at (xs ++ ys)
  each_append {at} next each_none e more = let q : next ≡ at = omega arith in rw q at more
  each_append next (each_one p each) e more = each_one p (each_append next each (omega arith) more)

  each_proper : {at : ℕ} {xs : List Node} (i : ℕ) → Each kinds count at xs → i < length xs → Proper kinds count (at + i) (get_or xs i Fail)
  each_proper i each_none h = absurd (omega arith)
  each_proper {at} zero (each_one p each) h = rw (add-zero at) p
  each_proper {at} (suc i) (each_one p each) h =
      let q : at + suc i ≡ suc at + i = omega arith in
      rw q (each_proper i each (omega arith))

module _ (all : List Rule) where
  abbrev Kinds : ℕ
  Kinds = length (kind_names all)

  abbrev EachHere : ℕ → List Node → Type 0
  EachHere at nodes = Each Kinds (sizes all) at nodes

  -- a word's node: a ref to a node that there is, or a token of a kind that there is
  word_proper : (at : ℕ) (w : List ℕ) → Known all (w ∷ []) → Proper Kinds (sizes all) at (word_node all w)
  unfolding word_node
  word_proper at w known = go (among w (rule_names all)) refl
    where
      go : (t : Bool) → among w (rule_names all) ≡ t
          → Proper Kinds (sizes all) at (cond t (Ref (last_node 0 all w)) (Token (number_of w (kind_names all))))
      go true e = ref_is {l = last_node 0 all w} (let h = last_below 0 all w e in omega arith)
      go false e = token_is (number_below w (kind_names all) (known_one known e))

  -- two expressions' nodes and one behind them
  each_joined : (at : ℕ) (e f : Expression) {top : Node} → EachHere at (nodes_from all at e)
      → EachHere (at + size e) (nodes_from all (at + size e) f) → Proper Kinds (sizes all) (at + size e + size f) top
      → EachHere at (nodes_from all at e ++ (nodes_from all (at + size e) f ++ (top ∷ [])))
  each_joined at e f left right last =
      each_append (at + size e) left (omega (arith, length_nodes all at e))
      (each_append (at + size e + size f) right (omega (arith, length_nodes all (at + size e) f)) (each_one last each_none))

  each_expression : (at : ℕ) (e : Expression) → at + size e ≤ sizes all → Known all (words_in e) → EachHere at (nodes_from all at e)
  unfolding nodes_from size words_in
  each_expression at (named p letters) h known = each_one (word_proper at letters known) each_none
  each_expression at (nothing p) h known = each_one empty_is each_none
  each_expression at (choice p e f) h known =
      let l = size_positive e in
      let r = size_positive f in
      each_joined at e f
      (each_expression at e (omega arith) (known_left (words_in e) (words_in f) known))
      (each_expression (at + size e) f (omega arith) (known_right (words_in e) (words_in f) known))
      (either_is {l = at + size e - 1} {r = at + size e + size f - 1} (omega arith) (omega arith))
  each_expression at (sequence p e f) h known =
      let l = size_positive e in
      let r = size_positive f in
      each_joined at e f
      (each_expression at e (omega arith) (known_left (words_in e) (words_in f) known))
      (each_expression (at + size e) f (omega arith) (known_right (words_in e) (words_in f) known))
      (then_is {l = at + size e - 1} {r = at + size e + size f - 1} (omega arith) (omega arith))
  each_expression at (starred p e) h known =
      let l = size_positive e in
      each_append (at + size e) (each_expression at e (omega arith) known) (omega (arith, length_nodes all at e))
      (each_one (ref_is {l = at + size e + 3} (omega arith))
      (each_one (then_is {l = at + size e - 1} {r = at + size e} (omega arith) (omega arith))
      (each_one empty_is
      (each_one (either_is {l = at + size e + 1} {r = at + size e + 2} (omega arith) (omega arith)) each_none))))

  each_rules : (at : ℕ) (rules : List Rule) → at + sizes rules ≤ sizes all → Known all (all_words rules)
      → EachHere at (rules_nodes all at rules)
  unfolding rules_nodes sizes all_words
  each_rules at [] h known = each_none
  each_rules at (r ∷ rules) h known =
      each_append (at + size r.expression)
      (each_expression at r.expression (omega arith) (known_left (words_in r.expression) (all_words rules) known))
      (omega (arith, length_nodes all at r.expression))
      (each_rules (at + size r.expression) rules (omega arith)
      (known_right (words_in r.expression) (all_words rules) known))

  node_proper : (n : ℕ) → n < sizes all → Proper Kinds (sizes all) n (get_or (rules_nodes all 0 all) n Fail)
  node_proper n h =
      rw (zero-add n) at
      (each_proper n (each_rules 0 all (omega arith) (all_known all)) (omega (arith, length_rules_nodes all 0 all)))

pub book_well_formed : (first : Rule) (further : List Rule) → too_big (first ∷ further) ≡ false → 0 < length (kind_names (first ∷ further))
    → WellFormed (sheet_book first further)
unfolding sheet_book too_big sizes
book_well_formed first further small some =
    let all = first ∷ further in
    let t = neither (ltb _ (sizes all)) (ltb _ (length (kind_names all))) small in
    let positive = size_positive first.expression in
    record {
      some_node = omega arith;
      few_nodes = ltb-false _ _ t.0;
      some_kind = some;
      few_kinds = ltb-false _ _ t.1;
      start_below = omega arith;
      proper = node_proper all;
      beyond = λ n h. get_or-eq_default (rules_nodes all 0 all) Fail {n = n} (omega (arith, length_rules_nodes all 0 all));
    }
