-- The last node of an expression, and where it stands: the nodes of each expression of a sheet stand at a known place.
use Prim.Native.Nat.{ℕ, ◌+◌, ◌-◌, ◌<◌}
use native.Mathlib.Nat.{add-zero}
use native.Mathlib.Omega.{arith}
use mathlib.Core.Path.{◌≡◌, refl, ◌∙◌}
use mathlib.Core.Bool.{Bool, true, false, cond}
use mathlib.Core.List.{List, [], ◌∷◌, ◌++◌}
use lib.ListN.{length, get_or, length-append, get_or-append}
use lib.Seq.{get_or-append-add}
use Rattle.book.specs.declared.Node.{Node}
use Rattle.book.specs.declared.Node.TheVariants.{Fail, Empty, Token, Either, Then, Ref}
use Rattle.sheets.specs.Grammar.{Expression, named, nothing, choice, sequence, starred, Rule}
use Rattle.sheets.specs.Nodes.{among, number_of, rule_names, words_in, kind_names, size, last_node, word_node, nodes_from}
use Rattle.sheets.proofs.Known.{Known, known_left, known_right, known_one}
use Rattle.sheets.proofs.Sizes.{length_nodes}

-- the four nodes behind a starred factor, by their numbers: a ref to the last of them, then (factor, ref), empty, and
-- either (then, empty)
pub record Star (node : ℕ → Node) (factor ref both none last : ℕ) : Type 0 where
  pub ref_is : node ref ≡ Ref last
  pub both_is : node both ≡ Then factor ref
  pub none_is : node none ≡ Empty
  pub last_is : node last ≡ Either both none

-- a node is the last of an expression
pub data Last (rules : List Rule) (node : ℕ → Node) : Expression → Node → Type 0 where
  last_rule : {p : ℕ} {letters : List ℕ} → among letters (rule_names rules) ≡ true
      → Last rules node (named p letters) (Ref (last_node 0 rules letters))
  last_kind : {p : ℕ} {letters : List ℕ} → among letters (rule_names rules) ≡ false → among letters (kind_names rules) ≡ true
      → Last rules node (named p letters) (Token (number_of letters (kind_names rules)))
  last_nothing : {p : ℕ} → Last rules node (nothing p) Empty
  last_choice : {p l r : ℕ} {e f : Expression} → Last rules node e (node l) → Last rules node f (node r)
      → Last rules node (choice p e f) (Either l r)
  last_sequence : {p l r : ℕ} {e f : Expression} → Last rules node e (node l) → Last rules node f (node r)
      → Last rules node (sequence p e f) (Then l r)
  last_star : {p factor ref both none last : ℕ} {e : Expression} → Last rules node e (node factor)
      → Star node factor ref both none last → Last rules node (starred p e) (Either both none)

-- nodes stand from a number on
pub record Stand (node : ℕ → Node) (at : ℕ) (nodes : List Node) : Type 0 where
  pub each : (i : ℕ) → i < length nodes → node (at + i) ≡ get_or nodes i Fail

module _ {node : ℕ → Node} {at : ℕ} where
  pub stand_left : {xs : List Node} (ys : List Node) → Stand node at (xs ++ ys) → Stand node at xs
  stand_left {xs} ys s =
      record { each = λ i h. s.each i (omega (arith, length-append xs ys)) ∙ get_or-append xs ys Fail i h }

  pub stand_right : (xs : List Node) {ys : List Node} (next : ℕ) → next ≡ at + length xs → Stand node at (xs ++ ys) → Stand node next ys
  stand_right xs {ys} next e s = record { each = λ i h. go i h }
    where
      go : (i : ℕ) → i < length ys → node (next + i) ≡ get_or ys i Fail
      go i h =
          let q : next + i ≡ at + (length xs + i) = omega arith in
          rw q (s.each (length xs + i) (omega (arith, length-append xs ys)) ∙ get_or-append-add xs ys i Fail)

  pub stand_first : {top : Node} {nodes : List Node} → Stand node at (top ∷ nodes) → node at ≡ top
  stand_first s = rw (add-zero at) at (s.each 0 (omega arith))

module _ (all : List Rule) {node : ℕ → Node} where
  last_word : (p : ℕ) (letters : List ℕ) → Known all (letters ∷ []) → Last all node (named p letters) (word_node all letters)
  unfolding word_node
  last_word p letters known = go (among letters (rule_names all)) refl
    where
      go : (t : Bool) → among letters (rule_names all) ≡ t
          → Last all node (named p letters) (cond t (Ref (last_node 0 all letters)) (Token (number_of letters (kind_names all))))
      go true e = last_rule e
      go false e = last_kind e (known_one known e)

  -- two expressions' nodes and one behind them
  stand_joined : (at : ℕ) (e f : Expression) {top : Node}
      → Stand node at (nodes_from all at e ++ (nodes_from all (at + size e) f ++ (top ∷ [])))
      → Stand node at (nodes_from all at e) × Stand node (at + size e) (nodes_from all (at + size e) f)
      × (node (at + (size e + size f + 1) - 1) ≡ top)
  stand_joined at e f s =
      let behind = stand_right (nodes_from all at e) (at + size e) (omega (arith, length_nodes all at e)) s in
      let last =
      stand_right (nodes_from all (at + size e) f) (at + size e + size f) (omega (arith, length_nodes all (at + size e) f)) behind
      in
      let place : at + (size e + size f + 1) - 1 ≡ at + size e + size f = omega arith in
      (stand_left _ s, stand_left _ behind, rw place (stand_first last))

  -- where an expression's nodes stand, the last of them is its last node
  pub stand_last : (at : ℕ) (e : Expression) → Known all (words_in e) → Stand node at (nodes_from all at e)
      → Last all node e (node (at + size e - 1))
  unfolding nodes_from size words_in
  stand_last at (named p letters) known s =
      let place : at + 1 - 1 ≡ at = omega arith in
      rw (place, stand_first s) (last_word p letters known)
  stand_last at (nothing p) known s =
      let place : at + 1 - 1 ≡ at = omega arith in
      rw (place, stand_first s) last_nothing
  stand_last at (choice p e f) known s =
      let t = stand_joined at e f s in
      rw t.2
      (last_choice (stand_last at e (known_left (words_in e) (words_in f) known) t.0)
      (stand_last (at + size e) f (known_right (words_in e) (words_in f) known) t.1))
  stand_last at (sequence p e f) known s =
      let t = stand_joined at e f s in
      rw t.2
      (last_sequence (stand_last at e (known_left (words_in e) (words_in f) known) t.0)
      (stand_last (at + size e) f (known_right (words_in e) (words_in f) known) t.1))
  stand_last at (starred p e) known s =
      let four = stand_right (nodes_from all at e) (at + size e) (omega (arith, length_nodes all at e)) s in
      let star : Star node (at + size e - 1) (at + size e) (at + size e + 1) (at + size e + 2) (at + size e + 3) =
      record {
        ref_is = stand_first four;
        both_is = four.each 1 (omega arith);
        none_is = four.each 2 (omega arith);
        last_is = four.each 3 (omega arith);
      }
      in
      let place : at + (size e + 4) - 1 ≡ at + size e + 3 = omega arith in
      rw (place, star.last_is) (last_star (stand_last at e known (stand_left _ s)) star)
