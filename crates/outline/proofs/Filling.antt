-- The nodes of expressions, as they are put down one after the other.
use Prim.Native.Nat.{ℕ, ◌+◌, ◌-◌, ◌≤◌}
use native.Mathlib.Omega.{arith}
use mathlib.Core.Path.{◌≡◌, refl, sym, subst, ◌∙◌}
use mathlib.Core.Bool.{Bool, true, false, cond}
use mathlib.Core.List.{List, [], ◌∷◌, ◌++◌}
use lib.ListN.{length, length-append}
use Rattle.sheets.specs.Text.{same, empty_word}
use Rattle.sheets.specs.Grammar.{Expression, named, nothing, choice, sequence, starred}
use Rattle.sheets.specs.Nodes.{size}
use Rattle.syntax.specs.Machine.{word_of}
use Rattle.book.specs.declared.Node.{Node}
use Rattle.book.specs.declared.Node.TheVariants.{Empty, Token, Either, Then}
use Rattle.outline.specs.Raw.{raw, raw_star, raw_from}
use Rattle.outline.specs.Parts.{Laid}
use Rattle.outline.specs.declared.RawNode.{RawNode}
use Rattle.outline.proofs.Counting.{laid_then, laid_as, next_small}

-- as many as the expression has
pub raw_length : (n : ℕ) (e : Expression) → length (raw_from n e) ≡ size e
unfolding raw_from size
raw_length n (named p letters) = refl
raw_length n (nothing p) = refl
raw_length n (choice p e f) =
    simp length-append (omega (arith, raw_length n e, raw_length (n + size e) f))
raw_length n (sequence p e f) =
    simp length-append (omega (arith, raw_length n e, raw_length (n + size e) f))
raw_length n (starred p e) = simp length-append (omega (arith, raw_length n e))

-- a word's node
pub filled_word : {before after : List RawNode} {n next : ℕ} {node : Node} (at : ℕ) (letters : List ℕ)
    → node ≡ cond (same letters empty_word) Empty (Token 0)
    → Laid before n next (raw node at ∷ []) after
    → Laid before n next (raw_from n (word_of at letters)) after
unfolding word_of raw_from
filled_word {before} {after} {n} {next} at letters is p = go (same letters empty_word) (rw is at p)
  where
    go : (test : Bool)
        → Laid before n next (raw (cond test Empty (Token 0)) at ∷ []) after
        → Laid before n next (raw_from n (cond test (nothing at) (named at letters))) after
    go true q = q
    go false q = q

module _ {before between after : List RawNode} {n next last place : ℕ} (e : Expression)
    (p : Laid before n next (raw_from n e) between) where
  -- a star's nodes
  pub filled_star : Laid between next last (raw_star next place) after → Laid before n last (raw_from n (starred place e)) after
  unfolding raw_from
  filled_star q =
      laid_as (laid_then p q) (rw (length-append, length-append)) (λ few.
      let is : next ≡ n + size e = next_small p (omega (arith, few, length-append (raw_from n e) (raw_star next place)))
      ∙ rw (raw_length n e) in
      rw is)

  -- two expressions' nodes and the node that joins them
  module _ {middle : List RawNode} {further : ℕ} (f : Expression) (q : Laid between next further (raw_from next f) middle) where
    filled-joined : (joined : Expression) (of : ℕ → ℕ → Node)
        → raw_from n joined
        ≡ raw_from n e ++ (raw_from (n + size e) f ++ (raw (of (n + size e - 1) (n + size e + size f - 1)) place ∷ []))
        → Laid middle further last (raw (of (next - 1) (further - 1)) place ∷ []) after
        → Laid before n last (raw_from n joined) after
    filled-joined joined of is r =
        subst (λ l. Laid before n last l after) (sym is) (laid_as (laid_then p (laid_then q r))
        (simp length-append (omega (arith, raw_length next f, raw_length (n + size e) f)))
        (λ few.
        let sum = length-append (raw_from n e) (raw_from next f ++ (raw (of (next - 1) (further - 1)) place ∷ [])) in
        let rest = length-append (raw_from next f) (raw (of (next - 1) (further - 1)) place ∷ []) in
        let one : next ≡ n + size e = next_small p (omega (arith, few, sum)) ∙ rw (raw_length n e) in
        let small : next + length (raw_from next f) ≤ 512 = omega (arith, few, sum, rest, one, raw_length n e) in
        let both : further ≡ n + size e + size f = next_small q small ∙ omega (arith, one, raw_length next f) in
        rw (both, one)))

    pub filled_choice : Laid middle further last (raw (Either (next - 1) (further - 1)) place ∷ []) after
        → Laid before n last (raw_from n (choice place e f)) after
    unfolding raw_from
    filled_choice r = filled-joined (choice place e f) (λ l r. Either l r) refl r

    pub filled_sequence : Laid middle further last (raw (Then (next - 1) (further - 1)) place ∷ []) after
        → Laid before n last (raw_from n (sequence place e f)) after
    unfolding raw_from
    filled_sequence r = filled-joined (sequence place e f) (λ l r. Then l r) refl r
