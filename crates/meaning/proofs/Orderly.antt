-- The invariant of the parts held: each is productive and stands apart from the parts under it. Where no node has a conflict, a walk keeps it.
use Prim.Native.Nat.{ℕ}
use mathlib.Core.List.{List, [], ◌∷◌, ◌++◌}
use Rattle.book.specs.declared.Node.{Node}
use Rattle.book.specs.declared.Node.TheVariants.{Then}
use Rattle.grammar.specs.Rules.{Productive}
use Rattle.grammar.specs.Rules.{First, f_token, f_left, f_right, f_hold, f_skip, f_tagged, f_ref}
use Rattle.grammar.specs.Rules.{Snf, s_left, s_right, s_then_left, s_then_right, s_tagged, s_ref, Conflict, c_follow}
use Rattle.meaning.specs.Meaning.{tree}
use Rattle.grammar.proofs.Facts.{nullable_productive, first_productive, productive_derives}
use Rattle.meaning.proofs.Parts.{Held, held_end, held_none, held_some, derives_before}
use Rattle.meaning.proofs.Walk.{after, part_first}

-- a node stands apart from parts held: no kind that should not follow it begins a run that they derive
pub record Apart (node : ℕ → Node) (top : Node) (held : List ℕ) : Type 0 where
  pub none : (k : ℕ) (zs ps : List ℕ) → Snf node top k → Held node held (k ∷ zs) ps → ⊥

-- parts held in order
pub data Orderly (node : ℕ → Node) : List ℕ → Type 0 where
  orderly_end : Orderly node []
  orderly_part : {n : ℕ} {held : List ℕ} → Productive node (node n) → Apart node (node n) held → Orderly node held → Orderly node (n ∷ held)

module _ {node : ℕ → Node} where
  -- no run that begins with a kind is derived where nothing is held
  pub held_nothing : {k : ℕ} {zs ps : List ℕ} → Held node [] (k ∷ zs) ps → ⊥
  held_nothing = elim [ ]

  -- what should not follow a node should not follow another that stands apart
  pub apart_as : {top low : Node} {held : List ℕ} → ((k : ℕ) → Snf node low k → Snf node top k) → Apart node top held → Apart node low held
  apart_as f a = record { none = λ k zs ps s h. a.none k zs ps (f k s) h }

  -- the left of a then stands apart from its right, held, and the parts under it
  pub apart_left : {l r : ℕ} {held : List ℕ} → (Conflict node (Then l r) → ⊥) → Apart node (Then l r) held → Apart node (node l) (r ∷ held)
  apart_left {l} {r} {held} clear a = record { none = λ k zs ps s h. go k zs ps s h }
    where
      go : (k : ℕ) (zs ps : List ℕ) → Snf node (node l) k → Held node (r ∷ held) (k ∷ zs) ps → ⊥
      go k zs ps s (held_none n h) = a.none k zs _ (s_then_left s n) h
      go k zs ps s (held_some p h) = clear (c_follow s (part_first p))

  -- parts held in order derive some run
  pub orderly_run : {held : List ℕ} → Orderly node held → (zs ps : List ℕ) × Held node held zs ps
  orderly_run orderly_end = ([], [], held_end)
  orderly_run (orderly_part {n} p a o) =
      let s = productive_derives p in
      let t = orderly_run o in
      (s.0 ++ t.0, tree n s.1 ++ t.1, derives_before n s.0 s.1 t.2)

module _ {node : ℕ → Node} (none : (n : ℕ) → Conflict node (node n) → ⊥) where
  -- a walk keeps the parts held in order
  pub walk_orderly : {top : Node} {k : ℕ} (d : First node top k) (held : List ℕ) → (Conflict node top → ⊥) → Apart node top held
      → Orderly node held → Orderly node (after d held)
  unfolding after
  walk_orderly f_token held clear a o = o
  walk_orderly (f_left d) held clear a o = walk_orderly d held (none _) (apart_as (λ k. s_left) a) o
  walk_orderly (f_right d) held clear a o = walk_orderly d held (none _) (apart_as (λ k. s_right) a) o
  walk_orderly (f_hold {r = r} d p) held clear a o =
      walk_orderly d (r ∷ held) (none _) (apart_left clear a)
      (orderly_part p (apart_as (λ k. s_then_right (first_productive d)) a) o)
  walk_orderly (f_skip n d) held clear a o =
      walk_orderly d held (none _) (apart_as (λ k. s_then_right (nullable_productive n)) a) o
  walk_orderly (f_tagged d) held clear a o = walk_orderly d held (none _) (apart_as (λ k. s_tagged) a) o
  walk_orderly (f_ref d) held clear a o = walk_orderly d held (none _) (apart_as (λ k. s_ref) a) o
