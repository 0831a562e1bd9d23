-- The walk along a derivation of a kind in FIRST: the parts held behind it, the records that it writes and how many nodes it visits.
-- What the parts held behind it derive is what the parts held before derive behind the kind.
use Prim.Native.Nat.{ℕ, suc}
use mathlib.Core.List.{List, [], ◌∷◌, ◌++◌}
use Rattle.book.specs.declared.Node.{Node}
use Rattle.book.specs.declared.Node.TheVariants.{Then}
use Rattle.grammar.specs.Rules.{First, f_token, f_left, f_right, f_hold, f_skip, f_tagged, f_ref}
use Rattle.running.specs.Running.{emptied}
use Rattle.grammar.proofs.Facts.{nullable_productive, first_productive}
use Rattle.meaning.proofs.Parts.{Part, part_token, part_left, part_right, part_alone, part_both, part_skip, part_tagged, part_ref, Held, held_none, held_some}

module _ {node : ℕ → Node} where
  -- the parts held behind the walk
  unfoldable pub after : {top : Node} {k : ℕ} → First node top k → List ℕ → List ℕ
  after f_token held = held
  after (f_left d) held = after d held
  after (f_right d) held = after d held
  after (f_hold {r = r} d p) held = after d (r ∷ held)
  after (f_skip a d) held = after d held
  after (f_tagged d) held = after d held
  after (f_ref d) held = after d held

  -- the records that the walk from a node of this number writes
  unfoldable pub recorded : {top : Node} {k : ℕ} → ℕ → First node top k → List ℕ
  recorded n f_token = n ∷ []
  recorded n (f_left {l} d) = n ∷ recorded l d
  recorded n (f_right {r = r} d) = n ∷ recorded r d
  recorded n (f_hold {l} d p) = n ∷ recorded l d
  recorded n (f_skip {l} {r} a d) = n ∷ emptied l ∷ recorded r d
  recorded n (f_tagged {l} d) = n ∷ recorded l d
  recorded n (f_ref {l} d) = n ∷ recorded l d

  -- how many nodes the walk visits
  unfoldable pub size : {top : Node} {k : ℕ} → First node top k → ℕ
  size f_token = 1
  size (f_left d) = suc (size d)
  size (f_right d) = suc (size d)
  size (f_hold d p) = suc (size d)
  size (f_skip a d) = suc (size d)
  size (f_tagged d) = suc (size d)
  size (f_ref d) = suc (size d)

  pub part_first : {n : ℕ} {top : Node} {k : ℕ} {zs ys ps qs : List ℕ} → Part node n top k zs ys ps qs → First node top k
  part_first part_token = f_token
  part_first (part_left p) = f_left (part_first p)
  part_first (part_right p) = f_right (part_first p)
  part_first (part_alone p a) = f_hold (part_first p) (nullable_productive a)
  part_first (part_both p q) = f_hold (part_first p) (first_productive (part_first q))
  part_first (part_skip a p) = f_skip a (part_first p)
  part_first (part_tagged p) = f_tagged (part_first p)
  part_first (part_ref p) = f_ref (part_first p)

-- a part with these records behind the kind, and the parts held before behind it
pub record Taken (node : ℕ → Node) (n : ℕ) (top : Node) (k : ℕ) (held zs ps : List ℕ) : Type 0 where
  pub rest : List ℕ
  pub others : List ℕ
  pub part : Part node n top k zs rest ps others
  pub behind : Held node held rest others

-- the parts held behind the walk along some derivation derive this run
pub record Walked (node : ℕ → Node) (top : Node) (k : ℕ) (held zs : List ℕ) : Type 0 where
  pub first : First node top k
  pub others : List ℕ
  pub behind : Held node (after first held) zs others

module _ {node : ℕ → Node} where
  -- what stands behind a part of which the right is held
  taken_hold : {n l r k : ℕ} {held zs ps ys qs : List ℕ} → Part node l (node l) k zs ys ps qs → Held node (r ∷ held) ys qs
      → Taken node n (Then l r) k held zs (n ∷ ps)
  taken_hold p (held_none a h) = record { rest = _; others = _; part = part_alone p a; behind = h }
  taken_hold p (held_some q h) = record { rest = _; others = _; part = part_both p q; behind = h }

  -- the walk is sound: a run of the parts held behind it is one of the parts held before, behind the kind
  pub walk_sound : {top : Node} {k : ℕ} (n : ℕ) (d : First node top k) (held : List ℕ) {zs ps : List ℕ} → Held node (after d held) zs ps
      → Taken node n top k held zs (recorded n d ++ ps)
  unfolding after recorded
  walk_sound n f_token held h = record { rest = _; others = _; part = part_token; behind = h }
  walk_sound n (f_left {l} d) held h =
      let t = walk_sound l d held h in record { rest = t.rest; others = t.others; part = part_left t.part; behind = t.behind }
  walk_sound n (f_right {r = r} d) held h =
      let t = walk_sound r d held h in record { rest = t.rest; others = t.others; part = part_right t.part; behind = t.behind }
  walk_sound n (f_hold {l} {r} d p) held h =
      let t = walk_sound l d (r ∷ held) h in taken_hold t.part t.behind
  walk_sound n (f_skip {r = r} a d) held h =
      let t = walk_sound r d held h in record { rest = t.rest; others = t.others; part = part_skip a t.part; behind = t.behind }
  walk_sound n (f_tagged {l} d) held h =
      let t = walk_sound l d held h in record { rest = t.rest; others = t.others; part = part_tagged t.part; behind = t.behind }
  walk_sound n (f_ref {l} d) held h =
      let t = walk_sound l d held h in record { rest = t.rest; others = t.others; part = part_ref t.part; behind = t.behind }

  -- the walk is complete: a part and what stands behind it is the walk along some derivation
  pub walk_complete : {n : ℕ} {top : Node} {k : ℕ} {held zs ys ps qs : List ℕ} → Part node n top k zs ys ps qs → Held node held ys qs
      → Walked node top k held zs
  unfolding after
  walk_complete part_token h = record { first = f_token; others = _; behind = h }
  walk_complete (part_left p) h =
      let w = walk_complete p h in record { first = f_left w.first; others = w.others; behind = w.behind }
  walk_complete (part_right p) h =
      let w = walk_complete p h in record { first = f_right w.first; others = w.others; behind = w.behind }
  walk_complete (part_alone p a) h =
      let w = walk_complete p (held_none a h) in
      record { first = f_hold w.first (nullable_productive a); others = w.others; behind = w.behind }
  walk_complete (part_both p q) h =
      let w = walk_complete p (held_some q h) in
      record { first = f_hold w.first (first_productive (part_first q)); others = w.others; behind = w.behind }
  walk_complete (part_skip a p) h =
      let w = walk_complete p h in record { first = f_skip a w.first; others = w.others; behind = w.behind }
  walk_complete (part_tagged p) h =
      let w = walk_complete p h in record { first = f_tagged w.first; others = w.others; behind = w.behind }
  walk_complete (part_ref p) h =
      let w = walk_complete p h in record { first = f_ref w.first; others = w.others; behind = w.behind }
