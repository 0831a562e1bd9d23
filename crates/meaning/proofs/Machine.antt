-- The walk of a plan's rows is the walk along any derivation of the kind in FIRST, where no node has a conflict: the cell of a
-- node for a kind leaves only one way to go on.
use Prim.Native.Nat.{ℕ, suc, ◌+◌}
use native.Mathlib.Nat.{add-suc}
use mathlib.Core.Path.{◌≡◌, refl, ap, ◌∙◌}
use mathlib.Core.Bool.{Bool, true, false, not, ◌&&◌, and-false, cond}
use mathlib.Core.List.{List, ◌∷◌}
use lib.Dec.{eqb}
use Rattle.book.specs.Book.{Book, left_of, right_of}
use Rattle.book.specs.declared.Node.{Node}
use Rattle.book.specs.declared.Node.TheVariants.{Fail, Empty, Token, Either, Then, Tagged, Ref}
use Rattle.grammar.specs.Rules.{First, f_token, f_left, f_right, f_hold, f_skip, f_tagged, f_ref, Conflict, c_first, c_follow}
use Rattle.running.specs.Cells.{Marks, Marked, cell_of, plan_for}
use Rattle.running.specs.Running.{Move, take_event, go_left, hold_right, skip_left, go_right, move_of, unlimited, emptied, Step, taken, noted, visit, walk}
use Rattle.grammar.specs.Passing.{NoConflict}
use Rattle.grammar.proofs.Facts.{nullable_first_snf}
use Rattle.meaning.proofs.Walk.{after, recorded, size}

-- what is not true is false
pub false_unless : (t : Bool) → (t ≡ true → ⊥) → t ≡ false
false_unless true f = absurd (f refl)
false_unless false f = refl

-- either of two cells that are not 0
either_cell : (t : Bool) (c d : ℕ) → eqb c 0 ≡ false → eqb d 0 ≡ false → eqb (cond t c d) 0 ≡ false
either_cell true c d one other = one
either_cell false c d one other = other

module _ (b : Book) (marks : Marks) (marked : Marked b.node marks) (k : ℕ) where
  marked_first : {n : ℕ} {top : Node} → b.node n ≡ top → First b.node top k → marks.first n k ≡ true
  marked_first {n} e d = (marked.first_is n k).1 (rw e d)

  unmarked_first : (n : ℕ) → (First b.node (b.node n) k → ⊥) → marks.first n k ≡ false
  unmarked_first n f = false_unless _ (λ t. f ((marked.first_is n k).0 t))

  -- one visit, by the node and its cell
  going : (extra left n : ℕ) (top : Node) (move : Move) (held : List ℕ) → b.node n ≡ top → move_of (cell_of marks k n top) ≡ move
      → walk (plan_for b marks) unlimited k (extra + suc left) n held
      ≡ noted n (visit move (λ m h. walk (plan_for b marks) unlimited k (extra + left) m h) unlimited (left_of top) (right_of top) held)
  unfolding walk
  going extra left n top move held e c =
      rw (add-suc extra left)
      λ i. noted n
      (visit ((ap (λ (node : Node). move_of (cell_of marks k n node)) e ∙ c) i) (λ m h. walk (plan_for b marks) unlimited k (extra + left) m h) unlimited (left_of (e i)) (right_of (e i)) held)

  -- the cell of a kind in FIRST is not 0
  pub cell_first : {n : ℕ} {top : Node} → b.node n ≡ top → First b.node top k → eqb (cell_of marks k n top) 0 ≡ false
  unfolding cell_of
  cell_first e (f_token) = let mark = marked_first e f_token in rw mark
  cell_first e (f_left {l} d) = let mark = marked_first e (f_left d) in rw mark (either_cell (marks.first l k) 2 5 refl refl)
  cell_first e (f_right {l} d) = let mark = marked_first e (f_right d) in rw mark (either_cell (marks.first l k) 2 5 refl refl)
  cell_first e (f_hold {l} d p) = let mark = marked_first e (f_hold d p) in rw mark (either_cell (marks.null l && not (marks.first l k)) 4 3 refl refl)
  cell_first e (f_skip {l} a d) = let mark = marked_first e (f_skip a d) in rw mark (either_cell (marks.null l && not (marks.first l k)) 4 3 refl refl)
  cell_first e (f_tagged d) = let mark = marked_first e (f_tagged d) in rw mark
  cell_first e (f_ref d) = let mark = marked_first e (f_ref d) in rw mark

  -- the cell of another kind is 0
  pub cell_other : (n : ℕ) (top : Node) → marks.first n k ≡ false → cell_of marks k n top ≡ 0
  unfolding cell_of
  cell_other n Fail mark = refl
  cell_other n Empty mark = refl
  cell_other n (Token j) mark = rw mark
  cell_other n (Either l r) mark = rw mark
  cell_other n (Then l r) mark = rw mark
  cell_other n (Tagged l t) mark = rw mark
  cell_other n (Ref l) mark = rw mark

  module _ (none : NoConflict b) where
    -- the walk goes along any derivation
    pub walk_is : {top : Node} (extra n : ℕ) (d : First b.node top k) (held : List ℕ) → b.node n ≡ top → (Conflict b.node top → ⊥)
        → walk (plan_for b marks) unlimited k (extra + size d) n held ≡ taken (after d held) (recorded n d)
    unfolding size after recorded cell_of visit noted move_of
    walk_is extra n (f_token {k}) held e clear =
        let mark = marked_first e f_token in
        going extra 0 n (Token k) take_event held e (rw mark)
    walk_is extra n (f_left {l} {r} d) held e clear =
        let mark = marked_first e (f_left d) in
        let left = marked_first refl d in
        going extra (size d) n (Either l r) go_left held e (rw (mark, left)) ∙ ap (noted n) (walk_is extra l d held refl (none _))
    walk_is extra n (f_right {l} {r} d) held e clear =
        let mark = marked_first e (f_right d) in
        let left = unmarked_first l (λ c. clear (c_first c d)) in
        going extra (size d) n (Either l r) go_right held e (rw (mark, left)) ∙ ap (noted n) (walk_is extra r d held refl (none _))
    walk_is extra n (f_hold {l} {r} d p) held e clear =
        let mark = marked_first e (f_hold d p) in
        let left = marked_first refl d in
        going extra (size d) n (Then l r) hold_right held e (rw (mark, left, and-false (marks.null l)))
        ∙ ap (noted n) (walk_is extra l d (r ∷ held) refl (none _))
    walk_is extra n (f_skip {l} {r} a d) held e clear =
        let mark = marked_first e (f_skip a d) in
        let left = unmarked_first l (λ c. clear (c_follow (nullable_first_snf a c) d)) in
        let null = (marked.null_is l).1 a in
        going extra (size d) n (Then l r) skip_left held e (rw (mark, left, null))
        ∙ ap (λ (s : Step). noted n (noted (emptied l) s)) (walk_is extra r d held refl (none _))
    walk_is extra n (f_tagged {l} {t} d) held e clear =
        let mark = marked_first e (f_tagged d) in
        going extra (size d) n (Tagged l t) go_left held e (rw mark) ∙ ap (noted n) (walk_is extra l d held refl (none _))
    walk_is extra n (f_ref {l} d) held e clear =
        let mark = marked_first e (f_ref d) in
        going extra (size d) n (Ref l) go_left held e (rw mark) ∙ ap (noted n) (walk_is extra l d held refl (none _))
