-- What one event comes to on the free machine, seen by its result: taken, and the parts then held derive exactly what stood behind the
-- event; or refused, and no run of the parts held begins with it.
use Prim.Native.Nat.{ℕ, ◌+◌, ◌-◌}
use native.Mathlib.Omega.{arith}
use mathlib.Core.Path.{◌≡◌, refl, sym, ap, ◌∙◌}
use mathlib.Core.Bool.{Bool, true, false, false≢true}
use mathlib.Core.List.{List, [], ◌∷◌, ◌++◌}
use Rattle.book.specs.Book.{Book}
use Rattle.book.specs.declared.Node.{Node}
use Rattle.grammar.specs.Rules.{First, Nullable}
use Rattle.running.specs.Cells.{Marks, Marked, plan_for}
use Rattle.running.specs.Running.{unlimited, UNEXPECTED, Step, taken, refused, emptied, noted, take_off, walk, event}
use Rattle.grammar.specs.Passing.{Passes}
use Rattle.grammar.proofs.Facts.{nullable_first_snf}
use Rattle.meaning.proofs.Parts.{Held, held_none, held_some}
use Rattle.meaning.proofs.Walk.{after, recorded, size, part_first, walk_sound, walk_complete}
use Rattle.meaning.proofs.Machine.{walk_is, cell_first, cell_other}
use Rattle.meaning.proofs.Size.{size_below}
use Rattle.meaning.proofs.Orderly.{Apart, Orderly, orderly_part, held_nothing, walk_orderly}

-- an event taken: the parts then held are in order and derive exactly what stood behind the event
pub record Took (node : ℕ → Node) (k : ℕ) (held then records : List ℕ) : Type 0 where
  pub orderly : Orderly node then
  pub sound : (zs ps : List ℕ) → Held node then zs ps → Held node held (k ∷ zs) (records ++ ps)
  pub complete : (zs ps : List ℕ) → Held node held (k ∷ zs) ps → (qs : List ℕ) × Held node then zs qs

-- an event of a kind, with these parts held, by its result
pub data Event (node : ℕ → Node) (k : ℕ) (held : List ℕ) : Step → Type 0 where
  event_taken : {then records : List ℕ} → Took node k held then records → Event node k held (taken then records)
  event_refused : ((zs ps : List ℕ) → Held node held (k ∷ zs) ps → ⊥) → Event node k held (refused UNEXPECTED)

-- a nullable part without the kind in FIRST is passed
passed : {node : ℕ → Node} {k n : ℕ} {held : List ℕ} {s : Step} → Nullable node (node n) → (First node (node n) k → ⊥) → Event node k held s
    → Event node k (n ∷ held) (noted (emptied n) s)
unfolding noted
passed {node} {k} {n} {held} a f (event_taken {then} t) =
    event_taken (record { orderly = t.orderly; sound = λ zs ps h. held_none a (t.sound zs ps h); complete = go })
  where
    go : (zs ps : List ℕ) → Held node (n ∷ held) (k ∷ zs) ps → (qs : List ℕ) × Held node then zs qs
    go zs ps (held_none c h) = t.complete zs _ h
    go zs ps (held_some p h) = absurd (f (part_first p))
passed {node} {k} {n} {held} a f (event_refused g) = event_refused go
  where
    go : (zs ps : List ℕ) → Held node (n ∷ held) (k ∷ zs) ps → ⊥
    go zs ps (held_none c h) = g zs _ h
    go zs ps (held_some p h) = f (part_first p)

-- a part neither nullable nor with the kind in FIRST refuses
barred : {node : ℕ → Node} {k n : ℕ} {held : List ℕ} → (Nullable node (node n) → ⊥) → (First node (node n) k → ⊥) → Event node k (n ∷ held) (refused UNEXPECTED)
barred {node} {k} {n} {held} g f = event_refused go
  where
    go : (zs ps : List ℕ) → Held node (n ∷ held) (k ∷ zs) ps → ⊥
    go zs ps (held_none c h) = g c
    go zs ps (held_some p h) = f (part_first p)

module _ {b : Book} (passes : Passes b) (marks : Marks) (marked : Marked b.node marks) (k : ℕ) where
  -- a walk that begins goes along a derivation to its end
  pub walk_whole : {n : ℕ} (d : First b.node (b.node n) k) (held : List ℕ)
      → walk (plan_for b marks) unlimited k b.count n held ≡ taken (after d held) (recorded n d)
  walk_whole {n} d held =
      let none = passes.no_conflict in
      let h = size_below b passes.well_formed none d in
      let q : b.count ≡ (b.count - size d) + size d = omega arith in
      ap (λ (f : ℕ). walk (plan_for b marks) unlimited k f n held) q ∙ walk_is b marks marked k none (b.count - size d) n d held refl (none n)

  -- a part with the kind in FIRST takes the event
  entered : {n : ℕ} {held : List ℕ} (d : First b.node (b.node n) k) → Apart b.node (b.node n) held
      → Orderly b.node held → Event b.node k (n ∷ held) (taken (after d held) (recorded n d))
  entered {n} {held} d a o =
      event_taken
      (record {
        orderly = walk_orderly passes.no_conflict d held (passes.no_conflict n) a o;
        sound = λ zs ps h. let t = walk_sound n d held h in held_some t.part t.behind;
        complete = go;
      })
    where
      go : (zs ps : List ℕ) → Held b.node (n ∷ held) (k ∷ zs) ps → (qs : List ℕ) × Held b.node (after d held) zs qs
      go zs ps (held_none c h) = absurd (a.none k zs _ (nullable_first_snf c d) h)
      go zs ps (held_some p h) =
          let w = walk_complete p h in
          let q = walk_whole d held in
          let r = walk_whole w.first held in
          let e : after w.first held ≡ after d held = cc in
          (w.others, rw e at w.behind)

  pub event_is : (held : List ℕ) → Orderly b.node held → Event b.node k held (event (plan_for b marks) unlimited k held)
  unfolding event take_off
  event_is [] o = event_refused (λ zs ps. held_nothing)
  event_is (n ∷ held) (orderly_part p a o) = go (marks.first n k) refl (marks.null n) refl (event_is held o)
    where
      go : (t : Bool) → marks.first n k ≡ t → (u : Bool) → marks.null n ≡ u
          → Event b.node k held (event (plan_for b marks) unlimited k held)
          → Event b.node k (n ∷ held) (event (plan_for b marks) unlimited k (n ∷ held))
      go true e u f v =
          let d = (marked.first_is n k).0 e in
          let c = cell_first b marks marked k refl d in
          let w = walk_whole d held in
          rw (c, w) (entered d a o)
      go false e true f v =
          let c = cell_other b marks marked k n (b.node n) e in
          rw (c, f) (passed ((marked.null_is n).0 f) (λ d. false≢true (sym e ∙ (marked.first_is n k).1 d)) v)
      go false e false f v =
          let c = cell_other b marks marked k n (b.node n) e in
          rw (c, f) (barred (λ g. false≢true (sym f ∙ (marked.null_is n).1 g)) (λ d. false≢true (sym e ∙ (marked.first_is n k).1 d)))
