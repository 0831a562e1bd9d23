-- What parts held in order expect: a kind may come next exactly where some run that they derive begins with it.
use Prim.Native.Nat.{ℕ}
use mathlib.Core.Path.{◌≡◌, refl, sym, ap, ◌∙◌}
use mathlib.Core.Bool.{true, false≢true}
use mathlib.Core.List.{List, [], ◌∷◌, ◌++◌}
use lib.Dec.{eqb}
use Rattle.words.proofs.Tests.{holds}
use Rattle.book.specs.Book.{Book, WellFormed}
use Rattle.book.specs.declared.Node.{Node}
use Rattle.grammar.proofs.Facts.{first_iff}
use Rattle.running.specs.Cells.{Marks, Marked, plan_for}
use Rattle.running.specs.Running.{Next, next_here, next_under}
use Rattle.meaning.specs.Meaning.{tree}
use Rattle.meaning.proofs.Parts.{Held, held_none, held_some, derives_before}
use Rattle.meaning.proofs.Walk.{part_first}
use Rattle.meaning.proofs.Machine.{cell_first, cell_other}
use Rattle.meaning.proofs.Size.{first_kind}
use Rattle.meaning.proofs.Orderly.{Orderly, orderly_end, orderly_part, orderly_run}
use Rattle.meaning.proofs.Event.{Took}

-- parts held behind a run: they are in order, and derive exactly what the parts held before derive behind that run
pub record Behind (node : ℕ → Node) (held before parts : List ℕ) : Type 0 where
  pub orderly : Orderly node parts
  pub sound : (zs ps : List ℕ) → Held node parts zs ps → (qs : List ℕ) × Held node held (before ++ zs) qs
  pub complete : (zs ps : List ℕ) → Held node held (before ++ zs) ps → (qs : List ℕ) × Held node parts zs qs

module _ {node : ℕ → Node} where
  -- behind no event
  pub behind_none : {held : List ℕ} → Orderly node held → Behind node held [] held
  behind_none o = record { orderly = o; sound = λ zs ps h. (ps, h); complete = λ zs ps h. (ps, h) }

  -- one event taken before
  pub behind-taken : {k : ℕ} {held then before parts rs : List ℕ} → Took node k held then rs → Behind node then before parts
      → Behind node held (k ∷ before) parts
  behind-taken {before = before} took b =
      record {
        orderly = b.orderly;
        sound = λ zs ps h. let t = b.sound zs ps h in (_, took.sound _ _ t.1);
        complete = λ zs ps h. let t = took.complete (before ++ zs) ps h in b.complete zs t.0 t.1;
      }

module _ (b : Book) (formed : WellFormed b) (marks : Marks) (marked : Marked b.node marks) {k : ℕ} where
  -- a kind that may come next begins a run of the parts held
  pub next-begins : {held : List ℕ} → Orderly b.node held → Next (plan_for b marks) k held
      → (zs ps : List ℕ) × Held b.node held (k ∷ zs) ps
  next-begins orderly_end next = elim next [ ]
  next-begins (orderly_part {n} p a o) (next_here known some) =
      let first : marks.first n k ≡ true = holds _ (λ none. some (cell_other b marks marked k n (b.node n) none)) in
      let s = first_iff.0 ((marked.first_is n k).0 first) in
      let t = orderly_run o in
      (s.0 ++ t.0, tree n s.1 ++ t.1, derives_before n (k ∷ s.0) s.1 t.2)
  next-begins (orderly_part {n} p a o) (next_under null next) =
      let t = next-begins o next in
      (t.0, _, held_none ((marked.null_is n).0 null) t.2)

  -- a kind that begins a run of the parts held may come next
  pub begins-next : {held zs ps : List ℕ} → Held b.node held (k ∷ zs) ps → Next (plan_for b marks) k held
  begins-next (held_none {n} c h) = next_under ((marked.null_is n).1 c) (begins-next h)
  begins-next (held_some {n} p h) =
      let d = part_first p in
      next_here (first_kind b formed d refl) (λ is. false≢true (sym (cell_first b marks marked k refl d) ∙ ap (λ (c : ℕ). eqb c 0) is))
