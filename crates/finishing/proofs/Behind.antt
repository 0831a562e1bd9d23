-- The parts held behind a run that is taken: they are those with which a reading stops at an event that no book has.
use Prim.Native.Nat.{ℕ}
use native.Mathlib.Omega.{arith}
use mathlib.Core.Path.{◌≡◌, refl, sym, ap, ◌∙◌}
use mathlib.Core.List.{List, [], ◌∷◌, ◌++◌}
use mathlib.Core.Logic.{⊎_elim}
use lib.ListN.{length, take}
use lib.Seq.{take_at}
use Rattle.book.specs.Book.{Book}
use Rattle.book.specs.declared.Node.{Node}
use Rattle.grammar.specs.Passing.{Passes}
use Rattle.running.specs.Running.{Plan, with_slots, unlimited, UNKNOWN, END, DEEP, Answer, stopped, reading}
use Rattle.running.specs.Stages.{Part, staged_reading, nodes_of, bare_answer}
use Rattle.running.specs.Cells.{Marks, Marked, plan_for}
use Rattle.running.proofs.Agrees.{Agree, reading_agrees}
use Rattle.running.proofs.Slots.{slots_answer}
use Rattle.running.proofs.Stages.{reading_bare}
use Rattle.meaning.proofs.Orderly.{Orderly, orderly_end, orderly_part, held_nothing}
use Rattle.meaning.proofs.Next.{Behind}
use Rattle.meaning.proofs.Run.{Run, run_accepted, run-refused, run_end, run_is}

-- a run that stops behind its beginning stops with the parts held behind it
stopped_behind : {node : ℕ → Node} {kinds : ℕ} {held xs parts : List ℕ} {a : Answer} (before behind : List ℕ) → Run node kinds held xs 0 a
    → a ≡ stopped UNKNOWN (length before) parts → xs ≡ before ++ behind → Behind node held before parts
stopped_behind before behind (run_accepted h) is cuts = let never : ◌≡◌ {A = ℕ} 0 1 = cc in absurd (omega arith)
stopped_behind before behind (run_end unended there place) is cuts = let same : END ≡ UNKNOWN = cc in absurd (omega (arith, same))
stopped_behind {parts = parts} before behind
    (run-refused {i = i} {k = k} {before = front} {behind = rest} {parts = those} parted there number_is place) is cuts =
    let stops : i ≡ length before = cc in
    let same : those ≡ parts = cc in
    let fronts : front ≡ before =
    sym (take_at front (k ∷ rest) i (omega arith)) ∙ ap (take i) (sym parted.run_is ∙ cuts)
    ∙ take_at before behind i (omega arith) in
    rw (← same, ← fronts) there

module _ {b : Book} (passes : Passes b) {marks : Marks} (marked : Marked b.node marks) {p : Plan}
    (agree : Agree (plan_for b marks) p) where
  start_orderly : Orderly b.node (b.start ∷ [])
  start_orderly = orderly_part passes.productive (record { none = λ k zs ps s. held_nothing }) orderly_end

  pub parts_behind : (slots k : ℕ) (run : List ℕ) {held : List Part}
      → staged_reading p (with_slots slots) (run ++ (k ∷ [])) ≡ stopped UNKNOWN (length run) held
      → Behind b.node (b.start ∷ []) run (nodes_of held)
  unfolding reading bare_answer
  parts_behind slots k run {held} stops =
      stopped_behind run (k ∷ []) (run_is passes marks marked (run ++ (k ∷ [])) 0 (b.start ∷ []) start_orderly) free refl
    where
      bare : reading p (with_slots slots) (run ++ (k ∷ [])) ≡ stopped UNKNOWN (length run) (nodes_of held)
      bare = sym (reading_bare p (with_slots slots) (run ++ (k ∷ []))) ∙ ap bare_answer stops

      free : reading (plan_for b marks) unlimited (run ++ (k ∷ [])) ≡ stopped UNKNOWN (length run) (nodes_of held)
      free =
          reading_agrees agree unlimited (run ++ (k ∷ []))
          ∙ ⊎_elim
          (λ deep.
          let is : ◌≡◌ {A = Answer} (stopped UNKNOWN (length run) (nodes_of held)) (stopped DEEP deep.0 deep.1) = sym bare ∙ deep.2 in
          let same : UNKNOWN ≡ DEEP = cc in
          absurd (omega (arith, same)))
          (λ same. sym same ∙ bare) (slots_answer p (run ++ (k ∷ [])) slots)
