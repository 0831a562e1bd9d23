-- What a run comes to on the free machine, seen by its answer: one induction on the events.
use Prim.Native.Nat.{ℕ, suc, ◌+◌, ◌<◌}
use native.Mathlib.Omega.{arith}
use mathlib.Core.Path.{◌≡◌, refl, sym, ap, ◌∙◌}
use mathlib.Core.Bool.{Bool, true, false, false≢true}
use mathlib.Core.List.{List, [], ◌∷◌, ◌++◌}
use lib.ListN.{length}
use lib.Dec.{ltb}
use borrow.Author.Tests.{lt-ltb, le-ltb, ltb-true, ltb-false}
use Rattle.book.specs.Book.{Book}
use Rattle.book.specs.declared.Node.{Node}
use Rattle.grammar.specs.Rules.{Nullable}
use Rattle.grammar.specs.Passing.{Passes}
use Rattle.running.specs.Cells.{Marks, Marked, plan_for}
use Rattle.running.specs.Running.{unlimited, UNEXPECTED, UNKNOWN, END, Step, Answer, accepted, stopped, emptied, logged, onward, finish, reads}
use Rattle.meaning.specs.Meaning.{refusal_of}
use Rattle.meaning.proofs.Parts.{Held, held_end, held_none, held_some}
use Rattle.meaning.proofs.Walk.{part_first}
use Rattle.meaning.proofs.Size.{first_kind}
use Rattle.meaning.proofs.Orderly.{Orderly, orderly_run}
use Rattle.meaning.proofs.Event.{Took, Event, event_taken, event_refused, event_is}
use Rattle.meaning.proofs.Next.{Behind, behind_none, behind-taken}

-- the run parts at a kind from all that the parts held derive
pub record Parted (node : ℕ → Node) (held xs before : List ℕ) (k : ℕ) (behind : List ℕ) : Type 0 where
  pub run_is : xs ≡ before ++ k ∷ behind
  pub agrees : (zs ps : List ℕ) × Held node held (before ++ zs) ps
  pub differs : (zs ps : List ℕ) → Held node held (before ++ k ∷ zs) ps → ⊥

-- the run is begun by what the parts held derive, and is none of it
pub record Unended (node : ℕ → Node) (held xs : List ℕ) : Type 0 where
  pub agrees : (zs ps : List ℕ) × Held node held (xs ++ zs) ps
  pub differs : (ps : List ℕ) → Held node held xs ps → ⊥

-- a run from a place on, with these parts held, by its answer
pub data Run (node : ℕ → Node) (kinds : ℕ) (held xs : List ℕ) (at : ℕ) : Answer → Type 0 where
  run_accepted : {rs : List ℕ} → Held node held xs rs → Run node kinds held xs at (accepted rs)
  run-refused : {number i k : ℕ} {before behind parts : List ℕ} → Parted node held xs before k behind → Behind node held before parts
      → number ≡ refusal_of kinds k → i ≡ at + length before → Run node kinds held xs at (stopped number i parts)
  run_end : {i : ℕ} {parts : List ℕ} → Unended node held xs → Behind node held xs parts → i ≡ at + length xs
      → Run node kinds held xs at (stopped END i parts)

-- the end, by its answer
data Finish (node : ℕ → Node) (at : ℕ) (before held : List ℕ) : Answer → Type 0 where
  finish_accepted : {rs : List ℕ} → Held node held [] rs → Finish node at before held (accepted rs)
  finish_end : ((ps : List ℕ) → Held node held [] ps → ⊥) → Finish node at before held (stopped END at before)

module _ {node : ℕ → Node} where
  -- with one nullable part more
  finish_passed : {at n : ℕ} {before held : List ℕ} {a : Answer} → Nullable node (node n) → Finish node at before held a
      → Finish node at before (n ∷ held) (logged (emptied n ∷ []) a)
  unfolding logged
  finish_passed c (finish_accepted h) = finish_accepted (held_none c h)
  finish_passed {n = n} {held = held} c (finish_end f) = finish_end go
    where
      go : (ps : List ℕ) → Held node (n ∷ held) [] ps → ⊥
      go ps (held_none d h) = f _ h

  -- a part not nullable
  finish_barred : {at n : ℕ} {before held : List ℕ} → (Nullable node (node n) → ⊥) → Finish node at before (n ∷ held) (stopped END at before)
  finish_barred {n = n} {held = held} f = finish_end go
    where
      go : (ps : List ℕ) → Held node (n ∷ held) [] ps → ⊥
      go ps (held_none d h) = f d

  -- nothing held takes no event
  run_finish : {at : ℕ} {held : List ℕ} {a : Answer} (kinds : ℕ) → Orderly node held → Finish node at held held a → Run node kinds held [] at a
  run_finish kinds o (finish_accepted h) = run_accepted h
  run_finish {at} kinds o (finish_end f) = run_end {i = at} (record { agrees = orderly_run o; differs = f }) (behind_none o) (omega arith)

  -- one event taken before
  parted_taken : {k j : ℕ} {held then xs before behind rs : List ℕ} → Took node k held then rs → Parted node then xs before j behind
      → Parted node held (k ∷ xs) (k ∷ before) j behind
  parted_taken {k} {j} {before = before} took p = record {
    run_is = ap (λ (x : List ℕ). k ∷ x) p.run_is;
    agrees = let t = p.agrees in (t.0, _, took.sound _ _ t.2);
    differs = λ zs ps h. let t = took.complete (before ++ j ∷ zs) ps h in p.differs zs t.0 t.1;
  }

  run-taken : {kinds k at : ℕ} {held then xs rs : List ℕ} {a : Answer} → Took node k held then rs → Run node kinds then xs (suc at) a
      → Run node kinds held (k ∷ xs) at (logged rs a)
  unfolding logged
  run-taken took (run_accepted h) = run_accepted (took.sound _ _ h)
  run-taken took (run-refused {i = i} p q number_is e) =
      run-refused {i = i} (parted_taken took p) (behind-taken took q) number_is (omega arith)
  run-taken {xs = xs} took (run_end {i} p q e) =
      run_end {i = i}
      (record {
        agrees = let t = p.agrees in (t.0, _, took.sound _ _ t.2);
        differs = λ ps h. let t = took.complete xs ps h in p.differs t.0 t.1;
      })
      (behind-taken took q) (omega arith)

  -- refused at once
  parted_here : {k : ℕ} {held xs : List ℕ} → Orderly node held → ((zs ps : List ℕ) → Held node held (k ∷ zs) ps → ⊥)
      → Parted node held (k ∷ xs) [] k xs
  parted_here o f = record { run_is = refl; agrees = orderly_run o; differs = f }

  run-onward : {kinds k at : ℕ} {held xs : List ℕ} {s : Step} (rest : List ℕ → Answer) → k < kinds → Orderly node held → Event node k held s
      → ((then : List ℕ) → Orderly node then → Run node kinds then xs (suc at) (rest then)) → Run node kinds held (k ∷ xs) at (onward s rest at held)
  unfolding onward
  run-onward rest h o (event_taken t) f = run-taken t (f _ t.orderly)
  run-onward {kinds} {k} {at} rest h o (event_refused g) f =
      run-refused {number = UNEXPECTED} {i = at} (parted_here o g) (behind_none o) (rw (lt-ltb k kinds h)) (omega arith)

module _ {b : Book} (passes : Passes b) (marks : Marks) (marked : Marked b.node marks) where
  -- a kind that begins what parts held derive is one of the book's
  held_kind : {k : ℕ} {held zs ps : List ℕ} → Held b.node held (k ∷ zs) ps → k < b.kinds
  held_kind (held_none c h) = held_kind h
  held_kind (held_some p h) = first_kind b passes.well_formed (part_first p) refl

  finish_is : (at : ℕ) (before held : List ℕ) → Finish b.node at before held (finish (plan_for b marks) at before held)
  unfolding finish
  finish_is at before [] = finish_accepted held_end
  finish_is at before (n ∷ held) = go (marks.null n) refl (finish_is at before held)
    where
      go : (t : Bool) → marks.null n ≡ t → Finish b.node at before held (finish (plan_for b marks) at before held)
          → Finish b.node at before (n ∷ held) (finish (plan_for b marks) at before (n ∷ held))
      go true e f = rw e (finish_passed ((marked.null_is n).0 e) f)
      go false e f = rw e (finish_barred (λ c. false≢true (sym e ∙ (marked.null_is n).1 c)))

  pub run_is : (xs : List ℕ) (at : ℕ) (held : List ℕ) → Orderly b.node held
      → Run b.node b.kinds held xs at (reads (plan_for b marks) unlimited at held xs)
  unfolding reads
  run_is [] at held o = run_finish b.kinds o (finish_is at held held)
  run_is (k ∷ xs) at held o = go (ltb k b.kinds) refl (λ then p. run_is xs (suc at) then p)
    where
      go : (t : Bool) → ltb k b.kinds ≡ t
          → ((then : List ℕ) → Orderly b.node then → Run b.node b.kinds then xs (suc at) (reads (plan_for b marks) unlimited (suc at) then xs))
          → Run b.node b.kinds held (k ∷ xs) at (reads (plan_for b marks) unlimited at held (k ∷ xs))
      go true e f =
          rw e
          (run-onward (λ then. reads (plan_for b marks) unlimited (suc at) then xs) (ltb-true k b.kinds e) o (event_is passes marks marked k held o) f)
      go false e f =
          let h = ltb-false k b.kinds e in
          rw e
          (run-refused {number = UNKNOWN} {i = at} (parted_here o (λ zs ps g. let c = held_kind g in omega arith)) (behind_none o)
          (rw (le-ltb k b.kinds h)) (omega arith))
