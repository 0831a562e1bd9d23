-- A drum by a compiled plan: what is still due, and that with slots enough no event is DEEP.
use Prim.Native.Nat.{ℕ, ◌≤◌, ◌<◌}
use native.Mathlib.Omega.{arith}
use mathlib.Core.Path.{◌≡◌, sym, ap, subst, ◌∙◌}
use mathlib.Core.Logic.{◌≢◌}
use mathlib.Core.List.{List, [], ◌∷◌, ◌++◌}
use lib.ListN.{take}
use Rattle.book.specs.Book.{Book}
use Rattle.book.specs.Form.{DONE, book_of}
use Rattle.book.specs.declared.Judged.{Judged}
use Rattle.grammar.specs.Passing.{Passes}
use Rattle.lengths.proofs.Cutting.{cut-within}
use Rattle.running.specs.Running.{DEEP}
use Rattle.running.specs.Cells.{Marks, Marked}
use Rattle.plan.specs.Form.{plan_from, plan_of}
use Rattle.writer.specs.Bytes.{plan_bytes}
use Rattle.writer.proofs.PlanBytes.{count_is, kinds_is, due_is}
use Rattle.writer.proofs.PlanDone.{plan_done, plan_agrees}
use Rattle.compiler.specs.declared.Compiled.{Compiled}
use Rattle.compiler.specs.Compiles.{Compiles}
use Rattle.compiler.proofs.Promise.{passed_passes}
use Rattle.reader.specs.declared.Reading.{Reading}
use Rattle.profile.specs.declared.Depth.{Depth}
use Rattle.profile.specs.Profiles.{Measures}
use Rattle.drums.specs.declared.Drum.{Drum}
use Rattle.drums.specs.Drums.{board_drums, drum_slots, event_of}
use Rattle.drumming.specs.Drumming.{Usable, Stands}
use Rattle.drumming.proofs.Drumming.{as_reading}
use Rattle.finishing.specs.Finishing.{StillDue}
use Rattle.finishing.proofs.Finishing.{still_due}
use Rattle.promises.proofs.Meant.{known, given-plan}
use Rattle.promises.proofs.Profiled.{measured_shallow}

-- by the bytes that the compiler writes
module _ {b : Book} (passes : Passes b) {marks : Marks} (marked : Marked b.node marks) {number : ℕ} (low : number < board_drums) where
  written_usable : Usable (plan_bytes b marks) number
  written_usable = record { good = ap (λ (j : Judged). j.number) (plan_done b marks passes.well_formed); known = low }

  dues_written : (n : ℕ) → n < (plan_of (plan_bytes b marks)).count → (plan_of (plan_bytes b marks)).due n ≡ marks.due n
  unfolding plan_from
  dues_written n below =
      let counted = count_is b marks passes.well_formed in
      rw (counted, kinds_is b marks passes.well_formed)
      (due_is b marks n (rw counted at below) (omega (arith, cut-within (marked.due_is n))))

  written_due : {run : List ℕ} {d : Drum} → Stands (plan_bytes b marks) number run d → StillDue b run d.due
  written_due stands = still_due passes marked written_usable (plan_agrees b marks passes.well_formed) dues_written stands

module _ {bytes : List ℕ} {room : ℕ} {a : Compiled} {plan : List ℕ} (compiled : Compiles bytes room a plan) (is : a.number ≡ DONE)
    {number : ℕ} (low : number < board_drums) {run : List ℕ} {d : Drum} (stands : Stands (take a.size plan) number run d) where
  pub drum_due : StillDue (book_of bytes) run d.due
  drum_due =
      written_due (passed_passes compiled is) (known compiled is).marked low
      (subst (λ (given : List ℕ). Stands given number run d) (given-plan compiled is) stands)

  pub drum_shallow : {depth : Depth} → Measures bytes depth → depth.number ≡ DONE → depth.held ≤ drum_slots → (k : ℕ)
      → (event_of (take a.size plan) d number k).reading.number ≢ DEEP
  drum_shallow measures done enough k deep =
      let reads = (as_reading usable stands).refused_reads k 0 (λ good. omega (arith, deep, good)) in
      measured_shallow measures done compiled is (run ++ (k ∷ [])) drum_slots 0 enough (sym (ap (λ (r : Reading). r.number) reads) ∙ deep)
    where
      usable : Usable (take a.size plan) number
      usable =
          rw (given-plan compiled is) (written_usable (passed_passes compiled is) (known compiled is).marked low)
