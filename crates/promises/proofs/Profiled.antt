-- What measuring and profiles answer, and that slots as many as the greatest number of parts held are enough for every reading.
use Prim.Native.Nat.{ℕ, ◌≤◌}
use native.Mathlib.Omega.{arith}
use mathlib.Core.Path.{◌≡◌}
use mathlib.Core.List.{List, [], ◌∷◌}
use mathlib.Core.Logic.{◌≢◌}
use lib.ListN.{take}
use Rattle.book.specs.Form.{DONE, book_of}
use Rattle.running.specs.Running.{DEEP, refused as refusedStep, with_slots, unlimited, event}
use Rattle.running.specs.Cells.{Marks, Marked, plan_for}
use Rattle.compiler.specs.declared.Compiled.{Compiled}
use Rattle.compiler.specs.Compiles.{Compiles}
use Rattle.reader.specs.Reads.{read_of}
use Rattle.depths.specs.Depths.{After}
use Rattle.depths.proofs.Numbers.{event_enough, event_not_deep, greatest_positive}
use Rattle.running.proofs.Found.{marks, marks_are}
use Rattle.profile.specs.declared.Depth.{Depth}
use Rattle.profile.specs.Profiles.{Measures, refused, unbounded, measured, Profiles, no_profile, refused_anyhow, deeper, fits}
use Rattle.profile.proofs.Promise.{measured_greatest, measures_refused, measures_number, measures_none, takes_exactly}
use Rattle.profile.proofs.Unique.{profiles_unique}
use Rattle.promises.specs.Promises.{PartsMeasured, ProfileSays}
use Rattle.promises.proofs.Meant.{passed_shallow}

module _ {bytes : List ℕ} where
  pub parts_measured : {d : Depth} → Measures bytes d → PartsMeasured bytes d
  parts_measured measures = record {
    own = λ v judges bad. measures_refused measures judges bad;
    number = λ judges m. measures_number measures judges m;
    unbounded = λ judges. measures_none measures judges;
  }

  pub profile_says : {slots : ℕ} {d : Depth} → Profiles bytes slots d → ProfileSays bytes slots d
  profile_says profiles = record {
    outside = λ out. profiles_unique profiles (no_profile out);
    own = λ some few v judges bad. profiles_unique profiles (refused_anyhow some few (refused judges bad) bad);
    unbounded = λ some few judges none.
        profiles_unique profiles (refused_anyhow some few (unbounded judges none) (λ is. omega (arith, is)));
    deeper = λ some few judges m one more. profiles_unique profiles (deeper some few (measured judges one) more);
    takes = λ some few judges. takes_exactly profiles some few judges;
  }

  -- behind a beginning every event with as many slots comes to what it comes to without a limit
  pub measured_event : {d : Depth} {slots : ℕ} → Measures bytes d → d.number ≡ DONE → d.held ≤ slots
      → (marks : Marks) → Marked (book_of bytes).node marks → {run parts : List ℕ}
      → After (plan_for (book_of bytes) marks) ((book_of bytes).start ∷ []) run parts → (k : ℕ)
      → event (plan_for (book_of bytes) marks) (with_slots slots) k parts ≡ event (plan_for (book_of bytes) marks) unlimited k parts
  measured_event measures is enough marks marked behind k =
      let (passes, one) = measured_greatest measures is in
      event_enough passes marks marked one enough behind k

  pub measured_event_shallow : {d : Depth} {slots : ℕ} → Measures bytes d → d.number ≡ DONE → d.held ≤ slots
      → (marks : Marks) → Marked (book_of bytes).node marks → {run parts : List ℕ}
      → After (plan_for (book_of bytes) marks) ((book_of bytes).start ∷ []) run parts → (k : ℕ)
      → event (plan_for (book_of bytes) marks) (with_slots slots) k parts ≡ refusedStep DEEP → ⊥
  measured_event_shallow measures is enough marks marked behind k =
      let (passes, one) = measured_greatest measures is in
      event_not_deep passes marks marked one enough behind k

  -- no reading with as many slots is DEEP
  pub measured_shallow : {d : Depth} {room : ℕ} {a : Compiled} {plan : List ℕ} → Measures bytes d → d.number ≡ DONE
      → Compiles bytes room a plan → a.number ≡ DONE → (run : List ℕ) (slots tree-room : ℕ) → d.held ≤ slots
      → (read_of (take a.size plan) run slots tree-room).reading.number ≢ DEEP
  measured_shallow measures is compiled done run slots tree-room enough =
      let (passes, one) = measured_greatest measures is in
      let wf = passes.well_formed in
      let some = greatest_positive passes (marks (book_of bytes) wf) (marks_are (book_of bytes) wf) one in
      passed_shallow compiled done one run slots tree-room (omega (arith, some, enough)) enough

  -- a profile that takes a book has measured it
  pub taken_measured : {slots : ℕ} {d : Depth} → Profiles bytes slots d → d.number ≡ DONE → Measures bytes d × (d.held ≤ slots)
  taken_measured (no_profile out) is = absurd (omega (arith, is))
  taken_measured (refused_anyhow some few measures bad) is = absurd (bad is)
  taken_measured (deeper some few measures more) is = absurd (omega (arith, is))
  taken_measured (fits some few measures most) is = (measures, most)
