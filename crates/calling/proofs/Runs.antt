-- A drum on a list, opened and given events: its calls answer as a reading of its events does.
use mathlib.Core.Path.{◌≡◌, sym, ap, subst, ◌∙◌}
use mathlib.Core.List.{List, [], ◌∷◌, ◌++◌}
use Prim.Native.Nat.{ℕ, ◌<◌}
use lib.ListN.{length, get_or}
use Rattle.reader.specs.declared.Reading.{Reading}
use Rattle.drums.specs.declared.Drum.{Drum}
use Rattle.drums.specs.Drums.{idle_drum}
use Rattle.drumming.specs.Drumming.{Usable, Stands, after-opening as opened-stands, after_event as event-stands}
use Rattle.drumming.proofs.Drumming.{as_reading}
use Rattle.board.specs.Sequences.{opening, event, close, asked_of, call_on}
use Rattle.calling.specs.Calling.{ask, Plays, after-opening, after_event, after_other, PlaysAsRead}
use Rattle.calling.proofs.Board.{touching, answers_step, stands-step}

module _ {plan : List ℕ} {number : ℕ} where
  -- it is on the list, and stands as after its own calls
  plays_stands : {run : List ℕ} {drums : List Drum} → Plays plan number run drums
      → (number < length drums) × Stands plan number run (get_or drums number idle_drum)
  unfolding asked_of
  plays_stands (after-opening drums k on) =
      let c = ask opening number k in (
        subst (λ (n : ℕ). number < n) (sym (touching plan drums c).as_many) on,
        subst (Stands plan number []) (sym (stands-step plan drums c on)) (opened-stands (get_or drums number idle_drum) k),
      )
  plays_stands (after_event {run} {drums} k plays done) =
      let c = ask event number k in
      let (on, stands) = plays_stands plays in (
        subst (λ (n : ℕ). number < n) (sym (touching plan drums c).as_many) on,
        subst (Stands plan number (run ++ (k ∷ []))) (sym (stands-step plan drums c on))
            (event-stands k stands (sym (ap (λ (r : Reading). r.number) (answers_step plan drums c on)) ∙ done)),
      )
  plays_stands (after_other {run} {drums} c other plays) =
      let (on, stands) = plays_stands plays in (
        subst (λ (n : ℕ). number < n) (sym (touching plan drums c).as_many) on,
        subst (Stands plan number run) (sym ((touching plan drums c).others number other)) stands,
      )

  -- with a good plan and a number below 32
  pub plays_as_read : Usable plan number → {run : List ℕ} {drums : List Drum} → Plays plan number run drums
      → PlaysAsRead plan number run drums
  unfolding asked_of
  plays_as_read u {run} {drums} plays =
      let (on, stands) = plays_stands plays in
      let reads = as_reading u stands in
      record {
        close_reads = λ k room enough. answers_step plan drums (ask close number k) on ∙ reads.close_reads k room enough;
        refused_reads =
            λ k room not.
            let is : (call_on plan drums (ask event number k)).reading ≡ _ = answers_step plan drums (ask event number k) on in
            is ∙ reads.refused_reads k room (λ done. not (ap (λ (r : Reading). r.number) is ∙ done));
        counted = reads.events_counted;
      }
