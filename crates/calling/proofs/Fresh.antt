-- From a zero board with one plan STALE never comes, whatever plan and calls.
use mathlib.Core.Path.{◌≡◌, refl, sym, subst}
use mathlib.Core.Logic.{◌≢◌, ◌⊎◌, inl, inr}
use mathlib.Core.List.{List, [], ◌∷◌}
use Prim.Native.Nat.{ℕ, zero, suc}
use native.Mathlib.Decide.{ℕ_discrete}
use native.Mathlib.Omega.{arith}
use lib.ListN.{get_or}
use Rattle.plan.specs.Form.{plan_of}
use Rattle.drums.specs.declared.Drum.{Drum}
use Rattle.drums.specs.Drums.{STALE, idle_drum, call_judged, opened, open_of}
use Rattle.drums.proofs.Calls.{past_on}
use Rattle.drumming.specs.Drumming.{Usable, Lives, lives_idle}
use Rattle.drumming.proofs.Under.{called}
use Rattle.drumming.proofs.Drumming.{never_stale}
use Rattle.board.specs.Board.{Called}
use Rattle.board.specs.Sequences.{Asked, opening, event, close, asked_of, Call, call_on, drums_after}
use Rattle.calling.specs.Calling.{zero_board, Unasked}
use Rattle.calling.proofs.Drum.{unasked_fresh, absent_unasked, usable, unasked_answers}
use Rattle.calling.proofs.Board.{Found, found, missing, find, touching, stands-step}

module _ (plan : List ℕ) where
  -- each drum that can be called is idle, or stands as after an opening and events
  abbrev Alive : List Drum → Type 0
  Alive drums = (i : ℕ) → Usable plan i → Lives plan i (get_or drums i idle_drum)

  module _ {number : ℕ} (u : Usable plan number) {d : Drum} (lives : Lives plan number d) (k : ℕ) where
    step_lives : (a : Asked) → Lives plan number (asked_of a plan d number k).drum
    unfolding asked_of
    step_lives opening = (never_stale u lives).open_lives k
    step_lives event = (never_stale u lives).event_lives k
    step_lives close = (never_stale u lives).close_lives k

    step_fresh : (a : Asked) → (asked_of a plan d number k).reading.number ≢ STALE
    unfolding asked_of open_of opened
    step_fresh opening =
        rw (← past_on {test = call_judged plan number} refl d (opened (plan_of plan)) (called plan u)) (λ e. omega (arith, e))
    step_fresh event = (never_stale u lives).event_answers k
    step_fresh close = (never_stale u lives).close_answers k

  module _ (drums : List Drum) (alive : Alive drums) (c : Call) where
    fresh : (call_on plan drums c).reading.number ≢ STALE
    fresh = by_list (find plan drums c) (usable plan c.number)
      where
        by_list : Found plan drums c → Usable plan c.number ⊎ Unasked (call_judged plan c.number).number
            → (call_on plan drums c).reading.number ≢ STALE
        by_list (found on is) (inl u) = rw is (step_fresh u (alive c.number u) c.kind c.asked)
        by_list (found on is) (inr un) =
            rw is (unasked_fresh (unasked_answers plan (get_or drums c.number idle_drum) c.number c.kind un c.asked))
        by_list (missing is) use-it = rw is (unasked_fresh (absent_unasked plan))

    alive_after : Alive (call_on plan drums c).drums
    alive_after i u = by_drum (ℕ_discrete i c.number) (find plan drums c)
      where
        by_drum : Dec (i ≡ c.number) → Found plan drums c → Lives plan i (get_or (call_on plan drums c).drums i idle_drum)
        by_drum (no other) found-or-not = subst (Lives plan i) (sym ((touching plan drums c).others i other)) (alive i u)
        by_drum (yes same) (missing is) =
            subst (λ (a : Called). Lives plan i (get_or a.drums i idle_drum)) (sym is) (alive i u)
        by_drum (yes same) (found on is) =
            let its : Usable plan c.number = subst (Usable plan) same u in
            subst (λ (n : ℕ). Lives plan n (get_or (call_on plan drums c).drums n idle_drum)) (sym same)
            (subst (Lives plan c.number) (sym (stands-step plan drums c on))
            (step_lives its (alive c.number its) c.kind c.asked))

  alive_all : (cs : List Call) (drums : List Drum) → Alive drums → Alive (drums_after plan drums cs)
  unfolding drums_after
  alive_all [] drums alive = alive
  alive_all (c ∷ cs) drums alive = alive_all cs (call_on plan drums c).drums (alive_after drums alive c)

  zero_drum : (drums i : ℕ) → get_or (zero_board drums) i idle_drum ≡ idle_drum
  zero_drum zero zero = refl
  zero_drum zero (suc i) = refl
  zero_drum (suc drums) zero = refl
  zero_drum (suc drums) (suc i) = zero_drum drums i

  pub never_comes : (drums : ℕ) (cs : List Call) (c : Call)
      → (call_on plan (drums_after plan (zero_board drums) cs) c).reading.number ≢ STALE
  never_comes drums cs c =
      fresh (drums_after plan (zero_board drums) cs)
      (alive_all cs (zero_board drums) (λ i u. subst (Lives plan i) (sym (zero_drum drums i)) lives_idle)) c
