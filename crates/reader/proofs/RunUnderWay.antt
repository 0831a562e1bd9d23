-- A run under way: what is left of its events comes to where all of them stop, and how an event goes on or stops them.
use mathlib.Core.Path.{◌≡◌, refl, sym, ◌∙◌}
use mathlib.Core.Bool.{true}
use mathlib.Core.List.{List}
use Prim.Native.Nat.{ℕ, suc, ◌+◌, ◌*◌, ◌-◌, ◌≤◌, ◌<◌}
use native.Mathlib.Numerals.{add-one}
use native.Mathlib.Omega.{arith}
use borrow.Author.Tests.{ne_eqb}
use lib.ListN.{length, get_or, drop, drop_of_length-le}
use lib.Seq.{drop-cons}
use Rattle.book.specs.Form.{DONE}
use Rattle.running.specs.Running.{Plan, expected}
use Rattle.running.specs.Stages.{stage_of, nodes_of}
use Rattle.reader.specs.Machine.{After, Passed, SlotsHold, stops_at, stack, event_of, on_of, finish_of, close_of, pass_of}
use Rattle.reader.specs.declared.Reading.{Reading}
use Rattle.reader.specs.Numbers.{answered, told}
use Rattle.reader.specs.Reads.{outcome}
use Rattle.reader.proofs.Simulation.{Bounded, event_intact}
use Rattle.reader.proofs.Bounds.{Safe, event_safe}

-- where an event was taken it goes on, else it stops there
module _ (s : After) (at count written : ℕ) (rest : ℕ → ℕ → List ℕ → List ℕ → Passed) where
  on_done : s.spot.number ≡ DONE → on_of s at count written rest ≡ rest s.spot.count s.spot.written s.held s.tree
  unfolding on_of
  on_done is = rw is

  on_refused : (s.spot.number ≡ DONE → ⊥)
      → on_of s at count written rest ≡ stops_at s.spot.number s.spot.intact at count written s.held s.tree
  unfolding on_of
  on_refused not = rw (ne_eqb s.spot.number DONE not)

-- the end of a run, by how the machine stands after it
module _ (p : Plan) (at count written : ℕ) (held tree : List ℕ) (s : After) (steps : s ≡ finish_of p count written held tree) where
  pub close_refused : (s.spot.number ≡ DONE → ⊥) → {r : Reading}
      → r ≡ told s.spot.number at (stage_of (stack held count)) (expected p (nodes_of (stack held count)))
      → outcome r s.tree ≡ close_of p at count written held tree
  unfolding close_of
  close_refused not answers = rw (answers, ← steps, ne_eqb s.spot.number DONE not) refl

  pub close_done : s.spot.number ≡ DONE → outcome (answered DONE at s.spot.written 0) s.tree ≡ close_of p at count written held tree
  unfolding close_of
  close_done is = rw (← steps, is) refl

module _ (p : Plan) (run : List ℕ) (goal : Passed) (slots room : ℕ) where
  -- a run at a place: what is left comes to the goal, and the state is sound
  pub record Going (at count written : ℕ) (held tree : List ℕ) : Type 0 where
    pub within : at ≤ length run
    pub rest : pass_of p at (drop at run) count written held tree ≡ goal
    pub safe : SlotsHold p.count slots held count
    pub tree_long : length tree ≡ room
    pub small : written + count ≤ 1022 * at + 1

  module _ {at count written : ℕ} {held tree : List ℕ} (w : Going at count written held tree) where
    -- the run is at its end
    pub run_ends : length run ≤ at → stops_at DONE true at count written held tree ≡ goal
    unfolding pass_of
    run_ends past = rw (drop_of_length-le run past) at w.rest

    module _ (more : at < length run) (s : After) (steps : s ≡ event_of p (get_or run at 0) count written held tree) where
      stepped : on_of s at count written (λ c n h t. pass_of p (suc at) (drop (suc at) run) c n h t) ≡ goal
      unfolding pass_of
      stepped = rw steps (rw (drop-cons run at 0 more) at w.rest)

      -- the event is refused
      pub run-refused : (s.spot.number ≡ DONE → ⊥)
          → stops_at s.spot.number s.spot.intact at count written s.held s.tree ≡ goal
      run-refused not = sym (on_refused s at count written _ not) ∙ stepped

      -- where the slots are intact they hold what they held
      pub run_intact : s.spot.intact ≡ true → SlotsHold p.count slots s.held count
      run_intact whole = let same = event_intact p (get_or run at 0) count written held tree (rw steps at whole) in rw (steps, same) w.safe

      -- the event is taken
      pub run_goes : Bounded p → p.count ≤ 512 → s.spot.number ≡ DONE → length s.tree ≡ length tree
          → Going (at + 1) s.spot.count s.spot.written s.held s.tree
      run_goes b few is kept =
          record {
            within = omega arith;
            rest = rw (add-one at) (sym (on_done s at count written _ is) ∙ stepped);
            safe = rw steps after_it.parts;
            tree_long = kept ∙ w.tree_long;
            small = rw steps (omega (arith, after_it.records, w.small));
          }
        where
          after_it : Safe p.count slots (written + (count + 2 * p.count - 1)) (event_of p (get_or run at 0) count written held tree)
          after_it = event_safe p slots b (get_or run at 0) count written held tree w.safe (rw steps at is)
