-- How many records a reading writes, of any plan: at most (2N − 2) · events + 1.
use mathlib.Core.Path.{◌≡◌, subst}
use mathlib.Core.Bool.{Bool, true, false, cond}
use mathlib.Core.List.{List, [], ◌∷◌, ◌++◌}
use Prim.Native.Nat.{ℕ, zero, suc, ◌+◌, ◌*◌, ◌-◌, ◌≤◌, ◌<◌}
use native.Mathlib.Nat.{mul-suc, mul-zero, zero-add}
use native.Mathlib.Omega.{arith}
use lib.Dec.{ltb, eqb}
use lib.ListN.{length, length-append}
use Rattle.running.specs.Running.{Plan, Move, refuse, take_event, go_left, hold_right, skip_left, go_right, move_of, emptied, Step, taken, refused, noted, visit}
use Rattle.running.specs.Running.{take_off, walk, event, Answer, accepted, stopped, DEEP, UNKNOWN, UNEXPECTED, END, logged, onward, finish, reads, reading}

-- the records of an event and the parts then held are fewer than a number
pub data Within (b : ℕ) : Step → Type 0 where
  taken-within : (held records : List ℕ) → length records + length held < b → Within b (taken held records)
  refused-within : {number : ℕ} → Within b (refused number)

pub within_more : {b : ℕ} {step : Step} (more : ℕ) → b ≤ more → Within b step → Within more step
within_more more le (taken-within held records few) = taken-within held records (omega arith)
within_more more le refused-within = refused-within

within-noted : {b : ℕ} {step : Step} (r : ℕ) → Within b step → Within (suc b) (noted r step)
unfolding noted
within-noted r (taken-within held records few) = taken-within held (r ∷ records) (omega arith)
within-noted r refused-within = refused-within

-- a visit, by how the walk goes on with so many visits left
visit-within : (left : ℕ) (go : ℕ → List ℕ → Step) → ((n : ℕ) (held : List ℕ) → Within (length held + 2 * left) (go n held))
    → (m : Move) (free : ℕ → Bool) (l r : ℕ) (held : List ℕ) → Within (suc (length held + 2 * left)) (visit m go free l r held)
unfolding visit
visit-within left go goes refuse free l r held = refused-within
visit-within left go goes take_event free l r held = taken-within held [] (omega arith)
visit-within left go goes go_left free l r held = within_more _ (omega arith) (goes l held)
visit-within left go goes hold_right free l r held = by_slot (free (length held))
  where
    by_slot : (yes-free : Bool) → Within (suc (length held + 2 * left)) (cond yes-free (go l (r ∷ held)) (refused DEEP))
    by_slot true = within_more _ (omega arith) (goes l (r ∷ held))
    by_slot false = refused-within
visit-within left go goes skip_left free l r held = within-noted (emptied l) (goes r held)
visit-within left go goes go_right free l r held = within_more _ (omega arith) (goes r held)

-- an answer's records are no more than a number
pub data Few (b : ℕ) : Answer → Type 0 where
  accepted_few : (records : List ℕ) → length records ≤ b → Few b (accepted records)
  stopped_few : {number place : ℕ} {held : List ℕ} → Few b (stopped number place held)

few_logged : {b : ℕ} {answer : Answer} (more : ℕ) (records : List ℕ) → length records + b ≤ more → Few b answer → Few more (logged records answer)
unfolding logged
few_logged more records le (accepted_few rest few) = accepted_few (records ++ rest) (simp length-append (omega arith))
few_logged more records le stopped_few = stopped_few

-- a part taken off, by its walk and what comes of passing it
off_within : {b : ℕ} (cell : ℕ) (null : Bool) {walked passed : Step} → Within b walked → Within b passed → Within b (take_off cell null walked passed)
unfolding take_off
off_within {b} cell null {walked} {passed} walks passes = chosen (eqb cell 0) null
  where
    chosen : (none null : Bool) → Within b (cond none (cond null passed (refused UNEXPECTED)) walked)
    chosen true true = passes
    chosen true false = refused-within
    chosen false null = walks

module _ (p : Plan) (free : ℕ → Bool) where
  module _ (k : ℕ) where
    walk_within : (left n : ℕ) (held : List ℕ) → Within (length held + 2 * left) (walk p free k left n held)
    unfolding walk
    walk_within zero n held = refused-within
    walk_within (suc left) n held =
        within_more _ (omega arith)
        (within-noted n
        (visit-within left (λ m h. walk p free k left m h) (walk_within left) (move_of (p.cell n k)) free (p.left n) (p.right n) held))

    -- records and parts held grow by at most 2N − 2 at an event
    pub event_within : (n : ℕ) (held : List ℕ) → Within (length held + 2 * p.count) (event p free k (n ∷ held))
    unfolding event noted
    event_within n [] = off_within (p.cell n k) (p.null n) (walk_within p.count n []) refused-within
    event_within n (m ∷ held) =
        off_within (p.cell n k) (p.null n) (walk_within p.count n (m ∷ held))
        (within_more _ (omega arith) (within-noted (emptied n) (event_within m held)))

  finish_few : (at : ℕ) (before held : List ℕ) → Few (length held) (finish p at before held)
  unfolding finish
  finish_few at before [] = accepted_few [] (omega arith)
  finish_few at before (n ∷ held) = by_null (p.null n) (finish_few at before held)
    where
      by_null : (null : Bool) → Few (length held) (finish p at before held)
          → Few (suc (length held)) (cond null (logged (emptied n ∷ []) (finish p at before held)) (stopped END at before))
      by_null true rest = few_logged _ (emptied n ∷ []) (omega arith) rest
      by_null false rest = stopped_few

  -- records to come and parts held grow by at most 2N − 2 for each event
  abbrev most : ℕ → List ℕ → ℕ
  most parts run = (2 * p.count - 2) * length run + parts

  pub reads_few : (at : ℕ) (held run : List ℕ) → Few (most (length held) run) (reads p free at held run)
  unfolding reads event onward
  reads_few at held [] = few_more (finish_few at held held)
    where
      few_more : Few (length held) (finish p at held held) → Few (most (length held) []) (finish p at held held)
      few_more few = rw (mul-zero (2 * p.count - 2), zero-add (length held)) few
  reads_few at held (k ∷ run) = by_kind (ltb k p.kinds) held (λ h. reads_few (suc at) h run)
    where
      by_step : {b : ℕ} {step : Step} (before : List ℕ) → b ≤ length before + (2 * p.count - 2) + 1 → Within b step
          → ((h : List ℕ) → Few (most (length h) run) (reads p free (suc at) h run))
          → Few (most (length before) (k ∷ run)) (onward step (λ h. reads p free (suc at) h run) at before)
      by_step before le (taken-within h records few) rest =
          few_logged _ records (omega (arith, mul-suc (2 * p.count - 2) (length run))) (rest h)
      by_step before le refused-within rest = stopped_few

      by_kind : (known : Bool) (parts : List ℕ) → ((h : List ℕ) → Few (most (length h) run) (reads p free (suc at) h run))
          → Few (most (length parts) (k ∷ run)) (cond known (onward (event p free k parts) (λ h. reads p free (suc at) h run) at parts)
          (stopped UNKNOWN at parts))
      by_kind true [] rest = stopped_few
      by_kind true (n ∷ parts) rest = by_step (n ∷ parts) (omega arith) (event_within k n parts) rest
      by_kind false parts rest = stopped_few

  -- the records of an accepted run
  pub records_few : (run : List ℕ) {records : List ℕ} → reading p free run ≡ accepted records → length records ≤ (2 * p.count - 2) * length run + 1
  unfolding reading
  records_few run e = counted (subst (λ (answer : Answer). Few (most 1 run) answer) e (reads_few 0 (p.start ∷ []) run))
    where
      counted : {b : ℕ} {records : List ℕ} → Few b (accepted records) → length records ≤ b
      counted (accepted_few records few) = few

  -- so at most twice the node count less one, times the events, where there are some
  pub records_events : (run : List ℕ) {records : List ℕ} → 0 < p.count → 0 < length run → reading p free run ≡ accepted records
      → length records ≤ (2 * p.count - 1) * length run
  records_events run some_node some-event e =
      let few = records_few run e in
      let one_more : 2 * p.count - 1 ≡ suc (2 * p.count - 2) = omega arith in
      rw one_more (omega arith)

  -- and one for the empty run
  pub records_empty : {records : List ℕ} → reading p free [] ≡ accepted records → records ≡ emptied p.start ∷ []
  unfolding reading reads finish logged
  records_empty {records} e = go (p.null p.start) e
    where
      go : (null : Bool) → cond null (accepted (emptied p.start ∷ [])) (stopped END 0 (p.start ∷ [])) ≡ accepted records
          → records ≡ emptied p.start ∷ []
      go true is = cc
      go false is = cc
