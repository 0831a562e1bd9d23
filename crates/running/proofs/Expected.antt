-- What was expected, kind by kind; and plans that agree answer the same expected kinds: the parts that a refusal carries are below the
-- count.
use mathlib.Core.Path.{◌≡◌, refl, ap₂}
use mathlib.Core.Bool.{Bool, true, false, cond}
use mathlib.Core.Logic.{◌↔◌, ◌≢◌, ◌⊎◌, inl, inr, ⊎_elim}
use mathlib.Core.List.{List, [], ◌∷◌}
use Prim.Native.Nat.{ℕ, zero, suc, ◌≤◌, ◌<◌}
use native.Mathlib.Decide.{ℕ_discrete}
use native.Mathlib.Omega.{arith}
use borrow.Author.Tests.{ltb-true, eqb-false, ne_eqb}
use lib.Dec.{ltb, eqb}
use Rattle.kinds.specs.Kinds.{Has, only_kind, joined}
use Rattle.kinds.proofs.Laws.{none, has_single, has_join}
use Rattle.running.specs.Running.{Plan, Step, event, Answer, accepted, stopped, UNKNOWN}
use Rattle.running.specs.Running.{logged, onward, finish, reads, reading, row_first, expected, Next, next_here, next_under}
use Rattle.running.proofs.Agrees.{Agree, Below, none_held, one_held, Kept, kept-taken, kept-refused, event_kept}

-- an answer that carries only parts below a count
pub data Carried (count : ℕ) : Answer → Type 0 where
  carried_accepted : {records : List ℕ} → Carried count (accepted records)
  carried_stopped : {number place : ℕ} {held : List ℕ} → Below count held → Carried count (stopped number place held)

carried_logged : {count : ℕ} (records : List ℕ) {a : Answer} → Carried count a → Carried count (logged records a)
unfolding logged
carried_logged records carried_accepted = carried_accepted
carried_logged records (carried_stopped below) = carried_stopped below

carried_cond : {count : ℕ} (b : Bool) {a c : Answer} → Carried count a → Carried count c → Carried count (cond b a c)
carried_cond true a c = a
carried_cond false a c = c

module _ {p q : Plan} (agree : Agree p q) where
  finish_carried : (at : ℕ) {before : List ℕ} → Below p.count before → (held : List ℕ) → Carried p.count (finish p at before held)
  unfolding finish
  finish_carried at below [] = carried_accepted
  finish_carried at below (n ∷ held) = carried_cond (p.null n) (carried_logged _ (finish_carried at below held)) (carried_stopped below)

  onward_carried : {s : Step} → Kept p.count s → (rest : List ℕ → Answer)
      → ((h : List ℕ) → Below p.count h → Carried p.count (rest h)) → (at : ℕ) {before : List ℕ} → Below p.count before
      → Carried p.count (onward s rest at before)
  unfolding onward
  onward_carried (kept-taken {held} {records} below) rest carried at before = carried_logged records (carried held below)
  onward_carried kept-refused rest carried at before = carried_stopped before

  module _ (free : ℕ → Bool) where
    reads_carried : (run : List ℕ) (at : ℕ) (held : List ℕ) → Below p.count held → Carried p.count (reads p free at held run)
    unfolding reads
    reads_carried [] at held below = finish_carried at below held
    reads_carried (k ∷ run) at held below = known (ltb k p.kinds) refl (λ h b. reads_carried run (suc at) h b)
      where
        known : (b : Bool) → ltb k p.kinds ≡ b → ((h : List ℕ) → Below p.count h → Carried p.count (reads p free (suc at) h run))
            → Carried p.count (cond b (onward (event p free k held) (λ h. reads p free (suc at) h run) at held) (stopped UNKNOWN at held))
        known true is rest = onward_carried (event_kept agree free k (ltb-true k p.kinds is) below) _ rest at below
        known false is rest = carried_stopped below

    -- a reading's answer carries only parts below the count
    pub reading_carried : (run : List ℕ) → Carried p.count (reading p free run)
    unfolding reading
    reading_carried run = reads_carried run 0 (p.start ∷ []) (one_held agree.start_below none_held)

  -- the same expected kinds for parts below the count
  pub expected_agrees : {held : List ℕ} → Below p.count held → expected p held ≡ expected q held
  unfolding expected row_first
  expected_agrees none_held = refl
  expected_agrees (one_held {n} {held} small below) =
      rw (row p.kinds (omega arith), agree.kinds, agree.null n small, expected_agrees below) refl
    where
      row : (k : ℕ) → k ≤ p.kinds → row_first p n k ≡ row_first q n k
      row zero within = refl
      row (suc k) within = ap₂ (λ (c r : ℕ). joined r (cond (eqb c 0) 0 (only_kind k))) (agree.cell n k small within) (row k (omega arith))

module _ (p : Plan) where
  -- a row's set has the kinds whose cells are not 0
  module _ (n k : ℕ) where
    -- below a number
    abbrev InRow : ℕ → Type 0
    InRow below = (k < below) × (p.cell n k ≢ 0)

    in_cell : (below : ℕ) (none-there : Bool) → eqb (p.cell n below) 0 ≡ none-there
        → Has (cond none-there 0 (only_kind below)) k → InRow (suc below)
    in_cell below true is has = absurd (none has)
    in_cell below false is has = let same = (has_single k below).0 has in (omega arith, rw same (eqb-false _ _ is))

    row_has : (below : ℕ) → Has (row_first p n below) k → InRow below
    unfolding row_first
    row_has zero has = absurd (none has)
    row_has (suc below) has =
        ⊎_elim (λ early. let (less, some) = row_has below early in (omega arith, some)) (in_cell below (eqb (p.cell n below) 0) refl)
        ((has_join _ _ k).0 has)

    has_row : (below : ℕ) → InRow below → Has (row_first p n below) k
    unfolding row_first
    has_row zero (less, some) = absurd (omega arith)
    has_row (suc below) (less, some) =
        let join = (has_join (row_first p n below) (cond (eqb (p.cell n below) 0) 0 (only_kind below)) k).1 in
        elim (ℕ_discrete k below) [
          | yes same ↦ join (inr (rw (ne_eqb (p.cell n below) 0 (rw same at some)) ((has_single k below).1 same)))
          | no other ↦ join (inl (has_row below (omega (arith, other), some)))
        ]

  no_next : {k : ℕ} → Next p k [] → ⊥
  no_next = elim [ ]

  module _ (n k : ℕ) (held : List ℕ) (rest : Has (expected p held) k ↔ Next p k held) where
    under : (null : Bool) → p.null n ≡ null → Has (cond null (expected p held) 0) k → Next p k (n ∷ held)
    under true is has = next_under is (rest.0 has)
    under false is has = absurd (none has)

    join : Has (row_first p n p.kinds) k ⊎ Has (cond (p.null n) (expected p held) 0) k
        → Has (joined (row_first p n p.kinds) (cond (p.null n) (expected p held) 0)) k
    join = (has_join _ _ k).1

    from_next : Next p k (n ∷ held) → Has (joined (row_first p n p.kinds) (cond (p.null n) (expected p held) 0)) k
    from_next (next_here less some) = join (inl (has_row n k p.kinds (less, some)))
    from_next (next_under is next) = join (inr (rw is (rest.1 next)))

  -- the expected kinds are those that may come next
  pub expected_next : (held : List ℕ) (k : ℕ) → Has (expected p held) k ↔ Next p k held
  unfolding expected
  expected_next [] k = (λ has. absurd (none has), λ next. absurd (no_next next))
  expected_next (n ∷ held) k =
      let rest = expected_next held k in (
        λ has.
            ⊎_elim (λ here. let (less, some) = row_has n k p.kinds here in next_here less some) (under n k held rest (p.null n) refl)
            ((has_join _ _ k).0 has),
        from_next n k held rest,
      )
