-- Limits: a machine with fewer slots answers as one with more, or DEEP; and with enough slots for the nodes and the events it is never
-- DEEP. Of any plan, forged or not, with the labels of the parts held.
use Prim.Native.Nat.{ℕ, zero, suc}
use mathlib.Core.Path.{◌≡◌, refl}
use mathlib.Core.Bool.{Bool, true, false, false≢true, cond}
use mathlib.Core.List.{List, [], ◌∷◌}
use mathlib.Core.Logic.{◌⊎◌, inl, inr}
use lib.Dec.{ltb, eqb}
use lib.ListN.{length}
use Rattle.running.specs.Running.{Plan, Move, refuse, take_event, go_left, hold_right, skip_left, go_right, move_of, DEEP, UNKNOWN, UNEXPECTED}
use Rattle.running.specs.Running.{StepOf, taken, refused, emptied, noted, take_off, AnswerOf, stopped, logged, onward}
use Rattle.running.specs.Stages.{Part, part, inside, staged_visit, staged_walk, staged_event, staged_reads, staged_reading}

-- a step is another's, or there was no slot
data Near : StepOf Part → StepOf Part → Type 0 where
  near_same : {s : StepOf Part} → Near s s
  near_deep : {s : StepOf Part} → Near (refused DEEP) s

-- an answer is another's, or DEEP
data Close : AnswerOf Part → AnswerOf Part → Type 0 where
  close_same : {a : AnswerOf Part} → Close a a
  close_deep : {a : AnswerOf Part} {i : ℕ} {held : List Part} → Close (stopped DEEP i held) a

noted_near : (r : ℕ) {s t : StepOf Part} → Near s t → Near (noted r s) (noted r t)
unfolding noted
noted_near r near_same = near_same
noted_near r near_deep = near_deep

cond_near : (t u : Bool) {s s' : StepOf Part} → (t ≡ true → u ≡ true) → Near s s' → Near (cond t s (refused DEEP)) (cond u s' (refused DEEP))
cond_near true true f n = n
cond_near true false f n = absurd (false≢true (f refl))
cond_near false u f n = near_deep

visit_near : (m : Move) (label l r : ℕ) (go go' : ℕ → List Part → StepOf Part) (free free' : ℕ → Bool) (held : List Part)
    → ((n : ℕ) → free n ≡ true → free' n ≡ true) → ((m : ℕ) (h : List Part) → Near (go m h) (go' m h))
    → Near (staged_visit m go free label l r held) (staged_visit m go' free' label l r held)
unfolding staged_visit
visit_near refuse label l r go go' free free' held f g = near_same
visit_near take_event label l r go go' free free' held f g = near_same
visit_near go_left label l r go go' free free' held f g = g l held
visit_near hold_right label l r go go' free free' held f g = cond_near (free (length held)) (free' (length held)) (f (length held)) (g l (part r label ∷ held))
visit_near skip_left label l r go go' free free' held f g = noted_near (emptied l) (g r held)
visit_near go_right label l r go go' free free' held f g = g r held

take_off_near : (cell : ℕ) (null : Bool) {walked walked' passed passed' : StepOf Part} → Near walked walked' → Near passed passed'
    → Near (take_off cell null walked passed) (take_off cell null walked' passed')
unfolding take_off
take_off_near cell null {walked} {walked'} {passed} {passed'} n m = go (eqb cell 0) null
  where
    go : (none null : Bool)
        → Near (cond none (cond null passed (refused UNEXPECTED)) walked) (cond none (cond null passed' (refused UNEXPECTED)) walked')
    go true true = m
    go true false = near_same
    go false null = n

logged_close : (rs : List ℕ) {a c : AnswerOf Part} → Close a c → Close (logged rs a) (logged rs c)
unfolding logged
logged_close rs close_same = close_same
logged_close rs close_deep = close_deep

onward_close : (at : ℕ) (before : List Part) (rest rest' : List Part → AnswerOf Part) {s t : StepOf Part} → Near s t → ((h : List Part) → Close (rest h) (rest' h))
    → Close (onward s rest at before) (onward t rest' at before)
unfolding onward
onward_close at before rest rest' {s} near_same f = go s
  where
    go : (s : StepOf Part) → Close (onward s rest at before) (onward s rest' at before)
    go (taken held records) = logged_close records (f held)
    go (refused number) = close_same
onward_close at before rest rest' near_deep f = close_deep

module _ (p : Plan) (free free' : ℕ → Bool) (looser : (n : ℕ) → free n ≡ true → free' n ≡ true) where
  walk_near : (k left n outer : ℕ) (held : List Part) → Near (staged_walk p free k left n outer held) (staged_walk p free' k left n outer held)
  unfolding staged_walk
  walk_near k zero n outer held = near_same
  walk_near k (suc left) n outer held =
      let label = inside (p.tag n) outer in
      noted_near n
      (visit_near (move_of (p.cell n k)) label (p.left n) (p.right n) (λ m h. staged_walk p free k left m label h)
      (λ m h. staged_walk p free' k left m label h) free free' held looser (λ m h. walk_near k left m label h))

  event_near : (k : ℕ) (held : List Part) → Near (staged_event p free k held) (staged_event p free' k held)
  unfolding staged_event
  event_near k [] = near_same
  event_near k (q ∷ held) =
      take_off_near (p.cell q.node k) (p.null q.node) (walk_near k p.count q.node q.label held)
      (noted_near (emptied q.node) (event_near k held))

  reads_close : (xs : List ℕ) (at : ℕ) (held : List Part) → Close (staged_reads p free at held xs) (staged_reads p free' at held xs)
  unfolding staged_reads
  reads_close [] at held = close_same
  reads_close (k ∷ xs) at held = go (ltb k p.kinds) (λ h. reads_close xs (suc at) h)
    where
      go : (t : Bool) → ((h : List Part) → Close (staged_reads p free (suc at) h xs) (staged_reads p free' (suc at) h xs))
          → Close (cond t (onward (staged_event p free k held) (λ h. staged_reads p free (suc at) h xs) at held) (stopped UNKNOWN at held))
          (cond t (onward (staged_event p free' k held) (λ h. staged_reads p free' (suc at) h xs) at held) (stopped UNKNOWN at held))
      go true f = onward_close at held _ _ (event_near k held) f
      go false f = close_same

  -- with slots free more often the answer is the same, unless it was DEEP
  pub free_answers : (xs : List ℕ)
      → ((i : ℕ) × (held : List Part) × (staged_reading p free xs ≡ stopped DEEP i held)) ⊎ (staged_reading p free xs ≡ staged_reading p free' xs)
  unfolding staged_reading
  free_answers xs = go (reads_close xs 0 (part p.start 0 ∷ []))
    where
      go : {a c : AnswerOf Part} → Close a c → ((i : ℕ) × (held : List Part) × (a ≡ stopped DEEP i held)) ⊎ (a ≡ c)
      go close_same = inr refl
      go (close_deep {i = i} {held}) = inl (i, held, refl)
