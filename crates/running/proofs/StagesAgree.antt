-- Plans that agree below their count, in tags too, give the same readings with labels.
use mathlib.Core.Path.{◌≡◌, refl, ap, ◌∙◌}
use mathlib.Core.Bool.{Bool, true, false, cond}
use mathlib.Core.List.{List, [], ◌∷◌}
use Prim.Native.Nat.{ℕ, zero, suc, ◌<◌}
use borrow.Author.Tests.{ltb-true}
use lib.Dec.{ltb}
use Rattle.running.specs.Running.{Plan, Move, refuse, take_event, go_left, hold_right, skip_left, go_right, move_of, emptied}
use Rattle.running.specs.Running.{StepOf, taken, refused, noted, take_off, AnswerOf, stopped, UNKNOWN, logged, onward}
use Rattle.running.specs.Stages.{Part, part, inside, staged_visit, staged_walk, staged_event, staged_finish, staged_reads, staged_reading}
use Rattle.running.specs.Stages.{nodes_of, bare_step, bare_answer}
use Rattle.running.proofs.Agrees.{Agree, Below, none_held, one_held, Kept, kept-taken, event_kept}
use Rattle.running.proofs.Expected.{Carried, reading_carried}
use Rattle.running.proofs.Stages.{event_bare, reading_bare}

-- how a walk goes on at a visit, on parts below the count
module _ {count l r : ℕ} (left_below : l < count) (right_below : r < count) (held : List Part) (below : Below count (nodes_of held)) where
  visit-same : (m : Move) (free : ℕ → Bool) (label : ℕ) {go go' : ℕ → List Part → StepOf Part}
      → ((n : ℕ) (h : List Part) → n < count → Below count (nodes_of h) → go n h ≡ go' n h)
      → staged_visit m go free label l r held ≡ staged_visit m go' free label l r held
  unfolding staged_visit
  visit-same refuse free label same = refl
  visit-same take_event free label same = refl
  visit-same go_left free label same = same l held left_below below
  visit-same hold_right free label same = rw (same l (part r label ∷ held) left_below (one_held right_below below))
  visit-same skip_left free label same = ap (noted (emptied l)) (same r held right_below below)
  visit-same go_right free label same = same r held right_below below

onward-same : {count : ℕ} (s : StepOf Part) → Kept count (bare_step s) → (rest rest' : List Part → AnswerOf Part)
    → ((h : List Part) → Below count (nodes_of h) → rest h ≡ rest' h) → (at : ℕ) (before : List Part)
    → onward s rest at before ≡ onward s rest' at before
unfolding onward bare_step
onward-same (taken held records) (kept-taken below) rest rest' same at before = ap (logged records) (same held below)
onward-same (refused number) kept rest rest' same at before = refl

module _ {p q : Plan} (agree : Agree p q) (tags : (n : ℕ) → n < p.count → p.tag n ≡ q.tag n) (free : ℕ → Bool) where
  module _ (k : ℕ) (kind : k < p.kinds) where
    walk_same : (left n outer : ℕ) (held : List Part) → n < p.count → Below p.count (nodes_of held)
        → staged_walk p free k left n outer held ≡ staged_walk q free k left n outer held
    unfolding staged_walk
    walk_same zero n outer held small below = refl
    walk_same (suc left) n outer held small below =
        ap (noted n)
        (visit-same (agree.left_below n small) (agree.right_below n small) held below (move_of (p.cell n k)) free (inside (p.tag n) outer)
        (λ m h s b. walk_same left m (inside (p.tag n) outer) h s b)
        ∙ (λ i.
        staged_visit (move_of (agree.cell n k small kind i)) (λ m h. staged_walk q free k left m (inside (tags n small i) outer) h) free
        (inside (tags n small i) outer) (agree.left n small i) (agree.right n small i) held))

    pub staged_event_same : (held : List Part) → Below p.count (nodes_of held) → staged_event p free k held ≡ staged_event q free k held
    unfolding staged_event
    staged_event_same [] below = refl
    staged_event_same (h ∷ held) (one_held small below) =
        let walked : staged_walk p free k p.count h.node h.label held ≡ staged_walk q free k q.count h.node h.label held =
        walk_same p.count h.node h.label held small below
        ∙ ap (λ (c : ℕ). staged_walk q free k c h.node h.label held) agree.count in
        λ i.
        take_off (agree.cell h.node k small kind i) (agree.null h.node small i) (walked i)
        (noted (emptied h.node) (staged_event_same held below i))

    staged_kept : (held : List Part) → Below p.count (nodes_of held) → Kept p.count (bare_step (staged_event p free k held))
    staged_kept held below = rw (event_bare p free k held) (event_kept agree free k kind below)

  pub staged_finish_same : (at : ℕ) (before held : List Part) → Below p.count (nodes_of held)
      → staged_finish p at before held ≡ staged_finish q at before held
  unfolding staged_finish
  staged_finish_same at before [] below = refl
  staged_finish_same at before (h ∷ held) (one_held small below) =
      rw (agree.null h.node small, staged_finish_same at before held below)

  reads_same : (run : List ℕ) (at : ℕ) (held : List Part) → Below p.count (nodes_of held)
      → staged_reads p free at held run ≡ staged_reads q free at held run
  unfolding staged_reads
  reads_same [] at held below = staged_finish_same at held held below
  reads_same (k ∷ run) at held below =
      known (ltb k p.kinds) refl (λ h b. reads_same run (suc at) h b)
      ∙ ap
      (λ (n : ℕ).
      cond (ltb k n) (onward (staged_event q free k held) (λ h. staged_reads q free (suc at) h run) at held) (stopped UNKNOWN at held))
      agree.kinds
    where
      known : (b : Bool) → ltb k p.kinds ≡ b
          → ((h : List Part) → Below p.count (nodes_of h) → staged_reads p free (suc at) h run ≡ staged_reads q free (suc at) h run)
          → cond b (onward (staged_event p free k held) (λ h. staged_reads p free (suc at) h run) at held) (stopped UNKNOWN at held)
          ≡ cond b (onward (staged_event q free k held) (λ h. staged_reads q free (suc at) h run) at held) (stopped UNKNOWN at held)
      known true is same =
          let kind = ltb-true k p.kinds is in
          onward-same (staged_event p free k held) (staged_kept k kind held below) _ _ same at held
          ∙ ap (λ (s : StepOf Part). onward s (λ h. staged_reads q free (suc at) h run) at held) (staged_event_same k kind held below)
      known false is same = refl

  -- the same reading on every run
  pub staged_reading_agrees : (run : List ℕ) → staged_reading p free run ≡ staged_reading q free run
  unfolding staged_reading
  staged_reading_agrees run =
      reads_same run 0 (part p.start 0 ∷ []) (one_held agree.start_below none_held)
      ∙ ap (λ (n : ℕ). staged_reads q free 0 (part n 0 ∷ []) run) agree.start

  -- and its answer carries only parts below the count
  pub staged_carried : (run : List ℕ) → Carried p.count (bare_answer (staged_reading p free run))
  staged_carried run = rw (reading_bare p free run) (reading_carried agree free run)
