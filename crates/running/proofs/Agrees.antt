-- Plans that agree below their count give the same readings: the held parts stay below the count.
use mathlib.Core.Path.{◌≡◌, refl, ap, ◌∙◌}
use mathlib.Core.Bool.{Bool, true, false, cond}
use mathlib.Core.List.{List, [], ◌∷◌}
use Prim.Native.Nat.{ℕ, zero, suc, ◌<◌}
use borrow.Author.Tests.{ltb-true}
use lib.Dec.{ltb, eqb}
use lib.ListN.{length}
use Rattle.running.specs.Running.{Plan, Move, refuse, take_event, go_left, hold_right, skip_left, go_right, move_of, Step, taken, refused, noted, emptied}
use Rattle.running.specs.Running.{visit, take_off, walk, event, Answer, stopped, UNKNOWN, logged, onward, finish, reads, reading}

-- two plans agree in count, kinds and start, and below the count in left, right, cells and nullable marks
pub record Agree (p q : Plan) : Type 0 where
  pub count : p.count ≡ q.count
  pub kinds : p.kinds ≡ q.kinds
  pub start : p.start ≡ q.start
  pub start_below : p.start < p.count
  pub left : (n : ℕ) → n < p.count → p.left n ≡ q.left n
  pub right : (n : ℕ) → n < p.count → p.right n ≡ q.right n
  pub left_below : (n : ℕ) → n < p.count → p.left n < p.count
  pub right_below : (n : ℕ) → n < p.count → p.right n < p.count
  pub cell : (n k : ℕ) → n < p.count → k < p.kinds → p.cell n k ≡ q.cell n k
  pub null : (n : ℕ) → n < p.count → p.null n ≡ q.null n

-- parts that are all below a count
pub data Below (count : ℕ) : List ℕ → Type 0 where
  none_held : Below count []
  one_held : {n : ℕ} {held : List ℕ} → n < count → Below count held → Below count (n ∷ held)

-- a step that leaves such parts held
pub data Kept (count : ℕ) : Step → Type 0 where
  kept-taken : {held records : List ℕ} → Below count held → Kept count (taken held records)
  kept-refused : {number : ℕ} → Kept count (refused number)

kept-noted : {count : ℕ} (r : ℕ) {s : Step} → Kept count s → Kept count (noted r s)
unfolding noted
kept-noted r (kept-taken below) = kept-taken below
kept-noted r kept-refused = kept-refused

kept-cond : {count : ℕ} (b : Bool) {s t : Step} → Kept count s → Kept count t → Kept count (cond b s t)
kept-cond true s t = s
kept-cond false s t = t

-- how a walk goes on at a visit, on parts below the count
module _ {count : ℕ} {l r : ℕ} (left_below : l < count) (right_below : r < count) {held : List ℕ} (below : Below count held) where
  visit-same : (m : Move) (free : ℕ → Bool) {go go' : ℕ → List ℕ → Step}
      → ((n : ℕ) (h : List ℕ) → n < count → Below count h → go n h ≡ go' n h) → visit m go free l r held ≡ visit m go' free l r held
  unfolding visit
  visit-same refuse free same = refl
  visit-same take_event free same = refl
  visit-same go_left free same = same l held left_below below
  visit-same hold_right free same =
      rw (same l (r ∷ held) left_below (one_held right_below below))
  visit-same skip_left free same = ap (noted (emptied l)) (same r held right_below below)
  visit-same go_right free same = same r held right_below below

  visit-kept : (m : Move) (free : ℕ → Bool) {go : ℕ → List ℕ → Step}
      → ((n : ℕ) (h : List ℕ) → n < count → Below count h → Kept count (go n h)) → Kept count (visit m go free l r held)
  unfolding visit
  visit-kept refuse free kept = kept-refused
  visit-kept take_event free kept = kept-taken below
  visit-kept go_left free kept = kept l held left_below below
  visit-kept hold_right free kept = kept-cond (free (length held)) (kept l (r ∷ held) left_below (one_held right_below below)) kept-refused
  visit-kept skip_left free kept = kept-noted (emptied l) (kept r held right_below below)
  visit-kept go_right free kept = kept r held right_below below

kept_off : {count : ℕ} (cell : ℕ) (null : Bool) {walked passed : Step} → Kept count walked → Kept count passed
    → Kept count (take_off cell null walked passed)
unfolding take_off
kept_off cell null walked passed = kept-cond (eqb cell 0) (kept-cond null passed kept-refused) walked

module _ {p q : Plan} (agree : Agree p q) (free : ℕ → Bool) where
  module _ (k : ℕ) (kind : k < p.kinds) where
    walk_same : (left n : ℕ) (held : List ℕ) → n < p.count → Below p.count held → walk p free k left n held ≡ walk q free k left n held
    unfolding walk
    walk_same zero n held small below = refl
    walk_same (suc left) n held small below =
        ap (noted n)
        (visit-same (agree.left_below n small) (agree.right_below n small) below (move_of (p.cell n k)) free (λ m h s b. walk_same left m h s b)
        ∙ (λ i.
        visit (move_of (agree.cell n k small kind i)) (λ m h. walk q free k left m h) free (agree.left n small i) (agree.right n small i) held))

    walk_kept : (left n : ℕ) (held : List ℕ) → n < p.count → Below p.count held → Kept p.count (walk p free k left n held)
    unfolding walk
    walk_kept zero n held small below = kept-refused
    walk_kept (suc left) n held small below =
        kept-noted n
        (visit-kept (agree.left_below n small) (agree.right_below n small) below (move_of (p.cell n k)) free (λ m h s b. walk_kept left m h s b))

    event_same : {held : List ℕ} → Below p.count held → event p free k held ≡ event q free k held
    unfolding event
    event_same none_held = refl
    event_same (one_held {n} {held} small below) =
        let walked : walk p free k p.count n held ≡ walk q free k q.count n held =
        walk_same p.count n held small below ∙ ap (λ (c : ℕ). walk q free k c n held) agree.count in
        λ i. take_off (agree.cell n k small kind i) (agree.null n small i) (walked i) (noted (emptied n) (event_same below i))

    pub event_kept : {held : List ℕ} → Below p.count held → Kept p.count (event p free k held)
    unfolding event
    event_kept none_held = kept-refused
    event_kept (one_held {n} {held} small below) =
        kept_off (p.cell n k) (p.null n) (walk_kept p.count n held small below) (kept-noted (emptied n) (event_kept below))

  onward-same : {s : Step} → Kept p.count s → (rest rest' : List ℕ → Answer) → ((h : List ℕ) → Below p.count h → rest h ≡ rest' h)
      → (at : ℕ) (before : List ℕ) → onward s rest at before ≡ onward s rest' at before
  unfolding onward
  onward-same (kept-taken {held} {records} below) rest rest' same at before = ap (logged records) (same held below)
  onward-same kept-refused rest rest' same at before = refl

  finish_same : (at : ℕ) (before : List ℕ) {held : List ℕ} → Below p.count held → finish p at before held ≡ finish q at before held
  unfolding finish
  finish_same at before none_held = refl
  finish_same at before (one_held {n} small below) =
      rw (agree.null n small, finish_same at before below)

  pub reads_agree : (run : List ℕ) (at : ℕ) (held : List ℕ) → Below p.count held → reads p free at held run ≡ reads q free at held run
  unfolding reads
  reads_agree [] at held below = finish_same at held below
  reads_agree (k ∷ run) at held below =
      known (ltb k p.kinds) refl (λ h b. reads_agree run (suc at) h b)
      ∙ ap (λ (n : ℕ). cond (ltb k n) (onward (event q free k held) (λ h. reads q free (suc at) h run) at held) (stopped UNKNOWN at held)) agree.kinds
    where
      known : (b : Bool) → ltb k p.kinds ≡ b → ((h : List ℕ) → Below p.count h → reads p free (suc at) h run ≡ reads q free (suc at) h run)
          → cond b (onward (event p free k held) (λ h. reads p free (suc at) h run) at held) (stopped UNKNOWN at held)
          ≡ cond b (onward (event q free k held) (λ h. reads q free (suc at) h run) at held) (stopped UNKNOWN at held)
      known true is same =
          let kind = ltb-true k p.kinds is in
          onward-same (event_kept k kind below) _ _ same at held
          ∙ ap (λ (s : Step). onward s (λ h. reads q free (suc at) h run) at held) (event_same k kind below)
      known false is same = refl

  -- the same reading on every run
  pub reading_agrees : (run : List ℕ) → reading p free run ≡ reading q free run
  unfolding reading
  reading_agrees run =
      reads_agree run 0 (p.start ∷ []) (one_held agree.start_below none_held) ∙ ap (λ (n : ℕ). reads q free 0 (n ∷ []) run) agree.start
