-- The greatest number of parts held, by what the ways from the start weigh.
use Prim.Native.Nat.{ℕ, suc, ◌-◌, ◌≤◌, ◌<◌}
use native.Mathlib.Decide.{dec_lt}
use borrow.Author.Tests.{ltb-true, ltb-false}
use native.Mathlib.Omega.{arith}
use mathlib.Core.Path.{◌≡◌, refl, sym, subst, ◌∙◌}
use mathlib.Core.Bool.{Bool, true, false, cond}
use mathlib.Core.List.{List, [], ◌∷◌}
use mathlib.Core.Logic.{⊎_elim}
use lib.Dec.{ltb}
use Rattle.book.specs.Book.{Book}
use Rattle.grammar.specs.Passing.{Passes}
use Rattle.running.specs.Running.{DEEP, refused, with_slots, unlimited, reading, event}
use Rattle.running.specs.Cells.{Marks, Marked, plan_for}
use Rattle.depths.specs.Depths.{After, Greatest, NoGreatest}
use Rattle.depths.specs.Ways.{Weighs, AtLeast, held_by}
use Rattle.depths.proofs.Upper.{holds_weighs, after_ways, start_ways}
use Rattle.meaning.proofs.Event.{Event, event_is}
use Rattle.depths.proofs.Lower.{after-behind, start_orderly, weighs_holds, holds_start}
use Rattle.depths.proofs.Fits.{event_same, reading_same}

-- ---- one answer

module _ {b : Book} where
  -- there is one greatest number
  pub greatest_once : {m n : ℕ} → Greatest b m → Greatest b n → m ≡ n
  greatest_once {m} {n} one other = omega (arith, one.most n other.reached, other.most m one.reached)

  -- or none
  pub greatest_or_none : {m : ℕ} → Greatest b m → NoGreatest b → ⊥
  greatest_or_none {m} one none = let (n, more, holds) = none m in omega (arith, one.most n holds)

module _ {b : Book} (passes : Passes b) (marks : Marks) (marked : Marked b.node marks) where
  -- ---- the number

  -- one, where no way weighs more
  pub greatest_one : ((w : ℕ) → Weighs b.node (b.node b.start) w → w ≤ 1) → Greatest b 1
  greatest_one light = record {
    reached = holds_start passes marks marked;
    most = λ n holds. ⊎_elim (λ same. omega (arith, same)) (λ way. light n way) (holds_weighs passes holds);
  }

  -- the weight of the heaviest way
  pub greatest_weight : {m : ℕ} → 1 ≤ m → Weighs b.node (b.node b.start) m
      → ((w : ℕ) → Weighs b.node (b.node b.start) w → w ≤ m) → Greatest b m
  greatest_weight {m} some way light = record {
    reached = weighs_holds passes marks marked way;
    most = λ n holds. ⊎_elim (λ same. omega (arith, same)) (λ way. light n way) (holds_weighs passes holds);
  }

  -- by how many weights, from 0 on, ways from the start weigh at least: one less, but one at least
  pub greatest_by : (x : ℕ) → ((j : ℕ) → j < x → AtLeast b.node (b.node b.start) j) → (AtLeast b.node (b.node b.start) x → ⊥)
      → Greatest b (held_by x)
  greatest_by x heavy light = go (ltb 2 x) refl
    where
      within : (w : ℕ) → Weighs b.node (b.node b.start) w → w < x
      within w way = elim (dec_lt w x) [ yes h ↦ h | no f ↦ absurd (light (record { weight = w; way = way; least = omega arith })) ]

      go : (t : Bool) → ltb 2 x ≡ t → Greatest b (cond t (x - 1) 1)
      go true e =
          let more = ltb-true 2 x e in
          let a = heavy (x - 1) (omega arith) in
          let same : a.weight ≡ x - 1 = omega (arith, a.least, within a.weight a.way) in
          greatest_weight (omega arith) (rw same at a.way) (λ w way. omega (arith, within w way))
      go false e = let few = ltb-false 2 x e in greatest_one (λ w way. omega (arith, within w way))

  -- none, where ways weigh as much as one likes
  pub greatest_none : ((m : ℕ) → AtLeast b.node (b.node b.start) m) → NoGreatest b
  greatest_none heavy m =
      let a = heavy (suc m) in
      (a.weight, omega (arith, a.least), weighs_holds passes marks marked a.way)

  -- which is some, since the start is held
  pub greatest_positive : {m : ℕ} → Greatest b m → 1 ≤ m
  greatest_positive greatest = greatest.most 1 (holds_start passes marks marked)

  -- ---- slots enough

  -- no way weighs more than the greatest number
  greatest_light : {m : ℕ} → Greatest b m → (w : ℕ) → Weighs b.node (b.node b.start) w → w ≤ m
  greatest_light greatest w way = greatest.most w (weighs_holds passes marks marked way)

  module _ {m slots : ℕ} (greatest : Greatest b m) (enough : m ≤ slots) where
    light : (w : ℕ) → Weighs b.node (b.node b.start) w → w ≤ slots
    light w way = omega (arith, greatest_light greatest w way)

    -- behind a beginning every event with as many slots comes to what it comes to without a limit
    pub event_enough : {run parts : List ℕ} → After (plan_for b marks) (b.start ∷ []) run parts → (k : ℕ)
        → event (plan_for b marks) (with_slots slots) k parts ≡ event (plan_for b marks) unlimited k parts
    event_enough behind k = event_same passes marks marked slots light k (after_ways passes marks marked behind (start_ways b))

    -- so it never lacks a slot
    pub event_not_deep : {run parts : List ℕ} → After (plan_for b marks) (b.start ∷ []) run parts → (k : ℕ)
        → event (plan_for b marks) (with_slots slots) k parts ≡ refused DEEP → ⊥
    event_not_deep {parts = parts} behind k deep =
        other
        (subst (Event b.node k parts) (sym (event_enough behind k) ∙ deep)
        (event_is passes marks marked k parts (after-behind passes marks marked (start_orderly passes marks marked) behind).orderly))
      where
        other : Event b.node k parts (refused DEEP) → ⊥
        other = elim [ ]

    -- and so does a whole reading
    pub reading_enough : (run : List ℕ)
        → reading (plan_for b marks) (with_slots slots) run ≡ reading (plan_for b marks) unlimited run
    reading_enough run = reading_same passes marks marked slots light run
