-- Of a passed book there is a greatest number of parts held, or there is none: whether ways weigh at least so much is decided, weight by
-- weight, each by the one before.
use Prim.Native.Nat.{ℕ, zero, suc, ◌+◌, ◌≤◌, ◌<◌}
use native.Mathlib.Omega.{arith}
use mathlib.Core.Path.{◌≡◌, refl, sym, ◌∙◌}
use mathlib.Core.Bool.{Bool, true, false, ◌||◌, ◌&&◌}
use mathlib.Core.Logic.{◌⊎◌, inl, inr, ⊎_elim}
use Rattle.words.proofs.Tests.{never, both, joined, or_cases, or_left, or_right}
use Rattle.book.specs.Book.{Book, WellFormed}
use Rattle.book.specs.declared.Node.{Node}
use Rattle.book.specs.declared.Node.TheVariants.{Fail, Empty, Token, Either, Then, Tagged, Ref}
use Rattle.grammar.specs.Rules.{Productive}
use Rattle.grammar.specs.Passing.{Passes}
use Rattle.rules.proofs.Bounds.{named_below}
use Rattle.rules.proofs.Least.{Decided, Ruled, decided}
use Rattle.rules.proofs.Marks.{productive_decided}
use Rattle.running.proofs.Found.{marks, marks_are}
use Rattle.depths.specs.Depths.{Greatest, NoGreatest}
use Rattle.depths.specs.Ways.{Weighs, w_token, w_left, w_right, w_hold, w_pass, w_tagged, w_ref, AtLeast, held_by}
use Rattle.depths.proofs.Rising.{at_least_as, at_least_less, weighs_at_least, before, held_at_least, Tested, heavy_unbounded}
use Rattle.depths.proofs.Numbers.{greatest_by, greatest_none}

-- whether ways from a node weigh at least something, by tests of its left and right: whether no weight is asked, which nodes are
-- productive, and which lefts weigh one less
unfoldable pub heavy? : Bool → (ℕ → Bool) → (ℕ → Bool) → (ℕ → Bool) → Node → Bool
heavy? light makes under t Fail = false
heavy? light makes under t Empty = false
heavy? light makes under t (Token k) = light
heavy? light makes under t (Either l r) = t l || t r
heavy? light makes under t (Then l r) = makes r && under l || makes l && t r
heavy? light makes under t (Tagged l a) = t l
heavy? light makes under t (Ref l) = t l

module _ {node : ℕ → Node} {makes : ℕ → Bool} {j : ℕ} where
  heavy_sound : (light : Bool) (under t : ℕ → Bool) → ((n : ℕ) → makes n ≡ true → Productive node (node n)) → (light ≡ true → j ≡ 0)
      → ((n : ℕ) → under n ≡ true → AtLeast node (node n) (before j)) → ((n : ℕ) → t n ≡ true → AtLeast node (node n) j) → (top : Node)
      → heavy? light makes under t top ≡ true → AtLeast node top j
  unfolding heavy?
  heavy_sound light under t made none below sound Fail e = never e
  heavy_sound light under t made none below sound Empty e = never e
  heavy_sound light under t made none below sound (Token k) e = at_least_less (omega (arith, none e)) (weighs_at_least w_token)
  heavy_sound light under t made none below sound (Either l r) e =
      ⊎_elim (λ h. at_least_as (λ w. w_left) (sound l h)) (λ h. at_least_as (λ w. w_right) (sound r h)) (or_cases _ _ e)
  heavy_sound light under t made none below sound (Then l r) e =
      ⊎_elim (λ h. let (p, a) = both _ _ h in held_at_least j (made r p) (below l a))
      (λ h. let (p, a) = both _ _ h in at_least_as (λ w. w_pass (made l p)) (sound r a))
      (or_cases _ _ e)
  heavy_sound light under t made none below sound (Tagged l a) e = at_least_as (λ w. w_tagged) (sound l e)
  heavy_sound light under t made none below sound (Ref l) e = at_least_as (λ w. w_ref) (sound l e)

-- tests that have at every node what it has by them have every way
module _ {node : ℕ → Node} {makes : ℕ → Bool} {j : ℕ} (light : Bool) (under t : ℕ → Bool)
    (made : (n : ℕ) → Productive node (node n) → makes n ≡ true) (none : j ≡ 0 → light ≡ true)
    (below : (n w : ℕ) → Weighs node (node n) w → j ≤ suc w → (j ≤ w → t n ≡ true) → under n ≡ true)
    (closed : (n : ℕ) → heavy? light makes under t (node n) ≡ true → t n ≡ true) where
  heavy_complete : {top : Node} {w : ℕ} → Weighs node top w → j ≤ w → heavy? light makes under t top ≡ true
  unfolding heavy?
  heavy_complete w_token h = none (omega arith)
  heavy_complete (w_left {l} {r} way) h = or_left (t l) (t r) (closed l (heavy_complete way h))
  heavy_complete (w_right {l} {r} way) h = or_right (t l) (t r) (closed r (heavy_complete way h))
  heavy_complete (w_hold {l} {r} {w} way p) h =
      or_left _ _ (joined (makes r) (under l) (made r p) (below l w way h (λ less. closed l (heavy_complete way less))))
  heavy_complete (w_pass {l} {r} p way) h =
      or_right (makes r && under l) _ (joined (makes l) (t r) (made l p) (closed r (heavy_complete way h)))
  heavy_complete (w_tagged {l} way) h = closed l (heavy_complete way h)
  heavy_complete (w_ref {l} way) h = closed l (heavy_complete way h)

module _ (b : Book) (wf : WellFormed b) where
  abbrev makes : ℕ → Bool
  makes = (productive_decided b wf).test

  within : (light : Bool) (under t : ℕ → Bool) (n : ℕ) → heavy? light makes under t (b.node n) ≡ true → n < b.count
  unfolding heavy?
  within light under t n e = named_below b wf (λ x. heavy? light makes under t x ≡ true) (λ f. never f) n e

  -- which nodes' ways weigh at least nothing
  first_ruled : Ruled (λ n. AtLeast b.node (b.node n) 0) b.count (λ t n. heavy? true makes t t (b.node n))
  first_ruled = record {
    sound = λ t sound n e. heavy_sound true t t (λ m. ((productive_decided b wf).test_is m).0) (λ _. refl) sound sound (b.node n) e;
    within = λ t n e. within true t t n e;
    complete = λ t closed n a.
        closed n
        (heavy_complete true t t (λ m. ((productive_decided b wf).test_is m).1) (λ _. refl) (λ m w way h rest. rest (omega arith)) closed
        a.way
        a.least);
  }

  -- and, by those that weigh at least so much, which weigh more
  next-ruled : (j : ℕ) (lower : Decided (λ n. AtLeast b.node (b.node n) j))
      → Ruled (λ n. AtLeast b.node (b.node n) (suc j)) b.count (λ t n. heavy? false makes lower.test t (b.node n))
  next-ruled j lower = record {
    sound = λ t sound n e.
        heavy_sound false lower.test t (λ m. ((productive_decided b wf).test_is m).0) (λ f. never f) (λ m. (lower.test_is m).0) sound
        (b.node n)
        e;
    within = λ t n e. within false lower.test t n e;
    complete = λ t closed n a.
        closed n
        (heavy_complete false lower.test t (λ m. ((productive_decided b wf).test_is m).1) (λ e. absurd (omega (arith, e)))
        (λ m w way h rest. (lower.test_is m).1 (record { weight = w; way = way; least = omega arith }))
        closed
        a.way
        a.least);
  }

  heavy_decided : (j : ℕ) → Decided (λ n. AtLeast b.node (b.node n) j)
  heavy_decided zero = decided first_ruled
  heavy_decided (suc j) = let lower = heavy_decided j in decided (next-ruled j lower)

  tested : Tested b.node b.count (b.count + 2)
  tested = record { test = λ j. (heavy_decided j).test; test_is = λ j n small below. (heavy_decided j).test_is n }

module _ {b : Book} (passes : Passes b) where
  abbrev wf : WellFormed b
  wf = passes.well_formed

  abbrev Heavy : ℕ → Type 0
  Heavy j = AtLeast b.node (b.node b.start) j

  by_test : (j : ℕ) (t : Bool) → (heavy_decided b wf j).test b.start ≡ t → Heavy j ⊎ (Heavy j → ⊥)
  by_test j true e = inl (((heavy_decided b wf j).test_is b.start).0 e)
  by_test j false e = inr (λ a. never (sym e ∙ ((heavy_decided b wf j).test_is b.start).1 a))

  -- the lowest weight that no way weighs, where there is one
  lowest : (x : ℕ) → (Heavy x → ⊥) → (y : ℕ) × ((j : ℕ) → j < y → Heavy j) × (Heavy y → ⊥)
  lowest zero light = (0, (λ j less. absurd (omega arith)), light)
  lowest (suc x) light =
      ⊎_elim (λ heavy. (suc x, (λ j less. at_least_less (omega arith) heavy), light)) (λ lighter. lowest x lighter) (by_test x _ refl)

  -- there is a greatest number, or there is none
  pub greatest_some : ((m : ℕ) × Greatest b m) ⊎ NoGreatest b
  greatest_some =
      ⊎_elim (λ heavy. inr (greatest_none passes (marks b wf) (marks_are b wf) (heavy_unbounded b wf (tested b wf) (omega arith) heavy)))
      (λ light.
      let (x, heavy, over) = lowest b.count light in
      inl (held_by x, greatest_by passes (marks b wf) (marks_are b wf) x heavy over))
      (by_test b.count _ refl)
