-- What is reachable from the start is decided, for a well-formed book.
use Prim.Native.Nat.{ℕ, zero, suc, ◌<◌}
use native.Mathlib.Omega.{arith}
use native.Mathlib.Decide.{ℕ_discrete}
use borrow.Author.Tests.{eqb-true, eq-eqb}
use mathlib.Core.Path.{◌≡◌, refl}
use mathlib.Core.Bool.{Bool, true, false, ◌||◌, ◌&&◌}
use mathlib.Core.Logic.{⊎_elim}
use lib.Dec.{eqb}
use Rattle.words.proofs.Tests.{never, both, joined, or_cases, or_left, or_right}
use Rattle.book.specs.declared.Node.{Node}
use Rattle.book.specs.declared.Node.TheVariants.{Fail, Empty, Token, Either, Then, Tagged, Ref}
use Rattle.book.specs.Book.{Book, WellFormed}
use Rattle.grammar.specs.Rules.{Child, either_left, either_right, then_left, then_right, tagged_left, ref_left, Reach, r_start, r_child}
use Rattle.rules.proofs.Bounds.{parent_below, child_below}
use Rattle.rules.proofs.Least.{Decided, Ruled, decided}

-- whether a number is the left or right of a node
unfoldable pub child? : Node → ℕ → Bool
child? Fail m = false
child? Empty m = false
child? (Token k) m = false
child? (Either l r) m = eqb l m || eqb r m
child? (Then l r) m = eqb l m || eqb r m
child? (Tagged l a) m = eqb l m
child? (Ref l) m = eqb l m

child_sound : (x : Node) (m : ℕ) → child? x m ≡ true → Child x m
unfolding child?
child_sound Fail m e = never e
child_sound Empty m e = never e
child_sound (Token k) m e = never e
child_sound (Either l r) m e =
    ⊎_elim (λ a. rw (eqb-true l m a) either_left) (λ b. rw (eqb-true r m b) either_right) (or_cases (eqb l m) (eqb r m) e)
child_sound (Then l r) m e =
    ⊎_elim (λ a. rw (eqb-true l m a) then_left) (λ b. rw (eqb-true r m b) then_right) (or_cases (eqb l m) (eqb r m) e)
child_sound (Tagged l a) m e = rw (eqb-true l m e) tagged_left
child_sound (Ref l) m e = rw (eqb-true l m e) ref_left

child_complete : {x : Node} {m : ℕ} → Child x m → child? x m ≡ true
unfolding child?
child_complete (either_left {l} {r}) = or_left (eqb l l) (eqb r l) (eq-eqb l l refl)
child_complete (either_right {l} {r}) = or_right (eqb l r) (eqb r r) (eq-eqb r r refl)
child_complete (then_left {l} {r}) = or_left (eqb l l) (eqb r l) (eq-eqb l l refl)
child_complete (then_right {l} {r}) = or_right (eqb l r) (eqb r r) (eq-eqb r r refl)
child_complete (tagged_left {l}) = eq-eqb l l refl
child_complete (ref_left {l}) = eq-eqb l l refl

-- whether a test holds of a number below a bound
unfoldable pub any : ℕ → (ℕ → Bool) → Bool
any zero f = false
any (suc n) f = f n || any n f

any_some : (n : ℕ) (f : ℕ → Bool) → any n f ≡ true → (i : ℕ) × (f i ≡ true)
unfolding any
any_some zero f e = never e
any_some (suc n) f e = ⊎_elim (λ here. (n, here)) (any_some n f) (or_cases (f n) (any n f) e)

any_here : (n : ℕ) (f : ℕ → Bool) (i : ℕ) → i < n → f i ≡ true → any n f ≡ true
unfolding any
any_here zero f i below e = absurd (omega arith)
any_here (suc n) f i below e = at (ℕ_discrete i n) (λ inside. any_here n f i inside e)
  where
    at : Dec (i ≡ n) → (i < n → any n f ≡ true) → (f n || any n f) ≡ true
    at (yes same) lower = or_left (f n) (any n f) (rw same at e)
    at (no other) lower = or_right (f n) (any n f) (lower (omega arith))

module _ (book : Book) (formed : WellFormed book) where
  abbrev pub node : ℕ → Node
  node = book.node

  unfoldable pub reached? : (ℕ → Bool) → ℕ → Bool
  reached? t m = eqb book.start m || any book.count (λ n. t n && child? (node n) m)

  reach_complete : (t : ℕ → Bool) → ((i : ℕ) → reached? t i ≡ true → t i ≡ true) → {m : ℕ} → Reach node book.start m → t m ≡ true
  unfolding reached?
  reach_complete t closed r_start = closed book.start (or_left (eqb book.start book.start) _ (eq-eqb book.start book.start refl))
  reach_complete t closed (r_child {n} {m} d c) =
      closed m
      (or_right (eqb book.start m) _
      (any_here book.count (λ i. t i && child? (node i) m) n (parent_below book formed n c)
      (joined (t n) (child? (node n) m) (reach_complete t closed d) (child_complete c))))

  pub reach_ruled : Ruled (Reach node book.start) book.count reached?
  unfolding reached?
  reach_ruled =
      record {
        sound =
            λ t h m e.
            ⊎_elim (λ same. rw (← eqb-true book.start m same) r_start)
            (λ some.
            let (n, pair) = any_some book.count (λ i. t i && child? (node i) m) some in
            let (a, c) = both (t n) (child? (node n) m) pair in
            r_child (h n a) (child_sound (node n) m c))
            (or_cases (eqb book.start m) _ e);
        within =
            λ t m e.
            ⊎_elim (λ same. rw (← eqb-true book.start m same) formed.start_below)
            (λ some.
            let (n, pair) = any_some book.count (λ i. t i && child? (node i) m) some in
            child_below book formed n (child_sound (node n) m (both (t n) (child? (node n) m) pair).1))
            (or_cases (eqb book.start m) _ e);
        complete = λ t closed m d. reach_complete t closed d;
      }

  -- which nodes are reachable
  unfoldable pub reach_decided : Decided (Reach node book.start)
  reach_decided = decided reach_ruled
