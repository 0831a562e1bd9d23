-- A walk visits at most as many nodes as the book has: all derivations of a kind in FIRST of a node are of one size, so the nodes on
-- one are different.
use Prim.Native.Nat.{ℕ, zero, suc, ◌<◌, ◌≤◌}
use native.Mathlib.Decide.{ℕ_discrete, dec_lt}
use native.Mathlib.Omega.{arith}
use mathlib.Core.Path.{◌≡◌, refl, sym, ap, path_j, subst, ◌∙◌}
use mathlib.Core.Logic.{◌≢◌}
use Rattle.book.specs.Book.{Book, WellFormed, Proper, token_is}
use Rattle.book.specs.declared.Node.{Node}
use Rattle.book.specs.declared.Node.TheVariants.{Fail, Token}
use Rattle.grammar.specs.Rules.{First, f_token, f_left, f_right, f_hold, f_skip, f_tagged, f_ref, Conflict, c_first, c_follow}
use Rattle.grammar.specs.Passing.{NoConflict}
use Rattle.grammar.proofs.Facts.{nullable_first_snf}
use Rattle.meaning.proofs.Walk.{size}

-- a number, with another in place of one
swapped : (n v w : ℕ) → Dec (w ≡ n) → ℕ
swapped n v w (yes e) = v
swapped n v w (no f) = w

swapped_below : (n v w : ℕ) (t : Dec (w ≡ n)) → w < suc n → v < suc n → (w ≡ n → v ≢ n) → swapped n v w t < n
unfolding swapped
swapped_below n v w (yes e) h g f = let q = f e in omega arith
swapped_below n v w (no e) h g f = omega arith

swapped_apart : (n v w u : ℕ) (t : Dec (w ≡ n)) (s : Dec (u ≡ n)) → swapped n v w t ≡ swapped n v u s → w ≢ v → u ≢ v → w ≡ u
unfolding swapped
swapped_apart n v w u (yes e) (yes f) q g h = omega arith
swapped_apart n v w u (yes e) (no f) q g h = omega arith
swapped_apart n v w u (no e) (yes f) q g h = omega arith
swapped_apart n v w u (no e) (no f) q g h = omega arith

-- different numbers below a bound are no more than the bound
pigeonhole : (n s : ℕ) (f : ℕ → ℕ) → ((i : ℕ) → i < s → f i < n) → ((i j : ℕ) → i < s → j < s → f i ≡ f j → i ≡ j) → s ≤ n
pigeonhole n zero f below apart = omega arith
pigeonhole zero (suc s) f below apart = let h = below 0 (omega arith) in omega arith
pigeonhole (suc n) (suc s) f below apart =
    let c : (i : ℕ) → i < s → f i ≢ f s = λ i h e. let q = apart i s (omega arith) (omega arith) e in omega arith in
    let r : s ≤ n =
    pigeonhole n s (λ i. swapped n (f s) (f i) (ℕ_discrete (f i) n))
    (λ i h. swapped_below n (f s) (f i) _ (below i (omega arith)) (below s (omega arith)) (λ e g. c i h (omega arith)))
    (λ i j h g e. apart i j (omega arith) (omega arith) (swapped_apart n (f s) (f i) (f j) _ _ e (c i h) (c j g)))
    in
    omega arith

module _ {node : ℕ → Node} {k : ℕ} where
  token_size : {j : ℕ} (d : First node (Token j) k) → size d ≡ 1
  unfolding size
  token_size f_token = refl

  fail_first : First node Fail k → ⊥
  fail_first = elim [ ]

module _ {node : ℕ → Node} (none : (n : ℕ) → Conflict node (node n) → ⊥) {k : ℕ} where
  -- all derivations of a kind in FIRST of a node are of one size
  same_size : {top : Node} → (d e : First node top k) → (Conflict node top → ⊥) → size d ≡ size e
  unfolding size
  same_size f_token e clear = let q = token_size e in omega arith
  same_size (f_left d) (f_left e) clear = ap suc (same_size d e (none _))
  same_size (f_left d) (f_right e) clear = absurd (clear (c_first d e))
  same_size (f_right d) (f_left e) clear = absurd (clear (c_first e d))
  same_size (f_right d) (f_right e) clear = ap suc (same_size d e (none _))
  same_size (f_hold d p) (f_hold e q) clear = ap suc (same_size d e (none _))
  same_size (f_hold d p) (f_skip a e) clear = absurd (clear (c_follow (nullable_first_snf a d) e))
  same_size (f_skip a d) (f_hold e q) clear = absurd (clear (c_follow (nullable_first_snf a e) d))
  same_size (f_skip a d) (f_skip c e) clear = ap suc (same_size d e (none _))
  same_size (f_tagged d) (f_tagged e) clear = ap suc (same_size d e (none _))
  same_size (f_ref d) (f_ref e) clear = ap suc (same_size d e (none _))

  same-size_at : {top low : Node} → top ≡ low → (Conflict node top → ⊥) → (d : First node top k) (e : First node low k) → size d ≡ size e
  same-size_at q clear d e = path_j (λ low q. (e : First node low k) → size d ≡ size e) (λ e. same_size d e clear) q e

-- a node on a walk, with so many visits after it
record On (node : ℕ → Node) (k i : ℕ) : Type 0 where
  number : ℕ
  top : Node
  is : node number ≡ top
  first : First node top k
  sized : size first ≡ suc i

module _ {node : ℕ → Node} {k : ℕ} where
  -- this node, if no more visits are left behind it, or one on the walk behind it
  on_or : {low top : Node} (i n : ℕ) (d : First node top k) (e : First node low k) → node n ≡ top → size d ≡ suc (size e)
      → i < size d → (i < size e → On node k i) → Dec (i < size e) → On node k i
  on_or i n d e q s h f (yes g) = f g
  on_or i n d e q s h f (no g) = record { number = n; top = _; is = q; first = d; sized = omega arith }

  on : {top : Node} (i n : ℕ) (d : First node top k) → node n ≡ top → i < size d → On node k i
  unfolding size
  on i n f_token q h = record { number = n; top = _; is = q; first = f_token; sized = omega arith }
  on i n (f_left {l} d) q h = on_or i n (f_left d) d q refl h (λ g. on i l d refl g) (dec_lt i (size d))
  on i n (f_right {r = r} d) q h = on_or i n (f_right d) d q refl h (λ g. on i r d refl g) (dec_lt i (size d))
  on i n (f_hold {l} d p) q h = on_or i n (f_hold d p) d q refl h (λ g. on i l d refl g) (dec_lt i (size d))
  on i n (f_skip {r = r} a d) q h = on_or i n (f_skip a d) d q refl h (λ g. on i r d refl g) (dec_lt i (size d))
  on i n (f_tagged {l} d) q h = on_or i n (f_tagged d) d q refl h (λ g. on i l d refl g) (dec_lt i (size d))
  on i n (f_ref {l} d) q h = on_or i n (f_ref d) d q refl h (λ g. on i l d refl g) (dec_lt i (size d))

  -- as many different nodes as the walk visits, looked up by the visits after each
  visited : (s : ℕ) → ((i : ℕ) → i < s → On node k i) → (i : ℕ) → Dec (i < s) → ℕ
  visited s f i (yes h) = (f i h).number
  visited s f i (no h) = 0

module _ {node : ℕ → Node} (none : (n : ℕ) → Conflict node (node n) → ⊥) {k : ℕ} where
  -- with different numbers of visits after them the nodes are different
  on_apart : {i j : ℕ} (s : On node k i) (t : On node k j) → s.number ≡ t.number → i ≡ j
  on_apart s t e =
      let clear = subst (λ top. Conflict node top → ⊥) s.is (none s.number) in
      let q = same-size_at none (sym s.is ∙ ap node e ∙ t.is) clear s.first t.first in
      let a = s.sized in
      let c = t.sized in
      omega arith

  visited_apart : (s : ℕ) (f : (i : ℕ) → i < s → On node k i) (i j : ℕ) (t : Dec (i < s)) (u : Dec (j < s)) → i < s → j < s
      → visited s f i t ≡ visited s f j u → i ≡ j
  unfolding visited
  visited_apart s f i j (yes h) (yes g) p q e = on_apart (f i h) (f j g) e
  visited_apart s f i j (yes h) (no g) p q e = absurd (g q)
  visited_apart s f i j (no h) u p q e = absurd (h p)

token_kind : {kinds count n j : ℕ} → Proper kinds count n (Token j) → j < kinds
token_kind (token_is h) = h

module _ (b : Book) (formed : WellFormed b) {k : ℕ} where
  -- a node with a kind in FIRST is one of the book's
  pub first_below : {n : ℕ} {top : Node} → b.node n ≡ top → First b.node top k → n < b.count
  first_below {n} {top} q d = go (dec_lt n b.count)
    where
      go : Dec (n < b.count) → n < b.count
      go (yes h) = h
      go (no h) = absurd (fail_first (rw (← q, formed.beyond n (omega arith)) at d))

  visited_below : (s : ℕ) (f : (i : ℕ) → i < s → On b.node k i) (i : ℕ) (t : Dec (i < s)) → i < s → visited s f i t < b.count
  unfolding visited
  visited_below s f i (yes h) p = let o = f i h in first_below o.is o.first
  visited_below s f i (no h) p = absurd (h p)

  -- a walk visits at most as many nodes as the book has
  pub size_below : NoConflict b → {n : ℕ} (d : First b.node (b.node n) k) → size d ≤ b.count
  size_below none {n} d =
      let f : (i : ℕ) → i < size d → On b.node k i = λ i h. on i n d refl h in
      pigeonhole b.count (size d) (λ i. visited (size d) f i (dec_lt i (size d)))
      (λ i h. visited_below (size d) f i (dec_lt i (size d)) h)
      (λ i j h g e. visited_apart none (size d) f i j (dec_lt i (size d)) (dec_lt j (size d)) h g e)

  -- a kind in FIRST is one of the book's
  pub first_kind : {n : ℕ} {top : Node} → First b.node top k → b.node n ≡ top → k < b.kinds
  first_kind {n} f_token q = token_kind (rw q at (formed.proper n (first_below q f_token)))
  first_kind {n = n} (f_left {l = l} d) q = first_kind {n = l} d refl
  first_kind {n = n} (f_right {r = r} d) q = first_kind {n = r} d refl
  first_kind {n = n} (f_hold {l = l} d p) q = first_kind {n = l} d refl
  first_kind {n = n} (f_skip {r = r} a d) q = first_kind {n = r} d refl
  first_kind {n = n} (f_tagged {l = l} d) q = first_kind {n = l} d refl
  first_kind {n = n} (f_ref {l = l} d) q = first_kind {n = l} d refl
