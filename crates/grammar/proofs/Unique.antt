-- The only derivation there is: where no node has a conflict, two derivations of one run from a node are equal. Two derivations of
-- beginnings of one run are taken side by side with what follows each: they are equal, or the kind behind the shorter should not follow. So
-- SNF there is exactly the kinds that take a run on to a longer one.
use Prim.Native.Nat.{ℕ}
use native.Mathlib.Nat.{ℕ_set}
use mathlib.Core.Path.{◌≡◌, PathP, refl, sym, subst, ◌∙◌}
use mathlib.Core.Logic.{◌↔◌}
use mathlib.Core.List.{List, [], ◌∷◌, ◌++◌, is_set, append-nil, append_assoc, head-eq_of_cons-eq, tail-eq_of_cons-eq}
use Rattle.book.specs.Book.{Book}
use Rattle.book.specs.declared.Node.{Node}
use Rattle.book.specs.declared.Node.TheVariants.{Either, Then}
use Rattle.grammar.specs.Rules.{Conflict, c_nullable, c_first, c_follow}
use Rattle.grammar.specs.Rules.{Snf, s_left, s_right, s_first_left, s_first_right, s_then_left, s_then_right, s_tagged, s_ref}
use Rattle.grammar.specs.Derivations.{Derives, d_empty, d_token, d_left, d_right, d_then, d_tagged, d_ref, Extends}
use Rattle.grammar.specs.Passing.{Passes}
use Rattle.grammar.proofs.Facts.{Opens, derives_productive, derives_opens, snf_extends}

-- a run with a derivation of it from a node
abbrev Derived : (ℕ → Node) → Node → Type 0
Derived node top = (xs : List ℕ) × Derives node top xs

-- two derivations with what follows each: they are equal, or the kind behind the shorter should not follow
data Agree (node : ℕ → Node) (top : Node) : List ℕ → List ℕ → Derived node top → Derived node top → Type 0 where
  agree_same : {u : List ℕ} {s : Derived node top} → Agree node top u u s s
  agree_left : {k : ℕ} {u v : List ℕ} {s t : Derived node top} → Snf node top k → Agree node top (k ∷ u) v s t
  agree_right : {k : ℕ} {u v : List ℕ} {s t : Derived node top} → Snf node top k → Agree node top u (k ∷ v) s t

module _ {node : ℕ → Node} where
  agree_swap : {top : Node} {u v : List ℕ} {s t : Derived node top} → Agree node top u v s t → Agree node top v u t s
  agree_swap agree_same = agree_same
  agree_swap (agree_left h) = agree_right h
  agree_swap (agree_right h) = agree_left h

  agree_as : {a b : Node} {u v : List ℕ} {s t : Derived node a} (wrap : Derived node a → Derived node b)
      → ((k : ℕ) → Snf node a k → Snf node b k) → Agree node a u v s t → Agree node b u v (wrap s) (wrap t)
  agree_as wrap f agree_same = agree_same
  agree_as wrap f (agree_left h) = agree_left (f _ h)
  agree_as wrap f (agree_right h) = agree_right (f _ h)

  -- the two sides of an either
  agree_sides : {l r : ℕ} {u v : List ℕ} {s t : Derived node (Either l r)} → (Conflict node (Either l r) → ⊥) → (xs ys : List ℕ)
      → xs ++ u ≡ ys ++ v → Opens node (node l) xs → Opens node (node r) ys → Agree node (Either l r) u v s t
  agree_sides clear [] [] same a b = absurd (clear (c_nullable a b))
  agree_sides clear [] (k ∷ ys) same a e = rw same (agree_left (s_first_right a e))
  agree_sides clear (k ∷ xs) [] same d b = rw (sym same) (agree_right (s_first_left d b))
  agree_sides clear (k ∷ xs) (j ∷ ys) same d e = absurd (clear (c_first d (rw (sym (head-eq_of_cons-eq same)) at e)))

  -- behind the kind that should not follow the left of a then the right takes no event
  agree_short : {l r k : ℕ} {w u v : List ℕ} {s t : Derived node (Then l r)} → (Conflict node (Then l r) → ⊥) → Snf node (node l) k → (ys : List ℕ)
      → (k ∷ w) ≡ ys ++ u → Opens node (node r) ys → Agree node (Then l r) u v s t
  agree_short clear h [] same b = rw (sym same) (agree_left (s_then_left h b))
  agree_short clear h (j ∷ ys) same e = absurd (clear (c_follow h (rw (sym (head-eq_of_cons-eq same)) at e)))

  abbrev joined : {l r : ℕ} → Derived node (node l) → Derived node (node r) → Derived node (Then l r)
  joined s t = (s.0 ++ t.0, d_then s.1 t.1)

  agree_then : {l r : ℕ} {m₁ m₂ u v : List ℕ} {s₁ s₂ : Derived node (node l)} (t₁ t₂ : Derived node (node r)) → (Conflict node (Then l r) → ⊥)
      → Agree node (node l) m₁ m₂ s₁ s₂ → m₁ ≡ t₁.0 ++ u → m₂ ≡ t₂.0 ++ v
      → (t₁.0 ++ u ≡ t₂.0 ++ v → Agree node (node r) u v t₁ t₂) → Agree node (Then l r) u v (joined s₁ t₁) (joined s₂ t₂)
  agree_then {s₁ = s} t₁ t₂ clear agree_same p q rest = agree_as (joined s) (λ k. s_then_right (derives_productive s.1)) (rest (sym p ∙ q))
  agree_then t₁ t₂ clear (agree_left h) p q rest = agree_short clear h t₁.0 p (derives_opens t₁.1)
  agree_then t₁ t₂ clear (agree_right h) p q rest = agree_swap (agree_short clear h t₂.0 q (derives_opens t₂.1))

  agree_ended : {top : Node} {s t : Derived node top} → Agree node top [] [] s t → s ≡ t
  agree_ended agree_same = refl

  -- runs being a set, derivations of one run that are equal with their runs are equal
  equal_beside : {top : Node} {xs : List ℕ} (d e : Derives node top xs) → Path (Derived node top) (xs, d) (xs, e) → d ≡ e
  equal_beside {top} {xs} d e p =
      subst (λ (q : xs ≡ xs). PathP (λ i. Derives node top (q i)) d e) (is_set ℕ_set xs xs (λ i. (p i).0) refl) (λ i. (p i).1)

  agree_behind : {top : Node} {k : ℕ} {u : List ℕ} {s t : Derived node top} → Agree node top (k ∷ u) [] s t → Snf node top k
  agree_behind (agree_left h) = h

module _ {node : ℕ → Node} (none : (n : ℕ) → Conflict node (node n) → ⊥) where
  agree : {top : Node} {xs ys : List ℕ} (u v : List ℕ) → (Conflict node top → ⊥) → (d : Derives node top xs) (e : Derives node top ys)
      → xs ++ u ≡ ys ++ v → Agree node top u v (xs, d) (ys, e)
  agree u v clear d_empty d_empty same = rw same agree_same
  agree u v clear d_token d_token same = rw (tail-eq_of_cons-eq same) agree_same
  agree u v clear (d_left d) (d_left e) same =
      agree_as (λ s. (s.0, d_left s.1)) (λ k. s_left) (agree u v (none _) d e same)
  agree u v clear (d_left {xs = xs} d) (d_right {xs = ys} e) same = agree_sides clear xs ys same (derives_opens d) (derives_opens e)
  agree u v clear (d_right {xs = xs} d) (d_left {xs = ys} e) same =
      agree_swap (agree_sides clear ys xs (sym same) (derives_opens e) (derives_opens d))
  agree u v clear (d_right d) (d_right e) same =
      agree_as (λ s. (s.0, d_right s.1)) (λ k. s_right) (agree u v (none _) d e same)
  agree u v clear (d_then {xs = xs₁} {ys = ys₁} d d') (d_then {xs = xs₂} {ys = ys₂} e e') same =
      agree_then (ys₁, d') (ys₂, e') clear
      (agree (ys₁ ++ u) (ys₂ ++ v) (none _) d e (sym (append_assoc xs₁ ys₁ u) ∙ same ∙ append_assoc xs₂ ys₂ v))
      refl refl (λ rest. agree u v (none _) d' e' rest)
  agree u v clear (d_tagged d) (d_tagged e) same =
      agree_as (λ s. (s.0, d_tagged s.1)) (λ k. s_tagged) (agree u v (none _) d e same)
  agree u v clear (d_ref d) (d_ref e) same =
      agree_as (λ s. (s.0, d_ref s.1)) (λ k. s_ref) (agree u v (none _) d e same)

-- the only derivation there is, from a node of a passed book
pub derivation_unique : {b : Book} → Passes b → (n : ℕ) {xs : List ℕ} (d e : Derives b.node (b.node n) xs) → d ≡ e
derivation_unique p n d e = equal_beside d e (agree_ended (agree p.no_conflict [] [] (p.no_conflict n) d e refl))

-- at a node of a passed book SNF is exactly what takes a run on to a longer one
pub snf_iff : {b : Book} → Passes b → (n : ℕ) {k : ℕ} → Snf b.node (b.node n) k ↔ Extends b.node (b.node n) k
snf_iff p n {k} = (
  snf_extends,
  (λ h.
      let behind = sym (append-nil (h.shorter ++ (k ∷ h.rest))) in
      agree_behind (agree p.no_conflict (k ∷ h.rest) [] (p.no_conflict n) h.derives_shorter h.derives_longer behind)),
)
