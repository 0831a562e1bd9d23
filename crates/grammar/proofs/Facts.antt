-- What the rules' facts say of runs: nullable iff the empty run is derived, productive iff some run is, a kind in FIRST iff a run that
-- begins with it is; a kind that should not follow goes on from a run derived to a longer one.
use Prim.Native.Nat.{ℕ}
use mathlib.Core.List.{List, [], ◌∷◌, ◌++◌, append-nil, append_assoc}
use mathlib.Core.Logic.{◌↔◌}
use Rattle.book.specs.declared.Node.{Node}
use Rattle.book.specs.declared.Node.TheVariants.{Then}
use Rattle.grammar.specs.Rules.{Productive, p_empty, p_token, p_left, p_right, p_then, p_tagged, p_ref}
use Rattle.grammar.specs.Rules.{Nullable, n_empty, n_left, n_right, n_then, n_tagged, n_ref}
use Rattle.grammar.specs.Rules.{First, f_token, f_left, f_right, f_hold, f_skip, f_tagged, f_ref}
use Rattle.grammar.specs.Rules.{Snf, s_left, s_right, s_first_left, s_first_right, s_then_left, s_then_right, s_tagged, s_ref}
use Rattle.grammar.specs.Derivations.{Derives, d_empty, d_token, d_left, d_right, d_then, d_tagged, d_ref, Extends}

-- how a run that a node derives begins: the node is nullable if it does not, else the first kind is in FIRST
abbrev pub Opens : (ℕ → Node) → Node → List ℕ → Type 0
Opens node top [] = Nullable node top
Opens node top (k ∷ xs) = First node top k

module _ {node : ℕ → Node} where
  pub nullable_productive : {top : Node} → Nullable node top → Productive node top
  nullable_productive n_empty = p_empty
  nullable_productive (n_left a) = p_left (nullable_productive a)
  nullable_productive (n_right a) = p_right (nullable_productive a)
  nullable_productive (n_then a b) = p_then (nullable_productive a) (nullable_productive b)
  nullable_productive (n_tagged a) = p_tagged (nullable_productive a)
  nullable_productive (n_ref a) = p_ref (nullable_productive a)

  pub first_productive : {top : Node} {k : ℕ} → First node top k → Productive node top
  first_productive f_token = p_token
  first_productive (f_left d) = p_left (first_productive d)
  first_productive (f_right d) = p_right (first_productive d)
  first_productive (f_hold d p) = p_then (first_productive d) p
  first_productive (f_skip a d) = p_then (nullable_productive a) (first_productive d)
  first_productive (f_tagged d) = p_tagged (first_productive d)
  first_productive (f_ref d) = p_ref (first_productive d)

  pub nullable_derives_empty : {top : Node} → Nullable node top → Derives node top []
  nullable_derives_empty n_empty = d_empty
  nullable_derives_empty (n_left a) = d_left (nullable_derives_empty a)
  nullable_derives_empty (n_right a) = d_right (nullable_derives_empty a)
  nullable_derives_empty (n_then a b) = d_then (nullable_derives_empty a) (nullable_derives_empty b)
  nullable_derives_empty (n_tagged a) = d_tagged (nullable_derives_empty a)
  nullable_derives_empty (n_ref a) = d_ref (nullable_derives_empty a)

  pub productive_derives : {top : Node} → Productive node top → (xs : List ℕ) × Derives node top xs
  productive_derives p_empty = ([], d_empty)
  productive_derives (p_token {k}) = (k ∷ [], d_token)
  productive_derives (p_left p) = let s = productive_derives p in (s.0, d_left s.1)
  productive_derives (p_right p) = let s = productive_derives p in (s.0, d_right s.1)
  productive_derives (p_then p q) =
      let s = productive_derives p in
      let t = productive_derives q in
      (s.0 ++ t.0, d_then s.1 t.1)
  productive_derives (p_tagged p) = let s = productive_derives p in (s.0, d_tagged s.1)
  productive_derives (p_ref p) = let s = productive_derives p in (s.0, d_ref s.1)

  pub derives_productive : {top : Node} {xs : List ℕ} → Derives node top xs → Productive node top
  derives_productive d_empty = p_empty
  derives_productive d_token = p_token
  derives_productive (d_left d) = p_left (derives_productive d)
  derives_productive (d_right d) = p_right (derives_productive d)
  derives_productive (d_then d e) = p_then (derives_productive d) (derives_productive e)
  derives_productive (d_tagged d) = p_tagged (derives_productive d)
  derives_productive (d_ref d) = p_ref (derives_productive d)

  pub first_derives : {top : Node} {k : ℕ} → First node top k → (xs : List ℕ) × Derives node top (k ∷ xs)
  first_derives f_token = ([], d_token)
  first_derives (f_left d) = let s = first_derives d in (s.0, d_left s.1)
  first_derives (f_right d) = let s = first_derives d in (s.0, d_right s.1)
  first_derives (f_hold d p) =
      let s = first_derives d in
      let t = productive_derives p in
      (s.0 ++ t.0, d_then s.1 t.1)
  first_derives (f_skip a d) =
      let s = first_derives d in
      (s.0, d_then (nullable_derives_empty a) s.1)
  first_derives (f_tagged d) = let s = first_derives d in (s.0, d_tagged s.1)
  first_derives (f_ref d) = let s = first_derives d in (s.0, d_ref s.1)

  extends_as : {a b : Node} {k : ℕ} → ((xs : List ℕ) → Derives node a xs → Derives node b xs) → Extends node a k → Extends node b k
  extends_as f h = record {
    shorter = h.shorter;
    rest = h.rest;
    derives_shorter = f _ h.derives_shorter;
    derives_longer = f _ h.derives_longer;
  }

  extends_empty : {top : Node} {k : ℕ} → Derives node top [] → (xs : List ℕ) × Derives node top (k ∷ xs) → Extends node top k
  extends_empty d e = record { shorter = []; rest = e.0; derives_shorter = d; derives_longer = e.1 }

  pub snf_extends : {top : Node} {k : ℕ} → Snf node top k → Extends node top k
  snf_extends (s_left h) = extends_as (λ xs. d_left) (snf_extends h)
  snf_extends (s_right h) = extends_as (λ xs. d_right) (snf_extends h)
  snf_extends (s_first_left d b) = let s = first_derives d in extends_empty (d_right (nullable_derives_empty b)) (s.0, d_left s.1)
  snf_extends (s_first_right a d) = let s = first_derives d in extends_empty (d_left (nullable_derives_empty a)) (s.0, d_right s.1)
  snf_extends (s_then_left {l} {r} h b) =
      let e = nullable_derives_empty b in
      extends_as (λ xs d. rw (append-nil xs) at (d_then {l = l} {r = r} d e)) (snf_extends h)
  snf_extends (s_then_right {k = k} p h) =
      let s = productive_derives p in
      let t = snf_extends h in
      record {
        shorter = s.0 ++ t.shorter;
        rest = t.rest;
        derives_shorter = d_then s.1 t.derives_shorter;
        derives_longer = rw (append_assoc s.0 t.shorter (k ∷ t.rest)) (d_then s.1 t.derives_longer);
      }
  snf_extends (s_tagged h) = extends_as (λ xs. d_tagged) (snf_extends h)
  snf_extends (s_ref h) = extends_as (λ xs. d_ref) (snf_extends h)

  -- a kind in FIRST of a nullable node should not follow it
  pub nullable_first_snf : {top : Node} {k : ℕ} → Nullable node top → First node top k → Snf node top k
  nullable_first_snf {k = k} n_empty x3 = elim x3 [ ]
  nullable_first_snf (n_left a) (f_left d) = s_left (nullable_first_snf a d)
  nullable_first_snf (n_left a) (f_right d) = s_first_right a d
  nullable_first_snf (n_right a) (f_left d) = s_first_left d a
  nullable_first_snf (n_right a) (f_right d) = s_right (nullable_first_snf a d)
  nullable_first_snf (n_then a b) (f_hold d p) = s_then_left (nullable_first_snf a d) b
  nullable_first_snf (n_then a b) (f_skip c d) = s_then_right (nullable_productive a) (nullable_first_snf b d)
  nullable_first_snf (n_tagged a) (f_tagged d) = s_tagged (nullable_first_snf a d)
  nullable_first_snf (n_ref a) (f_ref d) = s_ref (nullable_first_snf a d)

  opens_as : {a b : Node} (xs : List ℕ) → (Nullable node a → Nullable node b) → ((k : ℕ) → First node a k → First node b k)
      → Opens node a xs → Opens node b xs
  opens_as [] f g o = f o
  opens_as (k ∷ xs) f g o = g k o

  opens_then : (l r : ℕ) (xs ys : List ℕ) → Productive node (node r) → Opens node (node l) xs → Opens node (node r) ys
      → Opens node (Then l r) (xs ++ ys)
  opens_then l r [] [] p o q = n_then o q
  opens_then l r [] (k ∷ ys) p o q = f_skip o q
  opens_then l r (k ∷ xs) ys p o q = f_hold o p

  pub derives_opens : {top : Node} {xs : List ℕ} → Derives node top xs → Opens node top xs
  derives_opens d_empty = n_empty
  derives_opens d_token = f_token
  derives_opens (d_left {xs = xs} d) = opens_as xs n_left (λ k. f_left) (derives_opens d)
  derives_opens (d_right {xs = xs} d) = opens_as xs n_right (λ k. f_right) (derives_opens d)
  derives_opens (d_then {l} {r} {xs} {ys} d e) = opens_then l r xs ys (derives_productive e) (derives_opens d) (derives_opens e)
  derives_opens (d_tagged {xs = xs} d) = opens_as xs n_tagged (λ k. f_tagged) (derives_opens d)
  derives_opens (d_ref {xs = xs} d) = opens_as xs n_ref (λ k. f_ref) (derives_opens d)

  pub nullable_iff : {top : Node} → Nullable node top ↔ Derives node top []
  nullable_iff = (nullable_derives_empty, derives_opens)

  pub productive_iff : {top : Node} → Productive node top ↔ ((xs : List ℕ) × Derives node top xs)
  productive_iff = (productive_derives, λ s. derives_productive s.1)

  pub first_iff : {top : Node} {k : ℕ} → First node top k ↔ ((xs : List ℕ) × Derives node top (k ∷ xs))
  first_iff = (first_derives, λ s. derives_opens s.1)
