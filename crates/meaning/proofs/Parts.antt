-- Derivations with what follows them: a part that begins with a kind, with the run and the records before and after it, and parts held
-- one behind the other. These are the same as derivations and their trees.
use Prim.Native.Nat.{ℕ}
use mathlib.Core.Path.{◌≡◌, refl, ap, ◌∙◌}
use mathlib.Core.List.{List, [], ◌∷◌, ◌++◌, append-nil, append_assoc}
use Rattle.book.specs.declared.Node.{Node}
use Rattle.book.specs.declared.Node.TheVariants.{Token, Either, Then, Tagged, Ref}
use Rattle.grammar.specs.Rules.{Nullable, n_empty, n_left, n_right, n_then, n_tagged, n_ref}
use Rattle.running.specs.Running.{emptied}
use Rattle.grammar.specs.Derivations.{Derives, d_empty, d_token, d_left, d_right, d_then, d_tagged, d_ref}
use Rattle.meaning.specs.Meaning.{part_records, parts, tree}
use Rattle.grammar.proofs.Facts.{nullable_derives_empty, derives_opens}

-- the node of a number derives a run that begins with a kind: behind the kind stands the rest of that run and then a rest, and the
-- records are its own and then others
pub data Part (node : ℕ → Node) : ℕ → Node → ℕ → List ℕ → List ℕ → List ℕ → List ℕ → Type 0 where
  part_token : {n k : ℕ} {ys qs : List ℕ} → Part node n (Token k) k ys ys (n ∷ qs) qs
  part_left : {n l r k : ℕ} {zs ys ps qs : List ℕ} → Part node l (node l) k zs ys ps qs → Part node n (Either l r) k zs ys (n ∷ ps) qs
  part_right : {n l r k : ℕ} {zs ys ps qs : List ℕ} → Part node r (node r) k zs ys ps qs → Part node n (Either l r) k zs ys (n ∷ ps) qs
  part_alone : {n l r k : ℕ} {zs ys ps qs : List ℕ} → Part node l (node l) k zs ys ps (emptied r ∷ qs) → Nullable node (node r)
      → Part node n (Then l r) k zs ys (n ∷ ps) qs
  part_both : {n l r k j : ℕ} {zs ms ys ps rs qs : List ℕ} → Part node l (node l) k zs (j ∷ ms) ps rs → Part node r (node r) j ms ys rs qs
      → Part node n (Then l r) k zs ys (n ∷ ps) qs
  part_skip : {n l r k : ℕ} {zs ys ps qs : List ℕ} → Nullable node (node l) → Part node r (node r) k zs ys ps qs
      → Part node n (Then l r) k zs ys (n ∷ emptied l ∷ ps) qs
  part_tagged : {n l t k : ℕ} {zs ys ps qs : List ℕ} → Part node l (node l) k zs ys ps qs → Part node n (Tagged l t) k zs ys (n ∷ ps) qs
  part_ref : {n l k : ℕ} {zs ys ps qs : List ℕ} → Part node l (node l) k zs ys ps qs → Part node n (Ref l) k zs ys (n ∷ ps) qs

-- the parts held derive a run in turn, with these records
pub data Held (node : ℕ → Node) : List ℕ → List ℕ → List ℕ → Type 0 where
  held_end : Held node [] [] []
  held_none : {n : ℕ} {h zs ps : List ℕ} → Nullable node (node n) → Held node h zs ps → Held node (n ∷ h) zs (emptied n ∷ ps)
  held_some : {n k : ℕ} {h zs ys ps qs : List ℕ} → Part node n (node n) k zs ys ps qs → Held node h ys qs → Held node (n ∷ h) (k ∷ zs) ps

-- a derivation with what follows it: the node is nullable if no event is taken, else it is a part
abbrev Shows : (ℕ → Node) → ℕ → Node → List ℕ → List ℕ → Type 0
Shows node n top [] below = Nullable node top
Shows node n top (k ∷ xs) below = (ys qs : List ℕ) → Part node n top k (xs ++ ys) ys (n ∷ (below ++ qs)) qs

-- a part is a derivation of a run that begins with its kind
pub record Derived (node : ℕ → Node) (n : ℕ) (top : Node) (k : ℕ) (zs ys ps qs : List ℕ) : Type 0 where
  pub run : List ℕ
  pub derivation : Derives node top (k ∷ run)
  pub run_is : zs ≡ run ++ ys
  pub records_are : ps ≡ n ∷ (parts derivation ++ qs)

shows_then : (node : ℕ → Node) (n l r : ℕ) (xs ys below beside : List ℕ) → Shows node l (node l) xs below → Shows node r (node r) ys beside
    → Shows node n (Then l r) (xs ++ ys) (part_records l xs below ++ part_records r ys beside)
unfolding part_records
shows_then node n l r [] [] below beside o q = n_then o q
shows_then node n l r [] (k ∷ ys) below beside o q = λ zs rs. part_skip o (q zs rs)
shows_then node n l r (k ∷ xs) [] below beside o q =
    λ zs rs. rw (append-nil xs, append_assoc below (emptied r ∷ []) rs) (part_alone (o zs (emptied r ∷ rs)) q)
shows_then node n l r (k ∷ xs) (j ∷ ys) below beside o q =
    λ zs rs. rw (append_assoc xs (j ∷ ys) zs, append_assoc below (r ∷ beside) rs) (part_both (o (j ∷ (ys ++ zs)) (r ∷ (beside ++ rs))) (q zs rs))

module _ {node : ℕ → Node} where
  shows_as : (n m : ℕ) {a b : Node} (xs below : List ℕ) → (Nullable node a → Nullable node b)
      → ((k : ℕ) (zs ys ps qs : List ℕ) → Part node m a k zs ys ps qs → Part node n b k zs ys (n ∷ ps) qs)
      → Shows node m a xs below → Shows node n b xs (part_records m xs below)
  unfolding part_records
  shows_as n m [] below f g o = f o
  shows_as n m (k ∷ xs) below f g o = λ ys qs. g k _ _ _ _ (o ys qs)

  derives_shows : {top : Node} {xs : List ℕ} (n : ℕ) (d : Derives node top xs) → Shows node n top xs (parts d)
  unfolding parts
  derives_shows n d_empty = n_empty
  derives_shows n d_token = λ ys qs. part_token
  derives_shows n (d_left {l} {xs = xs} d) = shows_as n l xs (parts d) n_left (λ k zs ys ps qs. part_left) (derives_shows l d)
  derives_shows n (d_right {r = r} {xs = xs} d) = shows_as n r xs (parts d) n_right (λ k zs ys ps qs. part_right) (derives_shows r d)
  derives_shows n (d_then {l} {r} {xs} {ys} d e) = shows_then node n l r xs ys (parts d) (parts e) (derives_shows l d) (derives_shows r e)
  derives_shows n (d_tagged {l} {xs = xs} d) = shows_as n l xs (parts d) n_tagged (λ k zs ys ps qs. part_tagged) (derives_shows l d)
  derives_shows n (d_ref {l} {xs = xs} d) = shows_as n l xs (parts d) n_ref (λ k zs ys ps qs. part_ref) (derives_shows l d)

  -- a derivation before parts held
  pub derives_before : (n : ℕ) (xs : List ℕ) (d : Derives node (node n) xs) {h ys qs : List ℕ} → Held node h ys qs
      → Held node (n ∷ h) (xs ++ ys) (tree n d ++ qs)
  unfolding tree part_records
  derives_before n [] d h = held_none (derives_opens d) h
  derives_before n (k ∷ xs) d h = held_some (derives_shows n d _ _) h

  pub derives_held : {n : ℕ} {xs : List ℕ} (d : Derives node (node n) xs) → Held node (n ∷ []) xs (tree n d)
  derives_held {n} {xs} d = rw (append-nil xs, append-nil (tree n d)) at (derives_before n xs d held_end)

  pub part_derives : {n : ℕ} {top : Node} {k : ℕ} {zs ys ps qs : List ℕ} → Part node n top k zs ys ps qs → Derived node n top k zs ys ps qs
  unfolding parts part_records
  part_derives part_token = record { run = []; derivation = d_token; run_is = refl; records_are = refl }
  part_derives {n} (part_left p) =
      let s = part_derives p in
      record { run = s.run; derivation = d_left s.derivation; run_is = s.run_is; records_are = ap (λ (x : List ℕ). n ∷ x) s.records_are }
  part_derives {n} (part_right p) =
      let s = part_derives p in
      record { run = s.run; derivation = d_right s.derivation; run_is = s.run_is; records_are = ap (λ (x : List ℕ). n ∷ x) s.records_are }
  part_derives {n} {qs = qs} (part_alone {r = r} {ys = ys} p a) =
      let s = part_derives p in
      record {
        run = s.run ++ [];
        derivation = d_then s.derivation (nullable_derives_empty a);
        run_is = rw append-nil s.run_is;
        records_are = rw (append_assoc (parts s.derivation) (emptied r ∷ []) qs) (ap (λ (x : List ℕ). n ∷ x) s.records_are);
      }
  part_derives {n} {ys = ys} {qs = qs} (part_both {l = l} {r} {j = j} p q) =
      let s = part_derives p in
      let t = part_derives q in
      record {
        run = s.run ++ (j ∷ t.run);
        derivation = d_then s.derivation t.derivation;
        run_is = rw (append_assoc s.run (j ∷ t.run) ys) (s.run_is ∙ ap (λ (x : List ℕ). s.run ++ (j ∷ x)) t.run_is);
        records_are =
            rw (append_assoc (parts s.derivation) (r ∷ parts t.derivation) qs)
            (ap (λ (x : List ℕ). n ∷ x) (s.records_are ∙ ap (λ (x : List ℕ). l ∷ (parts s.derivation ++ x)) t.records_are));
      }
  part_derives {n} (part_skip {l = l} a p) =
      let s = part_derives p in
      record { run = s.run; derivation = d_then (nullable_derives_empty a) s.derivation; run_is = s.run_is; records_are = ap (λ (x : List ℕ). n ∷ emptied l ∷ x) s.records_are }
  part_derives {n} (part_tagged p) =
      let s = part_derives p in
      record { run = s.run; derivation = d_tagged s.derivation; run_is = s.run_is; records_are = ap (λ (x : List ℕ). n ∷ x) s.records_are }
  part_derives {n} (part_ref p) =
      let s = part_derives p in
      record { run = s.run; derivation = d_ref s.derivation; run_is = s.run_is; records_are = ap (λ (x : List ℕ). n ∷ x) s.records_are }

  pub held_derives : {n : ℕ} {xs ps : List ℕ} → Held node (n ∷ []) xs ps → (d : Derives node (node n) xs) × (ps ≡ tree n d)
  unfolding tree part_records
  held_derives (held_none a held_end) = (nullable_derives_empty a, refl)
  held_derives {n} (held_some {k = k} p held_end) =
      let s = part_derives p in
      rw (s.run_is, append-nil s.run) (s.derivation, s.records_are ∙ rw (append-nil (parts s.derivation)))
