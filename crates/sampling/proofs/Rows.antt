-- Parts due that write a run: one visit, that visits come to an end, and that the parts find room.
use Prim.Native.Nat.{ℕ, zero, suc, ◌+◌, ◌≤◌, ◌<◌}
use native.Mathlib.Omega.{arith}
use borrow.Author.Tests.{ltb-true, ltb-false}
use native.Mathlib.Decide.{dec_lt}
use mathlib.Core.Path.{◌≡◌, refl, sym, ap, ap₂, ◌∙◌, subst}
use mathlib.Core.Bool.{Bool, true, false, cond}
use mathlib.Core.List.{List, [], ◌∷◌, ◌++◌, append-nil, append_assoc}
use lib.Dec.{ltb}
use lib.ListN.{length}
use Rattle.book.specs.declared.Node.{Node}
use Rattle.book.specs.declared.Node.TheVariants.{Fail, Empty, Token, Either, Then, Tagged, Ref}
use Rattle.sampling.specs.Parts.{events_of, due_before, parts_on, sum_over, visits, lighter_than, Fits, fits_none, fits_part}
use Rattle.sampling.specs.Parts.{Lightens, leaves_none, leaves_one, leaves_two, Row, row_none, row_part}

-- ---- parts in front of what is due

due_append : (weight n : ℕ) (xs due : List ℕ) → due_before weight n (xs ++ due) ≡ due_before weight n xs ++ due
due_append weight n xs due = at (ltb weight 64)
  where
    at : (t : Bool) → cond t (xs ++ due) (n ∷ (xs ++ due)) ≡ cond t xs (n ∷ xs) ++ due
    at true = refl
    at false = refl

pub parts_append : (at : Node) (by : ℕ → ℕ) (due : List ℕ) → parts_on at by due ≡ parts_on at by [] ++ due
unfolding parts_on
parts_append Fail by due = refl
parts_append Empty by due = refl
parts_append (Token k) by due = refl
parts_append (Either l r) by due = refl
parts_append (Then l r) by due =
    ap (due_before (by l) l) (due_append (by r) r [] due) ∙ due_append (by l) l (due_before (by r) r []) due
parts_append (Tagged l t) by due = refl
parts_append (Ref l) by due = refl

pub sum-append : (value : ℕ → ℕ) (xs ys : List ℕ) → sum_over value (xs ++ ys) ≡ sum_over value xs + sum_over value ys
unfolding sum_over
sum-append value [] ys = omega arith
sum-append value (x ∷ xs) ys = omega (arith, sum-append value xs ys)

-- ---- rows

-- a part is visited: its events are written, and its parts are due
pub record Visited (node : ℕ → Node) (by : ℕ → ℕ) (count depth n : ℕ) (due run : List ℕ) : Type 0 where
  pub rest : List ℕ
  pub run_is : run ≡ events_of (node n) ++ rest
  pub row : Row node by count (suc depth) (parts_on (node n) by due) rest
  pub fewer : sum_over (visits node by (suc depth)) (parts_on (node n) by due) < sum_over (visits node by (suc depth)) (n ∷ due)
  pub inside : n < count
  pub light : Lightens by count (by n) (parts_on (node n) by [])

module _ {node : ℕ → Node} {by : ℕ → ℕ} {count : ℕ} where
  row_deeper : {depth : ℕ} {due run : List ℕ} → Row node by count depth due run → Row node by count (suc depth) due run
  row_deeper row_none = row_none
  row_deeper (row_part inside light p q) = row_part inside light (row_deeper p) (row_deeper q)

  pub row_append : {depth : ℕ} {due run others rest : List ℕ} → Row node by count depth due run → Row node by count depth others rest
      → Row node by count depth (due ++ others) (run ++ rest)
  row_append row_none q = q
  row_append {rest = rest} (row_part {n = n} {xs = xs} {ys = ys} inside light p q) more =
      rw (append_assoc (events_of (node n)) (xs ++ ys) rest, append_assoc xs ys rest) (row_part inside light p (row_append q more))

  -- deeper, no more visits are made
  row_visits : {depth : ℕ} {due run : List ℕ} → Row node by count depth due run
      → sum_over (visits node by (suc depth)) due ≡ sum_over (visits node by depth) due
  unfolding sum_over visits
  row_visits row_none = refl
  row_visits (row_part inside light p q) = ap₂ ◌+◌ (ap suc (row_visits p)) (row_visits q)

  -- one part alone
  pub row_one : {depth n : ℕ} {at : Node} {run : List ℕ} → node n ≡ at → n < count → Lightens by count (by n) (parts_on at by [])
      → Row node by count depth (parts_on at by []) run → Row node by count (suc depth) (n ∷ []) (events_of at ++ run)
  row_one {depth} {n} {at} {run} is inside light p =
      subst (λ x. Row node by count (suc depth) (n ∷ []) (events_of x ++ run)) is
      (subst (λ xs. Row node by count (suc depth) (n ∷ []) (events_of (node n) ++ xs)) (append-nil run)
      (row_part inside (subst (λ x. Lightens by count (by n) (parts_on x by [])) (sym is) light)
      (subst (λ x. Row node by count depth (parts_on x by []) run) (sym is) p) row_none))

  pub row_visit : {depth n : ℕ} {due run : List ℕ} → Row node by count (suc depth) (n ∷ due) run → Visited node by count depth n due run
  unfolding sum_over visits
  row_visit {depth} {n} {due} (row_part {xs = xs} {ys = ys} inside light p q) = record {
    rest = xs ++ ys;
    run_is = refl;
    row = rw (parts_append (node n) by due) (row_append (row_deeper p) q);
    fewer = less;
    inside = inside;
    light = light;
  }
    where
      less : sum_over (visits node by (suc depth)) (parts_on (node n) by due) < sum_over (visits node by (suc depth)) (n ∷ due)
      less = rw (parts_append (node n) by due) (omega (
        arith,
        sum-append (visits node by (suc depth)) (parts_on (node n) by []) due,
        row_visits p,
      ))

-- ---- room

module _ (by : ℕ → ℕ) where
  lighter_grows : (count v w : ℕ) → v ≤ w → lighter_than by count v ≤ lighter_than by count w
  unfolding lighter_than
  lighter_grows zero v w le = omega arith
  lighter_grows (suc n) v w le = at (ltb (by n) v) refl (ltb (by n) w) refl (lighter_grows n v w le)
    where
      at : (s : Bool) → ltb (by n) v ≡ s → (t : Bool) → ltb (by n) w ≡ t → lighter_than by n v ≤ lighter_than by n w
          → cond s 1 0 + lighter_than by n v ≤ cond t 1 0 + lighter_than by n w
      at true e true f h = omega arith
      at true e false f h = absurd (omega (arith, ltb-true (by n) v e, ltb-false (by n) w f, le))
      at false e true f h = omega arith
      at false e false f h = omega arith

  -- a node between two weights makes the difference
  lighter_more : (count n w : ℕ) → n < count → by n < w → lighter_than by count (by n) < lighter_than by count w
  unfolding lighter_than
  lighter_more zero n w inside less = absurd (omega arith)
  lighter_more (suc m) n w inside less =
      at (dec_lt n m) (λ below. lighter_more m n w below less) (ltb (by m) (by n)) refl (ltb (by m) w) refl
    where
      le : lighter_than by m (by n) ≤ lighter_than by m w
      le = lighter_grows m (by n) w (omega arith)

      at : Dec (n < m) → (n < m → lighter_than by m (by n) < lighter_than by m w) → (s : Bool) → ltb (by m) (by n) ≡ s
          → (t : Bool) → ltb (by m) w ≡ t
          → cond s 1 0 + lighter_than by m (by n) < cond t 1 0 + lighter_than by m w
      at d h true e false f = absurd (omega (arith, ltb-true (by m) (by n) e, ltb-false (by m) w f, less))
      at (yes below) h true e true f = omega (arith, h below)
      at (yes below) h false e true f = omega (arith, h below)
      at (yes below) h false e false f = omega (arith, h below)
      at (no last) h true e true f =
          let is : n ≡ m = omega arith in
          absurd (omega (arith, ltb-true (by m) (by n) e, ap by is))
      at (no last) h false e true f = omega (arith, le)
      at (no last) h false e false f =
          let is : n ≡ m = omega arith in
          absurd (omega (arith, ltb-false (by m) w f, ap by is, less))

  lighter_bound : (count w : ℕ) → lighter_than by count w ≤ count
  unfolding lighter_than
  lighter_bound zero w = omega arith
  lighter_bound (suc n) w = at (ltb (by n) w) (lighter_bound n w)
    where
      at : (t : Bool) → lighter_than by n w ≤ n → cond t 1 0 + lighter_than by n w ≤ suc n
      at true h = omega arith
      at false h = omega arith

  -- one part finds room
  pub fits_one : (count n : ℕ) → n < count → Fits by count (n ∷ [])
  fits_one count n inside =
      fits_part {n = n} {due = []}
      (omega (arith, lighter_more count n (suc (by n)) inside (omega arith), lighter_bound count (suc (by n)))) fits_none

  module _ {count : ℕ} where
    fits_below : {n : ℕ} {due : List ℕ} → Fits by count (n ∷ due) → length due + lighter_than by count (by n) < count
    fits_below (fits_part room rest) = room

    fits_rest : {n : ℕ} {due : List ℕ} → Fits by count (n ∷ due) → Fits by count due
    fits_rest (fits_part room rest) = rest

    -- the parts that a node leaves find room where it did
    fits_more : {n : ℕ} {due parts : List ℕ} → Fits by count (n ∷ due) → Lightens by count (by n) parts → Fits by count (parts ++ due)
    fits_more {n} {due} fits leaves_none = fits_rest fits
    fits_more {n} {due} fits (leaves_one {l} light) =
        fits_part {n = l} {due = due} (omega (arith, fits_below fits, lighter_grows count (by l) (by n) light)) (fits_rest fits)
    fits_more {n} {due} fits (leaves_two {l} {r} inside one other) =
        fits_part {n = l} {due = r ∷ due} (omega (arith, fits_below fits, lighter_more count l (by n) inside one))
        (fits_part {n = r} {due = due} (omega (arith, fits_below fits, lighter_grows count (by r) (by n) (omega arith))) (fits_rest fits))

    pub fits_visit : {node : ℕ → Node} {depth n : ℕ} {due run : List ℕ} → Fits by count (n ∷ due)
        → Visited node by count depth n due run → Fits by count (parts_on (node n) by due)
    fits_visit {node = node} {n = n} {due = due} fits visited =
        subst (Fits by count) (sym (parts_append (node n) by due)) (fits_more fits visited.light)

    -- fewer parts are due than there are nodes
    pub fits_few : {n : ℕ} {due : List ℕ} → Fits by count (n ∷ due) → length due < count
    fits_few fits = omega (arith, fits_below fits)
