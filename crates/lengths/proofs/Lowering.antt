-- Measures that fall: a measure below the cap has a run that measures no more, a table that is closed has no measure above that of a run,
-- and so a table that is both has the least measures.
use Prim.Native.Nat.{ℕ, zero, suc, ◌≤◌, ◌<◌}
use native.Mathlib.Omega.{arith}
use native.Mathlib.Decide.{ℕ_discrete, dec_lt}
use mathlib.Core.Path.{◌≡◌, refl, sym, subst}
use mathlib.Core.Bool.{Bool, true, false, true≢false}
use mathlib.Core.List.{List, [], ◌∷◌, ◌++◌}
use mathlib.Core.Logic.{◌⊎◌, inl, inr, ⊎_elim, ◌≢◌}
use lib.ListN.{length, get_or, set, length-set, replicate, length-replicate}
use lib.Seq.{get_or-set_same, get_or-set_other}
use Rattle.book.specs.declared.Node.{Node}
use Rattle.book.specs.declared.Node.TheVariants.{Fail, Empty, Token, Either, Then, Tagged, Ref}
use Rattle.grammar.specs.Derivations.{Derives, d_empty, d_token, d_left, d_right, d_then, d_tagged, d_ref}
use Rattle.rules.specs.Growth.{total, GoneOn, went_down, Sound, Grown, Visited}
use Rattle.rules.proofs.Growing.{total-set, Settling}
use Rattle.lengths.specs.Measures.{FittingLaws}
use Rattle.lengths.specs.Falling.{measure_at, measure_by, at_most, Some, SomeAt, NoMore, AllCap, Fresh, AllLowered, Leasts}
use Rattle.lengths.proofs.Cutting.{smaller-left, smaller_right, smaller_one}
use Rattle.lengths.proofs.Kinded.{Fitting, head_fits}

-- ---- tables

-- within a list it does not matter what stands beyond it
pub get_d_within : (list : List ℕ) (i a b : ℕ) → i < length list → get_or list i a ≡ get_or list i b
get_d_within [] i a b inside = absurd (omega arith)
get_d_within (n ∷ list) zero a b inside = refl
get_d_within (n ∷ list) (suc i) a b inside = get_d_within list i a b (omega arith)

pub all_cap : (cap n : ℕ) → AllCap cap n (replicate n cap)
all_cap cap n = record { long = omega (arith, length-replicate {A = ℕ} n cap); caps = caps n }
  where
    caps : (n i : ℕ) → get_or {A = ℕ} (replicate n cap) i cap ≡ cap
    caps zero i = refl
    caps (suc n) zero = refl
    caps (suc n) (suc i) = caps n i

pub all_cap_less : {cap less least : ℕ} {table : List ℕ} → less ≤ least → AllCap cap least table → AllCap cap less table
all_cap_less {less = less} {least = least} l caps = record { long = omega (arith, caps.long); caps = caps.caps }

-- the same of lengths
pub fresh_caps : (n : ℕ) → Fresh n (replicate n 65536)
fresh_caps n = all_cap 65536 n

pub fresh_less : {less least : ℕ} {lengths : List ℕ} → less ≤ least → Fresh least lengths → Fresh less lengths
fresh_less l fresh = all_cap_less l fresh

-- a table of caps tells nothing
pub caps_sound : {cap least : ℕ} {size : List ℕ → ℕ} {node : ℕ → Node} {table : List ℕ} → AllCap cap least table
    → Sound (at_most cap) (SomeAt cap size node) table
caps_sound caps = record { by = λ n k told. record { some = λ below. absurd (omega (arith, caps.caps n, told)) } }

-- measures that have changed have a smaller sum
pub changed_less : {cap : ℕ} {By : ℕ → ℕ → Type 0} {before after : List ℕ} {changed : Bool} → Grown (at_most cap) By before after changed
    → changed ≡ true → total after < total before
changed_less grown changed = less (grown.gone_on changed)
  where
    less : {before after : ℕ} → GoneOn false before after → after < before
    less (went_down l) = l

module _ {cap : ℕ} {token : ℕ → ℕ} {joined : ℕ → ℕ → ℕ} {size : List ℕ → ℕ} (laws : FittingLaws cap token joined size) where
  -- ---- a measure has a run that measures no more

  module _ {node : ℕ → Node} {by : ℕ → ℕ} (fitting : Fitting laws.fits node) (some : (n : ℕ) → by n < cap → Some size node (node n) (by n)) where
    -- a run of a node that a number has
    some_of : (n k : ℕ) → by n ≤ k → k < cap → Some size node (node n) k
    some_of n k told below =
        let own = some n (omega arith) in
        record { run = own.run; derived = own.derived; small = omega (arith, own.small) }

    pub has_run : (at : Node) (k : ℕ) → measure_by cap token joined at by ≤ k → k < cap → Some size node at k
    has_run Fail k told below = absurd (omega arith)
    has_run Empty k told below = record { run = []; derived = d_empty; small = omega (arith, laws.empty_is) }
    has_run (Token j) k told below = record { run = j ∷ []; derived = d_token; small = omega (arith, laws.token_is j, told) }
    has_run (Either l r) k told below =
        ⊎_elim
        (λ is. let s = some_of l k (omega (arith, is, told)) below in record { run = s.run; derived = d_left s.derived; small = s.small })
        (λ is. let s = some_of r k (omega (arith, is, told)) below in record { run = s.run; derived = d_right s.derived; small = s.small })
        (smaller_one (by l) (by r))
    has_run (Then l r) k told below =
        let sum : joined (by l) (by r) ≤ k =
        ⊎_elim (λ is. omega (arith, is, told)) (λ is. absurd (omega (arith, is, told, below))) (smaller_one (joined (by l) (by r)) cap) in
        let inside = laws.below (by l) (by r) (omega (arith, sum, below)) in
        let one = some l inside.0 in
        let other = some r inside.1 in
        record {
          run = one.run ++ other.run;
          derived = d_then one.derived other.derived;
          small = omega (
            arith,
            laws.joined_is one.run other.run (head_fits laws fitting r other.derived),
            laws.grows (size one.run) (size other.run) (by l) (by r) one.small other.small,
            sum,
          );
        }
    has_run (Tagged l t) k told below =
        let s = some_of l k told below in record { run = s.run; derived = d_tagged s.derived; small = s.small }
    has_run (Ref l) k told below =
        let s = some_of l k told below in record { run = s.run; derived = d_ref s.derived; small = s.small }

  -- ---- no run measures less

  module _ {node : ℕ → Node} {count : ℕ} {table : List ℕ} (fitting : Fitting laws.fits node) (beyond : (n : ℕ) → count ≤ n → node n ≡ Fail)
      (closed : (n : ℕ) → n < count → NoMore cap token joined node table n) where
    -- a node that derives a run is below the count
    deriving_below : (n : ℕ) {run : List ℕ} → Derives node (node n) run → n < count
    deriving_below n {run} d = at (dec_lt n count)
      where
        nothing : Derives node Fail run → ⊥
        nothing = elim [ ]

        at : Dec (n < count) → n < count
        at (yes below) = below
        at (no past) = absurd (nothing (subst (λ x. Derives node x run) (beyond n (omega arith)) d))

    closed_at : (n k : ℕ) {run : List ℕ} → Derives node (node n) run → measure_by cap token joined (node n) (measure_at cap table) ≤ k
        → measure_at cap table n ≤ k
    closed_at n k d given = omega (arith, (closed n (deriving_below n d)).no_more, given)

    pub given_none_less : {at : Node} {run : List ℕ} → Derives node at run → measure_by cap token joined at (measure_at cap table) ≤ size run
    given_none_less d_empty = omega arith
    given_none_less (d_token {k = k}) = omega (arith, laws.token_is k)
    given_none_less (d_left {l = l} {r = r} {xs = xs} d) =
        omega (arith, smaller-left (measure_at cap table l) (measure_at cap table r), closed_at l (size xs) d (given_none_less d))
    given_none_less (d_right {l = l} {r = r} {xs = xs} d) =
        omega (arith, smaller_right (measure_at cap table l) (measure_at cap table r), closed_at r (size xs) d (given_none_less d))
    given_none_less (d_then {l = l} {r = r} {xs = xs} {ys = ys} d e) =
        let left = closed_at l (size xs) d (given_none_less d) in
        let right = closed_at r (size ys) e (given_none_less e) in
        omega (
          arith,
          smaller-left (joined (measure_at cap table l) (measure_at cap table r)) cap,
          laws.grows (measure_at cap table l) (measure_at cap table r) (size xs) (size ys) left right,
          laws.joined_is xs ys (head_fits laws fitting r e),
        )
    given_none_less (d_tagged {l = l} {xs = xs} d) = closed_at l (size xs) d (given_none_less d)
    given_none_less (d_ref {l = l} {xs = xs} d) = closed_at l (size xs) d (given_none_less d)

    -- a sound and closed table has the least measures
    pub leasts_are : Sound (at_most cap) (SomeAt cap size node) table → ((n : ℕ) → measure_at cap table n ≤ cap) → Leasts cap size node table
    leasts_are sound capped = record {
      capped = capped;
      some = λ n below. (sound.by n (measure_at cap table n) (omega arith)).some below;
      none_less = λ n run d. closed_at n (size run) d (given_none_less d);
    }

  -- ---- visits

  module _ {node : ℕ → Node} {table : List ℕ} {n : ℕ} where
    -- a measure no greater than that by its left and right is kept
    pub kept_closed : {new : ℕ} {at : Node} → at ≡ node n → new ≡ measure_by cap token joined at (measure_at cap table)
        → measure_at cap table n ≤ new → NoMore cap token joined node table n
    kept_closed read is no_more = record { no_more = rw (← read) (omega (arith, is, no_more)) }

    -- a smaller one takes its place
    module _ {new : ℕ} {at : Node} (fitting : Fitting laws.fits node) (read : at ≡ node n) (is : new ≡ measure_by cap token joined at (measure_at cap table))
        (sound : Sound (at_most cap) (SomeAt cap size node) table) (inside : n < length table) (less : new < measure_at cap table n) where
      own : (i : ℕ) → measure_at cap table i < cap → Some size node (node i) (measure_at cap table i)
      own i below = (sound.by i (measure_at cap table i) (omega arith)).some below

      here : measure_at cap (set table n new) n ≡ new
      here = get_or-set_same table n new cap inside

      other : (m : ℕ) → m ≢ n → measure_at cap (set table n new) m ≡ measure_at cap table m
      other m differ = get_or-set_other table n m new cap differ

      keeps : (m k : ℕ) → Dec (m ≡ n) → measure_at cap table m ≤ k → measure_at cap (set table n new) m ≤ k
      keeps m k (yes e) told =
          let before : measure_at cap table n ≤ k = rw e at told in
          rw (e, here) (omega (arith, less, before))
      keeps m k (no f) told = rw (other m f) told

      adds : (m k : ℕ) → Dec (m ≡ n) → measure_at cap (set table n new) m ≤ k → (measure_at cap table m ≤ k) ⊎ SomeAt cap size node m k
      adds m k (yes e) told =
          let after : new ≤ k = rw (e, here) at told in
          inr (record { some = λ below. rw e (rw (sym read) (has_run fitting own at k (rw is at after) below)) })
      adds m k (no f) told = inl (rw (other m f) at told)

      pub visit_lowers : Visited (at_most cap) (SomeAt cap size node) (NoMore cap token joined node) n table (set table n new) true
      visit_lowers = record {
        grown = record {
          long = length-set table n new;
          keeps = λ m k. keeps m k (ℕ_discrete m n);
          adds = λ m k. adds m k (ℕ_discrete m n);
          still = λ e. absurd (true≢false e);
          gone_on = λ e.
              went_down {before = total table} {after = total (set table n new)}
              (omega (arith, total-set table n new inside, get_d_within table n cap 0 inside, less));
        };
        closed = λ still. absurd (true≢false still);
      }

  -- ---- turns

  -- after a turn over measures that fell from the cap, each with a run that measures no more, which changed nothing, they are the least
  pub turned_leasts : {node : ℕ → Node} {count : ℕ} {fresh before after : List ℕ} {changed : Bool}
      → Fitting laws.fits node → ((n : ℕ) → count ≤ n → node n ≡ Fail) → AllCap cap count fresh → Settling (at_most cap) (SomeAt cap size node) fresh before
      → AllLowered cap token joined size node count before after changed → changed ≡ false → Leasts cap size node after
  turned_leasts {node} {count} {fresh} {before} fitting beyond caps settling turned unchanged =
      rw (turned.grown.still unchanged)
      (leasts_are fitting beyond (turned.closed unchanged) settling.sound (λ n. settling.keeps n cap (omega (arith, caps.caps n))))
