-- Laws of a list of numbers that go one way only: one growth after another, the steps of a turn, turns until one changes nothing, what is
-- left for the sum to go on; masks joined with more.
use Prim.Native.Nat.{ℕ, zero, suc, ◌+◌, ◌*◌, ◌-◌, ◌^◌, ◌≤◌, ◌<◌}
use mathlib.Core.Path.{◌≡◌, refl, sym, ap, ◌∙◌, subst, subst₂}
use mathlib.Core.Bool.{Bool, true, false, ◌||◌, true≢false, false≢true}
use mathlib.Core.List.{List, [], ◌∷◌}
use mathlib.Core.Logic.{◌⊎◌, inl, inr, ⊎_elim, ◌≢◌}
use native.Mathlib.Decide.{ℕ_discrete}
use native.Mathlib.Omega.{arith}
use borrow.Author.Tests.{eqb-true, eqb-false, not-true, not-false}
use lib.ListN.{length, get_or, set, length-set, replicate, length-replicate}
use lib.Seq.{get_or-set_same, get_or-set_other, set-get_or}
use lib.Bits.{or_add_and, and_le_r}
use Rattle.words.proofs.Tests.{or_cases}
use Rattle.kinds.specs.Kinds.{Has, joined}
use Rattle.kinds.proofs.Laws.{has_join, none}
use Rattle.rules.specs.Growth.{Told, masks, total, GoneOn, went_up, went_down, Sound, Grown, Visited, Turned}
use Rattle.rules.specs.Growth.{Blank, Joined}
use Rattle.rules.specs.Order.{GivenBy, Order}

-- ---- truth values

pub or_false : (a b : Bool) → (a || b) ≡ false → (a ≡ false) × (b ≡ false)
or_false true b e = absurd (true≢false e)
or_false false b e = (refl, e)

pub or_true : (a : Bool) → (a || true) ≡ true
or_true true = refl
or_true false = refl

-- ---- growth

gone_twice : {up : Bool} {a b c : ℕ} → GoneOn up a b → GoneOn up b c → GoneOn up a c
gone_twice {a = a} {c = c} (went_up p) (went_up q) = went_up {before = a} {after = c} (omega arith)
gone_twice {a = a} {c = c} (went_down p) (went_down q) = went_down {before = a} {after = c} (omega arith)

module _ {told : Told} where
  -- what grows by a rule stays sound
  pub grown_sound : {By : ℕ → ℕ → Type 0} {before after : List ℕ} {changed : Bool}
      → Grown told By before after changed → Sound told By before → Sound told By after
  grown_sound grown sound = record { by = λ i k has. ⊎_elim (sound.by i k) (λ by. by) (grown.adds i k has) }

  pub grown_none : {By : ℕ → ℕ → Type 0} (list : List ℕ) → Grown told By list list false
  grown_none list = record {
    long = refl;
    keeps = λ i k has. has;
    adds = λ i k has. inl has;
    still = λ e. refl;
    gone_on = λ e. absurd (false≢true e);
  }

  -- the sum has gone on or stayed
  sum_kept : {By : ℕ → ℕ → Type 0} {before after : List ℕ} (changed : Bool) → Grown told By before after changed
      → GoneOn told.up (total before) (total after) ⊎ (total before ≡ total after)
  sum_kept true p = inl (p.gone_on refl)
  sum_kept false p = inr (ap total (sym (p.still refl)))

  pub grown_then : {By : ℕ → ℕ → Type 0} {first second third : List ℕ} {c d : Bool}
      → Grown told By first second c → Grown told By second third d → Grown told By first third (c || d)
  grown_then {By} {first} {second} {third} {c} {d} p q = record {
    long = q.long ∙ p.long;
    keeps = λ i k has. q.keeps i k (p.keeps i k has);
    adds = λ i k has. ⊎_elim (p.adds i k) inr (q.adds i k has);
    still = λ e. q.still (or_false c d e).1 ∙ p.still (or_false c d e).0;
    gone_on = λ e.
        ⊎_elim (λ f. ⊎_elim (gone_twice (p.gone_on f)) (λ same. rw (← same) (p.gone_on f)) (sum_kept d q))
        (λ f. ⊎_elim (λ gone. gone_twice gone (q.gone_on f)) (λ same. rw same (q.gone_on f)) (sum_kept c p))
        (or_cases c d e);
  }

  -- growth by one rule is growth by a wider one
  pub grown_by : {By Wider : ℕ → ℕ → Type 0} {before after : List ℕ} {changed : Bool}
      → ((i k : ℕ) → By i k → Wider i k) → Grown told By before after changed → Grown told Wider before after changed
  grown_by wider p = record {
    long = p.long;
    keeps = p.keeps;
    adds = λ i k has. ⊎_elim inl (λ by. inr (wider i k by)) (p.adds i k has);
    still = p.still;
    gone_on = p.gone_on;
  }

-- ---- turns

-- some nodes have been visited in a turn: the list has grown, and if it has not changed, it is closed at them
pub record Turning (told : Told) (By : ℕ → ℕ → Type 0) (Closed : List ℕ → ℕ → Type 0) (Done : ℕ → Type 0)
    (before after : List ℕ) (changed : Bool) : Type 0 where
  pub grown : Grown told By before after changed
  pub closed : changed ≡ false → (n : ℕ) → Done n → Closed before n

-- the nodes below one
abbrev pub Below : ℕ → ℕ → Type 0
Below i n = n < i

-- the nodes from one on, below a count
abbrev pub From : ℕ → ℕ → ℕ → Type 0
From i count n = (i ≤ n) × (n < count)

-- what is given at some of the steps is given at more
pub given_more : {gives : ℕ → ℕ → Type 0} {few steps n : ℕ} → few ≤ steps → GivenBy gives few n → GivenBy gives steps n
given_more less (step, below, alone) = (step, omega (arith, less, below), alone)

-- a node that a step more gives, and that is not the one given, is given before
pub given_before : {gives : ℕ → ℕ → Type 0} {i n : ℕ} → gives i n → (m : ℕ) → GivenBy gives (i + 1) m → m ≢ n → GivenBy gives i m
given_before {i = i} {n = n} here m (step, below, alone) other = (step, omega (arith, below, last), alone)
  where
    last : step ≢ i
    last same = other (sym (alone n (rw same here)))

-- the steps of a turn in an order, over as many as were counted, give nodes below the count, and all of them
module _ {may : ℕ → ℕ → Type 0} {gives : ℕ → ℕ → ℕ → Type 0} {count steps : ℕ} (order : Order may gives count) (counted : steps ≡ count) where
  pub order_below : {step n : ℕ} → step < steps → gives steps step n → n < count
  order_below {step} {n} inside given = order.below step n (omega (arith, counted, inside)) (rw counted at given)

  pub order_all : {step : ℕ} → steps ≤ step → (n : ℕ) → n < count → GivenBy (gives steps) step n
  order_all end n below = rw counted (given_more (omega (arith, counted, end)) (order.all n below))

-- the orders from the lowest node and from the highest
module _ {may : ℕ → ℕ → Type 0} {gives : ℕ → ℕ → ℕ → Type 0} (count : ℕ) (can : (step : ℕ) → step < count → may count step) where
  pub upward_order : ((step n : ℕ) → gives count step n → n ≡ step) → Order may gives count
  upward_order is = record {
    can = can;
    below = λ step n inside given. omega (arith, is step n given, inside);
    all = λ n below. (n, below, λ m given. is n m given);
  }

  pub downward_order : ((step n : ℕ) → gives count step n → n ≡ count - 1 - step) → Order may gives count
  downward_order is = record {
    can = can;
    below = λ step n inside given. omega (arith, is step n given, inside);
    all = λ n below. (count - 1 - n, omega (arith, below), λ m given. omega (arith, is (count - 1 - n) m given, below));
  }

module _ {told : Told} {By : ℕ → ℕ → Type 0} {Closed : List ℕ → ℕ → Type 0} {Done : ℕ → Type 0} where
  pub turning_none : (list : List ℕ) → ((n : ℕ) → Done n → ⊥) → Turning told By Closed Done list list false
  turning_none list none = record { grown = grown_none list; closed = λ e n done. absurd (none n done) }

  -- a node that was not visited before is
  pub turning_more : {More : ℕ → Type 0} {before between after : List ℕ} {n : ℕ} {c d : Bool} → Turning told By Closed Done before between c
      → Visited told By Closed n between after d → ((m : ℕ) → More m → m ≢ n → Done m)
      → Turning told By Closed More before after (c || d)
  turning_more {More} {before} {between} {after} {n} {c} {d} turning visited others = record {
    grown = grown_then turning.grown visited.grown;
    closed = λ e m more. closed m more (or_false c d e) (ℕ_discrete m n);
  }
    where
      closed : (m : ℕ) → More m → (c ≡ false) × (d ≡ false) → Dec (m ≡ n) → Closed before m
      closed m more (e, f) (yes same) = subst₂ Closed (turning.grown.still e) (sym same) (visited.closed f)
      closed m more (e, f) (no other) = turning.closed e m (others m more other)

  -- and a node at which the list is closed is passed over
  pub turning_past : {More : ℕ → Type 0} {before after : List ℕ} {n : ℕ} {c : Bool} → Turning told By Closed Done before after c
      → Closed after n → ((m : ℕ) → More m → m ≢ n → Done m) → Turning told By Closed More before after c
  turning_past {More} {before} {after} {n} {c} turning here others = record {
    grown = turning.grown;
    closed = λ e m more. closed m more e (ℕ_discrete m n);
  }
    where
      closed : (m : ℕ) → More m → c ≡ false → Dec (m ≡ n) → Closed before m
      closed m more e (yes same) = subst₂ Closed (turning.grown.still e) (sym same) here
      closed m more e (no other) = turning.closed e m (others m more other)

  pub turning_end : {count : ℕ} {before after : List ℕ} {c : Bool} → Turning told By Closed Done before after c
      → ((n : ℕ) → n < count → Done n) → Turned told By Closed count before after c
  turning_end turning all = record { grown = turning.grown; closed = λ e n below. turning.closed e n (all n below) }

-- ---- turns until one changes nothing

-- turns have been made: the list tells what it told, and all of it by a rule
pub record Settling (told : Told) (By : ℕ → ℕ → Type 0) (before after : List ℕ) : Type 0 where
  pub long : length after ≡ length before
  pub keeps : (i k : ℕ) → told.tells (get_or before i told.nothing) k → told.tells (get_or after i told.nothing) k
  pub sound : Sound told By after

-- what is left for a sum that stays below a bound to go on, up or down
unfoldable pub way_left : Bool → ℕ → ℕ → ℕ
way_left true bound sum = bound - sum
way_left false bound sum = sum

way_less : {up : Bool} {bound a b : ℕ} → GoneOn up a b → b ≤ bound → way_left up bound b < way_left up bound a
unfolding way_left
way_less (went_up p) inside = omega arith
way_less (went_down p) inside = p

module _ {told : Told} {By : ℕ → ℕ → Type 0} where
  pub settling_none : {list : List ℕ} → Sound told By list → Settling told By list list
  settling_none sound = record { long = refl; keeps = λ i k has. has; sound = sound }

  pub settling_more : {before between after : List ℕ} {changed : Bool} → Settling told By before between
      → Grown told By between after changed → Settling told By before after
  settling_more settling grown = record {
    long = grown.long ∙ settling.long;
    keeps = λ i k has. grown.keeps i k (settling.keeps i k has);
    sound = grown_sound grown settling.sound;
  }

  -- a turn that changes something takes from what is left
  pub grown_less : {bound : ℕ} {before after : List ℕ} {changed : Bool} → Grown told By before after changed → changed ≡ true
      → total after ≤ bound → way_left told.up bound (total after) < way_left told.up bound (total before)
  grown_less grown changed inside = way_less (grown.gone_on changed) inside

-- ---- masks

pub total-set : (list : List ℕ) (i n : ℕ) → i < length list → total (set list i n) + get_or list i 0 ≡ total list + n
unfolding total
total-set [] i n h = absurd (omega arith)
total-set (a ∷ list) zero n h = omega arith
total-set (a ∷ list) (suc i) n h = omega (arith, total-set list i n (omega arith))

pub total_bound : (sets : List ℕ) → ((i : ℕ) → get_or sets i 0 < 2 ^ 64) → total sets ≤ length sets * 2 ^ 64
unfolding total
total_bound [] small = omega arith
total_bound (a ∷ sets) small = omega (arith, total_bound sets (λ i. small (suc i)), small 0)

pub blank_sound : {By : ℕ → ℕ → Type 0} {least : ℕ} {sets : List ℕ} → Blank least sets → Sound masks By sets
blank_sound blank = record { by = λ i k has. absurd (none (subst (λ (mask : ℕ). Has mask k) (blank.zeros i) has)) }

-- zeros are blank
pub blank-zeros : (n : ℕ) → Blank n (replicate n 0)
blank-zeros n = record { long = omega (arith, length-replicate {A = ℕ} n 0); zeros = zeros n }
  where
    zeros : (n i : ℕ) → get_or {A = ℕ} (replicate n 0) i 0 ≡ 0
    zeros zero i = refl
    zeros (suc n) zero = refl
    zeros (suc n) (suc i) = zeros n i

-- blank sets are blank to a lower length
pub blank_less : {less least : ℕ} {sets : List ℕ} → less ≤ least → Blank least sets → Blank less sets
blank_less {less} {least} l blank = record { long = omega (arith, blank.long); zeros = blank.zeros }

-- one set joined with more is growth by what is joined
module _ {before after : List ℕ} {i more : ℕ} {changed : Bool} (inside : i < length before) (j : Joined before after i more changed) where
  here : get_or after i 0 ≡ joined (get_or before i 0) more
  here = ap (λ (sets : List ℕ). get_or sets i 0) j.sets ∙ get_or-set_same before i _ 0 inside

  -- the other sets are as they were
  pub joined_other : (m : ℕ) → m ≢ i → get_or after m 0 ≡ get_or before m 0
  joined_other m differ = ap (λ (sets : List ℕ). get_or sets m 0) j.sets ∙ get_or-set_other before i m _ 0 differ

  same : changed ≡ false → joined (get_or before i 0) more ≡ get_or before i 0
  same e = eqb-true _ _ (not-false _ (sym j.changed_is ∙ e))

  pub joined-grown : {By : ℕ → ℕ → Type 0} → ((k : ℕ) → Has more k → By i k) → Grown masks By before after changed
  joined-grown {By} by = record {
    long = ap length j.sets ∙ length-set before i _;
    keeps = λ m k. keeps m k (ℕ_discrete m i);
    adds = λ m k. adds m k (ℕ_discrete m i);
    still = λ e. j.sets ∙ ap (set before i) (same e) ∙ set-get_or before i 0;
    gone_on = λ e.
        let differ : joined (get_or before i 0) more ≢ get_or before i 0 = eqb-false _ _ (not-true _ (sym j.changed_is ∙ e)) in
        went_up {before = total before} {after = total after} (omega (
          arith,
          total-set before i (joined (get_or before i 0) more) inside,
          ap total j.sets,
          or_add_and (get_or before i 0) more,
          and_le_r (get_or before i 0) more,
        ));
  }
    where
      keeps : (m k : ℕ) → Dec (m ≡ i) → Has (get_or before m 0) k → Has (get_or after m 0) k
      keeps m k (yes e) has = rw (e, here) ((has_join (get_or before i 0) more k).1 (inl (rw e at has)))
      keeps m k (no f) has = rw (joined_other m f) has

      adds : (m k : ℕ) → Dec (m ≡ i) → Has (get_or after m 0) k → Has (get_or before m 0) k ⊎ By m k
      adds m k (yes e) has =
          ⊎_elim (λ kept. inl (rw e kept)) (λ added. inr (rw e (by k added)))
          ((has_join (get_or before i 0) more k).0 (rw (e, here) at has))
      adds m k (no f) has = inl (rw (joined_other m f) at has)

  -- the set has what was joined
  pub joined_has : (k : ℕ) → Has more k → Has (get_or after i 0) k
  joined_has k has = rw here ((has_join (get_or before i 0) more k).1 (inr has))

  -- where nothing changed, the set had all that was joined
  pub joined_held : changed ≡ false → (k : ℕ) → Has more k → Has (get_or before i 0) k
  joined_held e k has = rw (same e) at ((has_join (get_or before i 0) more k).1 (inr has))

-- what is left for a list of so many masks to grow
abbrev pub room_left : ℕ → List ℕ → ℕ
room_left count sets = way_left true (count * 2 ^ 64) (total sets)

pub settling_less : {By : ℕ → ℕ → Type 0} {before between after : List ℕ} {changed : Bool} → Settling masks By before between
    → Grown masks By between after changed → changed ≡ true → ((i : ℕ) → get_or after i 0 < 2 ^ 64)
    → room_left (length before) after < room_left (length before) between
settling_less {before = before} {after = after} settling grown changed small =
    grown_less {bound = length before * 2 ^ 64} grown changed (omega (arith, total_bound after small, grown.long, settling.long))
