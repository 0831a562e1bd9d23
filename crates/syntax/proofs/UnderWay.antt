-- What is read of an expression under way, and of those around it: the tokens since each began, as the grammar has it.
use Prim.Native.Nat.{ℕ, zero, suc, ◌+◌, ◌<◌}
use native.Mathlib.Omega.{arith}
use mathlib.Core.Path.{◌≡◌, refl}
use mathlib.Core.List.{List, [], ◌∷◌}
use lib.ListN.{length}
use Rattle.sheets.specs.Text.{Token, sign}
use Rattle.sheets.specs.Grammar.{Expression, sequence, first_place, bare, factor, factors, sequences, Reads, a_group}
use Rattle.sheets.specs.Grammar.{one_factor, further_factor, one_sequence, further_sequence}
use Rattle.syntax.specs.Machine.{Choices, no_choice, before, Factors, no_factor, so_far, Frame}
use Rattle.syntax.specs.Machine.{joined, with_factor, chosen, closed_by, closed}
use Rattle.syntax.specs.Machine.{Open, Spot, due, after, done}

module _ (d : ℕ) (from : List Token) where
  -- the sequences before the last `|`, up to the sequence under way
  pub data ChoicesRead : Choices → List Token → Type 0 where
    no_bar : ChoicesRead no_choice from
    last_bar : {p : ℕ} {e : Expression} {begin : List Token} → Reads sequences d from e (sign p 124 ∷ begin)
        → ChoicesRead (before p e) begin

  -- the factors of the sequence under way, from its begin up to now
  pub data FactorsRead (begin : List Token) : Factors → List Token → Type 0 where
    none_read : FactorsRead begin no_factor begin
    some_read : {e : Expression} {now : List Token} → Reads factors d begin e now → FactorsRead begin (so_far e) now

  pub record FrameRead (f : Frame) (now : List Token) : Type 0 where
    pub begin : List Token
    pub choices_read : ChoicesRead f.choices begin
    pub factors_read : FactorsRead begin f.factors now

  -- and with a factor last: the whole is an expression
  pub record FullRead (f : Frame) (now : List Token) : Type 0 where
    pub frame_read : FrameRead f now
    pub whole : Reads sequences d from (closed f) now

  chosen_read : {begin now : List Token} {c : Choices} {e : Expression} → ChoicesRead c begin → Reads factors d begin e now
      → Reads sequences d from (chosen c e) now
  unfolding chosen
  chosen_read no_bar r = one_sequence r
  chosen_read (last_bar s) r = further_sequence s r

  joined_read : {begin now more : List Token} {g : Factors} {e : Expression} → FactorsRead begin g now → Reads factor d now e more
      → (whole : Expression) × (joined (first_place now) e g ≡ so_far whole) × Reads factors d begin whole more
  unfolding joined
  joined_read {e = e} none_read r = (e, refl, one_factor r)
  joined_read {now = now} {e = e} (some_read {e = f} s) r = (sequence (first_place now) f e, refl, further_factor s r)

  pub factor_read : {f : Frame} {now more : List Token} {e : Expression} → FrameRead f now → Reads factor d now e more
      → FullRead (with_factor (first_place now) e f) more
  unfolding with_factor closed_by
  factor_read {f} {now} {more} {e} r s = go (joined_read r.factors_read s)
    where
      go : ((whole : Expression) × (joined (first_place now) e f.factors ≡ so_far whole) × Reads factors d r.begin whole more)
          → FullRead (with_factor (first_place now) e f) more
      go (whole, is, reads) =
          record {
            frame_read = record { begin = r.begin; choices_read = r.choices_read; factors_read = rw is (some_read reads) };
            whole = rw is (chosen_read r.choices_read reads);
          }

  -- how a spot of an expression stands
  pub data SpotRead (f : Frame) : Spot → List Token → Type 0 where
    due_read : {now : List Token} → FrameRead f now → SpotRead f due now
    after_read : {pending now : List Token} {e : Expression} → FrameRead f pending → Reads bare d pending e now
        → SpotRead f (after (first_place pending) e) now
    done_read : {now : List Token} → FullRead f now → SpotRead f done now

-- the parentheses open, the innermost first: with so many nestings left, up to where the expression in the innermost begins, and from where
-- the rule's expression begins
pub data OpensRead : ℕ → List Open → List Token → List Token → Type 0 where
  none_open : {start : List Token} → OpensRead 32 [] start start
  one_open : {d : ℕ} {o : Open} {opens : List Open} {outer from start : List Token} → OpensRead (suc d) opens outer start
      → FrameRead (suc d) outer o.around (sign o.place 40 ∷ from) → OpensRead d (o ∷ opens) from start

pub opens_left : {d : ℕ} {opens : List Open} {from start : List Token} → OpensRead d opens from start → length opens + d ≡ 32
opens_left none_open = refl
opens_left (one_open {d = d} r s) = omega (arith, opens_left r)

-- a parenthesis opens where a factor may begin
pub nests : {at : ℕ} {opens : List Open} {f : Frame} {from start more : List Token} (d : ℕ) → length opens < 32
    → OpensRead d opens from start → FrameRead d from f (sign at 40 ∷ more)
    → (left : ℕ) × OpensRead left (record { place = at; around = f } ∷ opens) more start
nests zero room r s = absurd (omega (arith, opens_left r))
nests (suc left) room r s = (left, one_open r s)

-- it closes behind an expression
pub record Unnested (o : Open) (opens : List Open) (e : Expression) (more start : List Token) : Type 0 where
  pub left : ℕ
  pub outer : List Token
  pub opens_read : OpensRead left opens outer start
  pub spot_read : SpotRead left outer o.around (after o.place e) more

pub unnests : {d at : ℕ} {o : Open} {opens : List Open} {e : Expression} {from start more : List Token}
    → OpensRead d (o ∷ opens) from start → Reads sequences d from e (sign at 41 ∷ more) → Unnested o opens e more start
unnests (one_open {d = d} {outer = outer} r s) t =
    record { left = suc d; outer = outer; opens_read = r; spot_read = after_read s (a_group t) }

-- where none is open the expression is the rule's
pub outermost : {d : ℕ} {e : Expression} {from start now : List Token} → OpensRead d [] from start → Reads sequences d from e now
    → Reads sequences 32 start e now
outermost none_open r = r
