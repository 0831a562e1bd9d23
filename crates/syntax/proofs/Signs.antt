-- What a sign does to a reading outside words, as a family by cases; and that the machine's steps at signs are those and no others.
use Prim.Native.Nat.{ℕ, ◌<◌}
use mathlib.Core.Path.{◌≡◌, refl, sym, ◌∙◌, subst₂}
use mathlib.Core.Bool.{Bool, true, false}
use mathlib.Core.List.{List, [], ◌∷◌, ◌++◌}
use lib.Dec.{ltb, eqb}
use lib.ListN.{length}
use borrow.Author.Tests.{ltb-true, lt-ltb, eqb-true}
use Rattle.sheets.specs.Text.{letter, blank}
use Rattle.sheets.specs.Grammar.{Expression, starred, Rule, rule}
use Rattle.syntax.specs.Machine.{Frame, frame, blank_frame, before, no_factor, with_factor, closed, Open, due, after, done}
use Rattle.syntax.specs.Machine.{Inside, State, name_due, equals_due, inside, goes}
use Rattle.syntax.specs.Machine.{opened, closes, ends, begins, follows, may_star, within, begun, after_name, step}
use Rattle.syntax.proofs.Steps.{clash, nested, opening, Seated, factoring, seat_due, seat_after, seat_done}
use Rattle.syntax.proofs.Steps.{Whole, whole_name, whole_equals, whole_due, whole-after, whole_done}

-- a state behind a factor, with the frame that has it
pub data Followed : State → Inside → Frame → Type 0 where
  behind_star : {i : Inside} {f : Frame} → Followed (inside i f done) i f
  behind-bare : {i : Inside} {f : Frame} {p : ℕ} {e : Expression} → Followed (inside i f (after p e)) i (with_factor p e f)

-- what a sign does
pub data Sign : State → ℕ → ℕ → State → Type 0 where
  an_equals : {rules : List Rule} {p at : ℕ} {name : List ℕ} → Sign (equals_due rules p name) at 61 (begun rules p name)
  an_open : {s : State} {i : Inside} {f : Frame} {at : ℕ} → Seated s (factoring i f) → length i.opens < 32
      → Sign s at 40 (inside (nested i (opening at f ∷ i.opens)) blank_frame due)
  a_star : {i : Inside} {f : Frame} {p at : ℕ} {e : Expression}
      → Sign (inside i f (after p e)) at 42 (inside i (with_factor p (starred at e) f) done)
  a_bar : {s : State} {i : Inside} {f : Frame} {at : ℕ} → Followed s i f
      → Sign s at 124 (inside i (frame (before at (closed f)) no_factor) due)
  a_close : {s : State} {i : Inside} {f : Frame} {o : Open} {opens : List Open} {at : ℕ} → Followed s i f → i.opens ≡ o ∷ opens
      → Sign s at 41 (inside (nested i opens) o.around (after o.place (closed f)))
  an_end : {s : State} {i : Inside} {f : Frame} {at : ℕ} → Followed s i f → i.opens ≡ []
      → Sign s at 59 (name_due (i.rules ++ (rule i.place i.name (closed f) ∷ [])))

pub followed_seated : {s : State} {i : Inside} {f : Frame} → Followed s i f → Seated s (factoring i f)
followed_seated behind_star = seat_done
followed_seated behind-bare = seat_after

-- ---- the machine steps so

open_steps : {s : State} {i : Inside} {f : Frame} (at : ℕ) → Seated s (factoring i f) → step s at 40 ≡ opened i f at
unfolding step within may_star follows begins letter blank
open_steps at seat_due = refl
open_steps at seat_after = refl
open_steps at seat_done = refl

bar_steps : {s : State} {i : Inside} {f : Frame} (at : ℕ) → Followed s i f
    → step s at 124 ≡ goes (inside i (frame (before at (closed f)) no_factor) due)
unfolding step within may_star follows begins letter blank
bar_steps at behind_star = refl
bar_steps at behind-bare = refl

pub close_steps : {s : State} {i : Inside} {f : Frame} (at : ℕ) → Followed s i f → step s at 41 ≡ closes i i.opens (closed f)
unfolding step within may_star follows begins letter blank
close_steps at behind_star = refl
close_steps at behind-bare = refl

pub end_steps : {s : State} {i : Inside} {f : Frame} (at : ℕ) → Followed s i f → step s at 59 ≡ ends i i.opens (closed f)
unfolding step within may_star follows begins letter blank
end_steps at behind_star = refl
end_steps at behind-bare = refl

pub sign_steps : {at byte : ℕ} {s then : State} → Sign s at byte then → step s at byte ≡ goes then
unfolding step within may_star after_name opened closes ends letter blank
sign_steps an_equals = refl
sign_steps {at = at} (an_open {i = i} seat room) = open_steps at seat ∙ rw (lt-ltb (length i.opens) 32 room)
sign_steps a_star = refl
sign_steps {at = at} (a_bar behind) = bar_steps at behind
sign_steps {at = at} (a_close {i = i} behind is) = close_steps at behind ∙ rw is
sign_steps {at = at} (an_end {i = i} behind is) = end_steps at behind ∙ rw is

-- a sign leaves no word under way
pub sign_whole : {at byte : ℕ} {s then : State} → Sign s at byte then → Whole then
sign_whole an_equals = whole_due
sign_whole (an_open seat room) = whole_due
sign_whole a_star = whole_done
sign_whole (a_bar behind) = whole_due
sign_whole (a_close behind is) = whole-after
sign_whole (an_end behind is) = whole_name

-- ---- and not otherwise

module _ {s then : State} {at byte : ℕ} where
  -- a sign known by its byte, and by where the machine goes
  sign_is : {known : ℕ} {next : State} → eqb byte known ≡ true → Sign s at known next → goes next ≡ goes then → Sign s at byte then
  sign_is {known} {next} b-is sign same =
      let e : next ≡ then = cc in subst₂ (λ b n. Sign s at b n) (sym (eqb-true byte known b-is)) e sign

  opened_sign : {i : Inside} {f : Frame} → eqb byte 40 ≡ true → Seated s (factoring i f) → opened i f at ≡ goes then → Sign s at byte then
  unfolding opened
  opened_sign {i} {f} b-is seat is = go (ltb (length i.opens) 32) refl
    where
      go : (t : Bool) → ltb (length i.opens) 32 ≡ t → Sign s at byte then
      go true e = sign_is b-is (an_open seat (ltb-true (length i.opens) 32 e)) (rw e at is)
      go false e = clash (rw e at is)

  closed_sign : {i : Inside} {f : Frame} → eqb byte 41 ≡ true → Followed s i f → closes i i.opens (closed f) ≡ goes then
      → Sign s at byte then
  unfolding closes
  closed_sign {i} {f} b-is behind is = go i.opens refl
    where
      go : (opens : List Open) → i.opens ≡ opens → Sign s at byte then
      go [] e = clash (rw e at is)
      go (o ∷ opens) e = sign_is b-is (a_close behind e) (rw e at is)

  ended_sign : {i : Inside} {f : Frame} → eqb byte 59 ≡ true → Followed s i f → ends i i.opens (closed f) ≡ goes then
      → Sign s at byte then
  unfolding ends
  ended_sign {i} {f} b-is behind is = go i.opens refl
    where
      go : (opens : List Open) → i.opens ≡ opens → Sign s at byte then
      go [] e = sign_is b-is (an_end behind e) (rw e at is)
      go (o ∷ opens) e = clash (rw e at is)

  module _ (l : letter byte ≡ false) (b : blank byte ≡ false) where
    followed_sign : {i : Inside} {f : Frame} → Followed s i f → follows i f at byte ≡ goes then → Sign s at byte then
    unfolding follows begins
    followed_sign {i} {f} behind is = go (eqb byte 40) (eqb byte 124) (eqb byte 41) (eqb byte 59) refl refl refl refl
      where
        go : (o v c e : Bool) → eqb byte 40 ≡ o → eqb byte 124 ≡ v → eqb byte 41 ≡ c → eqb byte 59 ≡ e → Sign s at byte then
        go true v c e o_is v-is c-is e-is = opened_sign o_is (followed_seated behind) (rw (l, b, o_is) at is)
        go false true c e o_is v-is c-is e-is = sign_is v-is (a_bar behind) (rw (l, b, o_is, v-is) at is)
        go false false true e o_is v-is c-is e-is = closed_sign c-is behind (rw (l, b, o_is, v-is, c-is) at is)
        go false false false true o_is v-is c-is e-is = ended_sign e-is behind (rw (l, b, o_is, v-is, c-is, e-is) at is)
        go false false false false o_is v-is c-is e-is = clash (rw (l, b, o_is, v-is, c-is, e-is) at is)

pub steps_sign : {s then : State} (at byte : ℕ) → letter byte ≡ false → blank byte ≡ false → Whole s → step s at byte ≡ goes then
    → Sign s at byte then
unfolding step within after_name may_star begins
steps_sign at byte l b whole_name is = clash (rw (b, l) at is)
steps_sign {then = then} at byte l b (whole_equals {rules} {p} {name}) is = go (eqb byte 61) refl
  where
    go : (t : Bool) → eqb byte 61 ≡ t → Sign (equals_due rules p name) at byte then
    go true e = sign_is e an_equals (rw (b, e) at is)
    go false e = clash (rw (b, e) at is)
steps_sign {then = then} at byte l b (whole_due {i} {f}) is = go (eqb byte 40) refl
  where
    go : (t : Bool) → eqb byte 40 ≡ t → Sign (inside i f due) at byte then
    go true e = opened_sign e seat_due (rw (b, l, e) at is)
    go false e = clash (rw (b, l, e) at is)
steps_sign {then = then} at byte l b (whole-after {i} {f} {p} {e}) is = go (eqb byte 42) refl
  where
    go : (t : Bool) → eqb byte 42 ≡ t → Sign (inside i f (after p e)) at byte then
    go true e-is = sign_is e-is a_star (rw (b, e-is) at is)
    go false e-is = followed_sign l b behind-bare (rw (b, e-is) at is)
steps_sign at byte l b whole_done is = followed_sign l b behind_star is
