-- How a reading stands is told byte by byte as the machine tells it.
use Prim.Native.Nat.{ℕ, suc, ◌+◌, ◌-◌, ◌≤◌, ◌<◌}
use native.Mathlib.Omega.{arith}
use native.Mathlib.Numerals.{add-one}
use mathlib.Core.Path.{◌≡◌, refl, sym, ap, ap₂, ◌∙◌}
use mathlib.Core.Bool.{Bool, true, false, cond}
use mathlib.Core.List.{List, [], ◌∷◌, ◌++◌}
use lib.Dec.{ltb, eqb}
use lib.ListN.{length, get_or, take, drop, length-append, drop_of_length-le}
use lib.Seq.{drop-cons}
use Rattle.sheets.specs.Text.{letter, blank, same, empty_word}
use Rattle.sheets.specs.Grammar.{Expression, Rule}
use Rattle.syntax.specs.Machine.{Open, Frame, Inside, Spot, due, in_word, after, done, State, name_due, in_name, equals_due, inside}
use Rattle.syntax.specs.Machine.{Next, goes, stops, wrong}
use Rattle.syntax.specs.Machine.{opened, closes, ends, begins, follows, may_star, within, after_name, step}
use Rattle.syntax.specs.Machine.{with_factor, word_of, closed, at_end, onward, run, read_sheet}
use Rattle.stands.specs.declared.Stand.{Stand}
use Rattle.stands.specs.declared.Stand.TheVariants.{NameDue, InName, Due, InWord, After}
use Rattle.stands.specs.Stands.{staying, stood, kept_next, kept_from, stand_in, stand_of}
use Rattle.stands.specs.Stands.{beginning, following, starring, naming, advance, advanced}

-- ---- bytes one after the other

pub advanced_more : (front : List ℕ) (at : ℕ) (stand : Stand) {next : Stand} {byte : ℕ}
    → at < length front
    → advanced (drop at front) stand ≡ advanced front NameDue
    → byte ≡ get_or front at 0
    → next ≡ advance stand byte
    → advanced (drop (at + 1) front) next ≡ advanced front NameDue
unfolding advanced
advanced_more front at stand below so_far is moved =
    rw (moved, is, add-one at) (sym (ap (λ (l : List ℕ). advanced l stand) (drop-cons front at 0 below)) ∙ so_far)

pub advanced-all : (front : List ℕ) (at : ℕ) (stand : Stand)
    → length front ≤ at
    → advanced (drop at front) stand ≡ advanced front NameDue
    → stand ≡ advanced front NameDue
unfolding advanced
advanced-all front at stand past so_far = sym (ap (λ (l : List ℕ). advanced l stand) (drop_of_length-le front past)) ∙ so_far

-- ---- a byte does to how a reading stands what the machine says

-- where the reading goes on, it stands so
pub data Agrees (stand : Stand) : Next → Type 0 where
  agrees : {state : State} → stand_of state ≡ stand → Agrees stand (goes state)
  stopped : Agrees stand stops

-- by one test on both sides, and by a test that stops the reading
by_test : (t : Bool) {a b : Stand} {m n : Next} → Agrees a m → Agrees b n → Agrees (cond t a b) (cond t m n)
by_test true p q = p
by_test false p q = q

stops_or : (t : Bool) {a : Stand} {m : Next} → Agrees a m → Agrees a (cond t stops m)
stops_or true p = stopped
stops_or false p = p

opened_agrees : (i : Inside) (f : Frame) (at : ℕ) (other : Stand)
    → Agrees (cond (ltb (length i.opens) 32) (Due (length i.opens + 1)) other) (opened i f at)
unfolding opened stand_of stand_in
opened_agrees i f at other = by_test (ltb (length i.opens) 32) (agrees (ap Due (omega arith))) stopped

begins_agrees : (i : Inside) (f : Frame) (at byte : ℕ) {other : Stand} {next : Next}
    → Agrees other next
    → Agrees (beginning (length i.opens) byte other) (begins i f at byte next)
unfolding begins stand_of stand_in
begins_agrees i f at byte {other} p =
    by_test (letter byte) (agrees refl) (by_test (eqb byte 40) (opened_agrees i f at other) p)

closes_agrees : (i : Inside) (opens : List Open) (e : Expression) → Agrees (After (length opens - 1)) (closes i opens e)
unfolding closes stand_of stand_in
closes_agrees i [] e = stopped
closes_agrees i (o ∷ opens) e = agrees (ap After {x = length opens} {y = suc (length opens) - 1} (omega arith))

ends_agrees : (i : Inside) (opens : List Open) (e : Expression) → Agrees NameDue (ends i opens e)
unfolding ends stand_of
ends_agrees i [] e = agrees refl
ends_agrees i (o ∷ opens) e = stopped

follows_agrees : (i : Inside) (f : Frame) (at byte : ℕ) → Agrees (following (length i.opens) byte) (follows i f at byte)
unfolding follows stand_of stand_in
follows_agrees i f at byte =
    by_test (blank byte) (agrees refl)
    (begins_agrees i f at byte
    (by_test (eqb byte 124) (agrees refl)
    (by_test (eqb byte 41) (closes_agrees i i.opens (closed f))
    (by_test (eqb byte 59) (ends_agrees i i.opens (closed f)) stopped))))

star_agrees : (i : Inside) (f : Frame) (place : ℕ) (e : Expression) (at byte : ℕ)
    → Agrees (starring (length i.opens) byte) (may_star i f place e at byte)
unfolding may_star stand_of stand_in
star_agrees i f place e at byte =
    by_test (blank byte) (agrees refl)
    (by_test (eqb byte 42) (agrees refl) (follows_agrees i (with_factor place e f) at byte))

name_agrees : (rules : List Rule) (place : ℕ) (letters : List ℕ) (byte : ℕ) → Agrees (naming byte) (after_name rules place letters byte)
unfolding after_name stand_of stand_in
name_agrees rules place letters byte = by_test (blank byte) (agrees refl) (by_test (eqb byte 61) (agrees refl) stopped)

-- a letter more
longer : (letters : List ℕ) (byte : ℕ) → length (letters ++ (byte ∷ [])) ≡ length letters + 1
longer letters byte = length-append letters (byte ∷ [])

kept_longer : (kept : ℕ) (letters : List ℕ) (byte : ℕ) → kept_from kept (letters ++ (byte ∷ [])) ≡ kept_next (kept_from kept letters) byte
unfolding kept_from
kept_longer kept [] byte = refl
kept_longer kept (other ∷ letters) byte = kept_longer (kept_next kept other) letters byte

within_agrees : (i : Inside) (f : Frame) (spot : Spot) (at byte : ℕ)
    → Agrees (advance (stand_in spot (length i.opens)) byte) (within i f spot at byte)
unfolding within stand_of stand_in
within_agrees i f due at byte = by_test (blank byte) (agrees refl) (begins_agrees i f at byte stopped)
within_agrees i f (in_word place letters) at byte =
    by_test (letter byte)
    (by_test (ltb (length letters) 16) (agrees (ap (InWord (length i.opens)) (longer letters byte))) stopped)
    (star_agrees i f place (word_of place letters) at byte)
within_agrees i f (after place e) at byte = star_agrees i f place e at byte
within_agrees i f done at byte = follows_agrees i f at byte

pub step_agrees : (state : State) (at byte : ℕ) → Agrees (advance (stand_of state) byte) (step state at byte)
unfolding step stand_of kept_from
step_agrees (name_due rules) at byte = by_test (blank byte) (agrees refl) (by_test (letter byte) (agrees refl) stopped)
step_agrees (in_name rules place letters) at byte =
    by_test (letter byte)
    (by_test (ltb (length letters) 16) (agrees (ap₂ InName (longer letters byte) (kept_longer 0 letters byte))) stopped)
    (stops_or (same letters empty_word) (name_agrees rules place letters byte))
step_agrees (equals_due rules place letters) at byte = name_agrees rules place letters byte
step_agrees (inside i f spot) at byte = within_agrees i f spot at byte

-- ---- where a text goes wrong

-- the place where a text goes wrong is its end, where more is due there
end_wrong : (state : State) (at i : ℕ) → at_end state at ≡ wrong i → i ≡ at
unfolding at_end
end_wrong (name_due []) at i e = cc
end_wrong (name_due (r ∷ rules)) at i e = let never : ◌≡◌ {A = ℕ} 0 1 = cc in absurd (omega arith)
end_wrong (in_name rules place letters) at i e = cc
end_wrong (equals_due rules place letters) at i e = cc
end_wrong (inside j f spot) at i e = cc

-- behind the bytes before that place the reading stands as told byte by byte
pub record WentWrong (text : List ℕ) (state : State) (at i : ℕ) : Type 0 where
  pub from : at ≤ i
  pub told : advanced (take (i - at) text) (stand_of state) ≡ stand_of (stood text state at)

pub went_wrong : (text : List ℕ) (state : State) (at i : ℕ) → run text state at ≡ wrong i → WentWrong text state at i
unfolding run stood advanced onward staying
went_wrong [] state at i e =
    let is = end_wrong state at i e in
    let none : i - at ≡ 0 = omega arith in
    record { from = omega arith; told = rw none }
went_wrong (byte ∷ more) state at i e =
    go (step state at byte) refl (step_agrees state at byte) (λ s. went_wrong more s (suc at) i) e
  where
    go : (next : Next)
        → step state at byte ≡ next
        → Agrees (advance (stand_of state) byte) next
        → ((s : State) → run more s (suc at) ≡ wrong i → WentWrong more s (suc at) i)
        → onward next (λ s. run more s (suc at)) at ≡ wrong i
        → WentWrong (byte ∷ more) state at i
    go next is (agrees {state = s} so) rest e =
        let w = rest s e in
        let left : i - at ≡ suc (i - suc at) = omega (arith, w.from) in
        record { from = omega (arith, w.from); told = rw (left, is) (ap (advanced (take (i - suc at) more)) (sym so) ∙ w.told) }
    go next is stopped rest e =
        let here : i ≡ at = cc in
        let none : i - at ≡ 0 = omega arith in
        record { from = omega arith; told = rw (none, is) }

-- for a whole text
pub due_told : (text : List ℕ) (i : ℕ) → read_sheet text ≡ wrong i → advanced (take i text) NameDue ≡ stand_of (stood text (name_due []) 0)
unfolding stand_of
due_told text i e = let all : i - 0 ≡ i = omega arith in rw all at (went_wrong text (name_due []) 0 i e).told
