-- Every state of a reading can be completed: some bytes lead from it to a sheet's rules.
use Prim.Native.Nat.{ℕ, suc}
use mathlib.Core.Path.{◌≡◌, refl, ◌∙◌}
use mathlib.Core.Bool.{Bool, true, false}
use mathlib.Core.List.{List, [], ◌∷◌, ◌++◌}
use Rattle.sheets.specs.Text.{letter, blank, same, empty_word}
use Rattle.sheets.specs.Grammar.{Rule, rule}
use Rattle.syntax.specs.Machine.{Frame, blank_frame, with_factor, closed, Open, Spot, due, in_word, after, done}
use Rattle.syntax.specs.Machine.{Inside, State, name_due, in_name, equals_due, inside, goes, sheet, word_of}
use Rattle.syntax.specs.Machine.{closes, ends, begins, follows, may_star, within, begun, after_name, step, at_end, onward, run}
use Rattle.syntax.proofs.Bytes.{same_equal}
use Rattle.syntax.proofs.Steps.{nested}
use Rattle.syntax.proofs.Signs.{Followed, behind_star, behind-bare, close_steps, end_steps}

-- bytes that lead from a state to rules
pub record Completed (s : State) (at : ℕ) : Type 0 where
  pub rest : List ℕ
  pub rules : List Rule
  pub comes : run rest s at ≡ sheet rules

-- from the state behind a byte
before_byte : {s then : State} {at : ℕ} (byte : ℕ) → step s at byte ≡ goes then → Completed then (suc at) → Completed s at
unfolding run onward
before_byte byte is c = record { rest = byte ∷ c.rest; rules = c.rules; comes = rw is c.comes }

-- one or more rules are read
some_rules : (read : List Rule) (r : Rule) (at : ℕ) → Completed (name_due (read ++ (r ∷ []))) at
unfolding run at_end
some_rules [] r at = record { rest = []; rules = r ∷ []; comes = refl }
some_rules (q ∷ read) r at = record { rest = []; rules = q ∷ read ++ (r ∷ []); comes = refl }

-- a state in which the expression of a frame may end
record MayEnd (s : State) (i : Inside) (f : Frame) : Type 0 where
  pub at_close : (at : ℕ) → step s at 41 ≡ closes i i.opens (closed f)
  pub at_end_lem : (at : ℕ) → step s at 59 ≡ ends i i.opens (closed f)

factor_may_end : {s : State} {i : Inside} {f : Frame} → Followed s i f → MayEnd s i f
factor_may_end behind = record { at_close = λ at. close_steps at behind; at_end_lem = λ at. end_steps at behind }

word_may_end : {i : Inside} {f : Frame} {p : ℕ} {letters : List ℕ}
    → MayEnd (inside i f (in_word p letters)) i (with_factor p (word_of p letters) f)
unfolding step within may_star follows begins letter blank
word_may_end = record { at_close = λ at. refl; at_end_lem = λ at. refl }

-- each open parenthesis is closed, and the rule ended
may_end_completed : (opens : List Open) {s : State} {i : Inside} {f : Frame} (at : ℕ) → i.opens ≡ opens → MayEnd s i f → Completed s at
unfolding closes ends
may_end_completed [] {i = i} {f} at is e =
    before_byte 59 (e.at_end_lem at ∙ rw is) (some_rules i.rules (rule i.place i.name (closed f)) (suc at))
may_end_completed (o ∷ opens) {i = i} {f} at is e =
    before_byte {then = inside (nested i opens) o.around (after o.place (closed f))} 41 (e.at_close at ∙ rw is)
    (may_end_completed opens (suc at) refl (factor_may_end behind-bare))

-- a factor that is due is a letter, and so is a name that is due
inside_completed : (i : Inside) (f : Frame) (spot : Spot) (at : ℕ) → Completed (inside i f spot) at
unfolding step within begins letter blank
inside_completed i f due at = before_byte 97 refl (may_end_completed i.opens (suc at) refl word_may_end)
inside_completed i f (in_word p letters) at = may_end_completed i.opens at refl word_may_end
inside_completed i f (after p e) at = may_end_completed i.opens at refl (factor_may_end behind-bare)
inside_completed i f done at = may_end_completed i.opens at refl (factor_may_end behind_star)

begun_completed : (read : List Rule) (p : ℕ) (name : List ℕ) (at : ℕ) → Completed (begun read p name) at
begun_completed read p name at = inside_completed _ blank_frame due at

-- `empty` is no name, but a letter behind it makes it one
name_completed : (read : List Rule) (p : ℕ) (letters : List ℕ) (at : ℕ) → Completed (in_name read p letters) at
unfolding step after_name letter blank same
name_completed read p letters at = go (same letters empty_word) refl
  where
    empty_name : Completed (in_name read p empty_word) at
    empty_name = before_byte 97 refl (before_byte 61 refl (begun_completed read p (empty_word ++ (97 ∷ [])) (suc (suc at))))

    go : (t : Bool) → same letters empty_word ≡ t → Completed (in_name read p letters) at
    go true e = rw (same_equal letters empty_word e) empty_name
    go false e = before_byte 61 (rw e) (begun_completed read p letters (suc at))

pub completed : (s : State) (at : ℕ) → Completed s at
unfolding step after_name letter blank
completed (name_due read) at = before_byte 97 refl (name_completed read at (97 ∷ []) (suc at))
completed (in_name read p letters) at = name_completed read p letters at
completed (equals_due read p letters) at = before_byte 61 refl (begun_completed read p letters (suc at))
completed (inside i f spot) at = inside_completed i f spot at
