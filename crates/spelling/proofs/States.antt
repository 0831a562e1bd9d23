-- How the reading stands, and what a byte does there.
use Prim.Native.Nat.{ℕ, ◌+◌, ◌≤◌, ◌<◌}
use native.Mathlib.Omega.{arith}
use mathlib.Core.Path.{◌≡◌, refl, sym}
use mathlib.Core.Bool.{Bool, true, false, ◌||◌}
use mathlib.Core.List.{List, [], ◌∷◌, ◌++◌}
use lib.Dec.{eqb, leb}
use lib.ListN.{length}
use borrow.Author.Tests.{leb-true, ne_eqb, lt-ltb}
use mathlib.Core.Logic.{◌⊎◌, inl, inr}
use Rattle.words.proofs.Tests.{both, never, or_cases}
use Rattle.sheets.specs.Text.{letter, blank}
use Rattle.sheets.specs.Grammar.{Expression, Rule, rule, starred}
use Rattle.syntax.specs.Machine.{before, no_factor, Frame, frame, blank_frame, closed, with_factor}
use Rattle.syntax.specs.Machine.{Open, Inside, due, in_word, after, done, name_due, in_name, equals_due, inside}
use Rattle.syntax.specs.Machine.{step, opened, closes, ends, within, may_star, follows, begins, after_name, word_of}
use Rattle.spelling.specs.Places.{Idle, begins_factor, ends_expression, byte_at, Comes, GoesWrong, Over}
use Rattle.spelling.proofs.Running.{Wording, in_a_rule, goes_on, stops_here, alike}

-- a letter is no blank
letter_no_blank : (byte : ℕ) → letter byte ≡ true → blank byte ≡ false
unfolding letter blank
letter_no_blank byte is =
    let low : 97 ≤ byte = leb-true 97 byte (both (leb 97 byte) (leb byte 122) is).0 in
    rw (ne_eqb byte 32 (λ e. omega arith), ne_eqb byte 10 (λ e. omega arith))

-- a byte that begins no factor
neither : (a b : Bool) → (a || b) ≡ false → (a ≡ false) × (b ≡ false)
neither false b e = (refl, e)
neither true b e = never (sym e)

no_letter : (byte : ℕ) → begins_factor byte ≡ false → (letter byte ≡ false) × (eqb byte 40 ≡ false)
no_letter byte is = neither (letter byte) (eqb byte 40) is

-- ---- states in which a blank changes nothing

module _ {i : Inside} {f : Frame} where
  pub idle_due : Idle (inside i f due)
  unfolding step within
  idle_due = record { stays = λ place byte is. rw is }

  pub idle-after : {place : ℕ} {e : Expression} → Idle (inside i f (after place e))
  unfolding step within may_star
  idle-after = record { stays = λ place byte is. rw is }

  pub idle_done : Idle (inside i f done)
  unfolding step within follows
  idle_done = record { stays = λ place byte is. rw is }

  -- a word within an expression
  pub wording_factor : Wording (inside i f due) (λ place letters. inside i f (in_word place letters))
  unfolding step within begins
  wording_factor =
      record {
        first = λ place byte is. rw (letter_no_blank byte is, is);
        further = λ first letters place byte is. rw is;
      }

module _ {rules : List Rule} where
  pub idle_name : Idle (name_due rules)
  unfolding step
  idle_name = record { stays = λ place byte is. rw is }

  pub idle_equals : {place : ℕ} {letters : List ℕ} → Idle (equals_due rules place letters)
  unfolding step after_name
  idle_equals = record { stays = λ place byte is. rw is }

  -- a rule's name
  pub wording_name : Wording (name_due rules) (λ place letters. in_name rules place letters)
  unfolding step
  wording_name =
      record {
        first = λ place byte is. rw (letter_no_blank byte is, is);
        further = λ first letters place byte is. rw is;
      }

-- ---- within an expression

module _ {text : List ℕ} {i : Inside} {f : Frame} {at : ℕ} where
  -- no factor begins where one is due
  pub nothing_begins : blank (byte_at text at) ≡ false → begins_factor (byte_at text at) ≡ false
      → GoesWrong text at (inside i f due) at
  unfolding step within begins
  nothing_begins fresh none =
      let no = no_letter (byte_at text at) none in
      stops_here text in_a_rule at (rw (fresh, no.0, no.1))

  -- a word is over
  pub word_over : {place : ℕ} {letters : List ℕ} → letter (byte_at text at) ≡ false
      → Comes text at (inside i f (in_word place letters)) at (inside i f (after place (word_of place letters)))
  unfolding step within
  word_over past = alike text in_a_rule in_a_rule (rw past)

  -- a factor has no star, or one
  pub no_star : {place : ℕ} {e : Expression} → blank (byte_at text at) ≡ false → eqb (byte_at text at) 42 ≡ false
      → Comes text at (inside i f (after place e)) at (inside i (with_factor place e f) done)
  unfolding step within may_star
  no_star fresh other = alike text in_a_rule in_a_rule (rw (fresh, other))

  pub a_star : {place : ℕ} {e : Expression} → byte_at text at ≡ 42
      → Comes text at (inside i f (after place e)) (at + 1) (inside i (with_factor place (starred at e) f) done)
  unfolding step within may_star blank
  a_star is = goes_on text in_a_rule (rw is)

  -- a further factor begins where one may
  pub further_begins : blank (byte_at text at) ≡ false → begins_factor (byte_at text at) ≡ true
      → Comes text at (inside i f done) at (inside i f due)
  unfolding step within follows begins
  further_begins fresh is = go (or_cases (letter (byte_at text at)) (eqb (byte_at text at) 40) is)
    where
      go : (letter (byte_at text at) ≡ true) ⊎ (eqb (byte_at text at) 40 ≡ true)
          → Comes text at (inside i f done) at (inside i f due)
      go (inl one) = alike text in_a_rule in_a_rule (rw (fresh, one))
      go (inr one) = alike text in_a_rule in_a_rule (rw (fresh, one))

  -- a further sequence is due after `|`
  pub a_bar : byte_at text at ≡ 124
      → Comes text at (inside i f done) (at + 1) (inside i (frame (before at (closed f)) no_factor) due)
  unfolding step within follows begins blank letter
  a_bar is = goes_on text in_a_rule (rw is)

  -- a parenthesis opens, where one more may
  pub opens_there : byte_at text at ≡ 40 → length i.opens < 32
      → Comes text at (inside i f due) (at + 1)
      (inside
      (record { rules = i.rules; place = i.place; name = i.name; opens = record { place = at; around = f } ∷ i.opens })
      blank_frame
      due)
  unfolding step within begins blank letter opened
  opens_there is few = goes_on text in_a_rule (rw (is, lt-ltb (length i.opens) 32 few))

  pub opens_no_more : byte_at text at ≡ 40 → length i.opens ≡ 32 → GoesWrong text at (inside i f due) at
  unfolding step within begins blank letter opened
  opens_no_more is all = stops_here text in_a_rule at (rw (is, all))

  -- where no further factor begins, only the expression so far counts
  pub sequence_over : {other : Frame} → Over text at → closed f ≡ closed other
      → Comes text at (inside i f done) at (inside i other done)
  unfolding step within follows begins
  sequence_over o is =
      let no = no_letter (byte_at text at) o.over in
      alike text in_a_rule in_a_rule (rw (o.fresh, no.0, no.1, is))

  -- what else follows is wrong
  pub nothing_follows : Over text at → eqb (byte_at text at) 124 ≡ false → ends_expression (byte_at text at) ≡ false
      → GoesWrong text at (inside i f done) at
  unfolding step within follows begins
  nothing_follows o bar none =
      let no = no_letter (byte_at text at) o.over in
      let none' = neither (eqb (byte_at text at) 41) (eqb (byte_at text at) 59) none in
      stops_here text in_a_rule at (rw (o.fresh, no.0, no.1, bar, none'.0, none'.1))

  -- a parenthesis closes
  pub closes_there : {o : Open} {opens : List Open} → byte_at text at ≡ 41 → i.opens ≡ o ∷ opens
      → Comes text at (inside i f done) (at + 1)
      (inside
      (record { rules = i.rules; place = i.place; name = i.name; opens = opens })
      o.around
      (after o.place (closed f)))
  unfolding step within follows begins blank letter closes
  closes_there is open-are = goes_on text in_a_rule (rw (is, open-are))

  -- a rule may not end within parentheses, and none may close where none is open
  pub ends_too_soon : {o : Open} {opens : List Open} → byte_at text at ≡ 59 → i.opens ≡ o ∷ opens
      → GoesWrong text at (inside i f done) at
  unfolding step within follows begins blank letter ends
  ends_too_soon is open-are = stops_here text in_a_rule at (rw (is, open-are))

  pub closes_too_soon : byte_at text at ≡ 41 → i.opens ≡ [] → GoesWrong text at (inside i f done) at
  unfolding step within follows begins blank letter closes
  closes_too_soon is open-are = stops_here text in_a_rule at (rw (is, open-are))

  -- a rule ends
  pub rule-ends : byte_at text at ≡ 59 → i.opens ≡ []
      → Comes text at (inside i f done) (at + 1) (name_due (i.rules ++ (rule i.place i.name (closed f) ∷ [])))
  unfolding step within follows begins blank letter ends
  rule-ends is open-are = goes_on text in_a_rule (rw (is, open-are))
