-- What is read is a sheet: a reading that comes to rules has read them as the grammar has it.
use Prim.Native.Nat.{ℕ, ◌<◌, ◌≤◌}
use mathlib.Core.Path.{◌≡◌, refl, sym, ◌∙◌}
use mathlib.Core.Bool.{Bool, true, false}
use mathlib.Core.List.{List, [], ◌∷◌, ◌++◌, append-nil, append_assoc}
use lib.ListN.{length}
use Rattle.sheets.specs.Text.{Token, word, sign, tokens, same, empty_word}
use Rattle.sheets.specs.Grammar.{Rule, rule, IsWord}
use Rattle.sheets.specs.Grammar.{bare, Reads, a_word, an_empty, plain, a_star as read-star, Rules, no_rules, a_rule, Sheet}
use Rattle.syntax.specs.Machine.{before, no_factor, Frame, frame, blank_frame, closed, Open, Spot, due, after, Inside}
use Rattle.syntax.specs.Machine.{State, name_due, equals_due, inside}
use Rattle.syntax.specs.Machine.{sheet, word_of, read_sheet}
use Rattle.syntax.proofs.Bytes.{same_equal, not_same_apart}
use Rattle.syntax.proofs.Steps.{nested, opening, factoring, Seated, seat_name, seat_due, seat_done, seat_after}
use Rattle.syntax.proofs.Steps.{takes_name, takes_factor, whole_name}
use Rattle.syntax.proofs.Signs.{Followed, behind_star, behind-bare, an_equals, an_open, a_star, a_bar, a_close, an_end}
use Rattle.syntax.proofs.Comes.{Comes, comes_end, comes_word, comes_sign, run_comes_to}
use Rattle.syntax.proofs.SheetsRead.{word_named, word_nothing}
use Rattle.syntax.proofs.UnderWay.{no_bar, last_bar, none_read, FrameRead, FullRead, factor_read}
use Rattle.syntax.proofs.UnderWay.{SpotRead, due_read, after_read, done_read}
use Rattle.syntax.proofs.UnderWay.{OpensRead, none_open, nests, unnests, outermost}

-- ---- what is read at a state

-- how a state stands: the rules before the one under way, and where its text begins
data Stands : State → List Token → List Rule → List Token → Type 0 where
  name_stands : {rules : List Rule} {now : List Token} → Stands (name_due rules) now rules now
  equals_stands : {rules : List Rule} {p : ℕ} {name : List ℕ} {now : List Token} → IsWord name
      → Stands (equals_due rules p name) now rules (word p name ∷ now)
  inside-stands : {i : Inside} {f : Frame} {spot : Spot} {d q : ℕ} {from start now : List Token} → IsWord i.name
      → OpensRead d i.opens from start → SpotRead d from f spot now
      → Stands (inside i f spot) now i.rules (word i.place i.name ∷ sign q 61 ∷ start)

-- where a factor may begin in a frame, and behind a factor of it
data SeatStands : Inside → Frame → List Token → List Rule → List Token → Type 0 where
  seat_stands : {i : Inside} {f : Frame} {d q : ℕ} {from start now : List Token} → IsWord i.name
      → OpensRead d i.opens from start → FrameRead d from f now
      → SeatStands i f now i.rules (word i.place i.name ∷ sign q 61 ∷ start)

data BehindStands : Inside → Frame → List Token → List Rule → List Token → Type 0 where
  behind-stands : {i : Inside} {f : Frame} {d q : ℕ} {from start now : List Token} → IsWord i.name
      → OpensRead d i.opens from start → FullRead d from f now
      → BehindStands i f now i.rules (word i.place i.name ∷ sign q 61 ∷ start)

seated_stands : {s : State} {i : Inside} {f : Frame} {now text : List Token} {read : List Rule} → Stands s now read text
    → Seated s (factoring i f) → SeatStands i f now read text
seated_stands name_stands x = elim x [ ]
seated_stands (equals_stands w) x = elim x [ ]
seated_stands (inside-stands w opens (due_read r)) seat_due = seat_stands w opens r
seated_stands (inside-stands w opens (after_read r s)) seat_after = seat_stands w opens (factor_read _ _ r (plain s)).frame_read
seated_stands (inside-stands w opens (done_read r)) seat_done = seat_stands w opens r.frame_read

followed_stands : {s : State} {i : Inside} {f : Frame} {now text : List Token} {read : List Rule} → Stands s now read text
    → Followed s i f → BehindStands i f now read text
followed_stands name_stands x = elim x [ ]
followed_stands (equals_stands w) x = elim x [ ]
followed_stands (inside-stands w opens (due_read r)) x = elim x [ ]
followed_stands (inside-stands w opens (after_read r s)) behind-bare = behind-stands w opens (factor_read _ _ r (plain s))
followed_stands (inside-stands w opens (done_read r)) behind_star = behind-stands w opens r

-- ---- how a state stands behind a word and behind a sign

-- a word is a factor without a star
word_read : {d p : ℕ} {letters : List ℕ} {more : List Token} → length letters ≤ 16
    → Reads bare d (word p letters ∷ more) (word_of p letters) more
word_read {d} {p} {letters} {more} short = go (same letters empty_word) refl
  where
    by_empty : letters ≡ empty_word → Reads bare d (word p letters ∷ more) (word_of p letters) more
    by_empty is = rw (is, word_nothing) an_empty

    go : (t : Bool) → same letters empty_word ≡ t → Reads bare d (word p letters ∷ more) (word_of p letters) more
    go true e = by_empty (same_equal letters empty_word e)
    go false e =
        let w : IsWord letters = record { short = short; free = not_same_apart letters empty_word e } in
        rw (word_named w) (a_word w)

-- nothing of an expression is read where it begins
none_of_it : {d : ℕ} {from : List Token} → FrameRead d from blank_frame from
none_of_it {from = from} = record { begin = from; choices_read = no_bar; factors_read = none_read }

word_stands : {p : ℕ} {letters : List ℕ} {i : Inside} {f : Frame} {more text : List Token} {read : List Rule} → length letters ≤ 16
    → SeatStands i f (word p letters ∷ more) read text → Stands (inside i f (after p (word_of p letters))) more read text
word_stands short (seat_stands w opens r) = inside-stands w opens (after_read r (word_read short))

open_stands : {at : ℕ} {i : Inside} {f : Frame} {more text : List Token} {read : List Rule} → length i.opens < 32
    → SeatStands i f (sign at 40 ∷ more) read text
    → Stands (inside (nested i (opening at f ∷ i.opens)) blank_frame due) more read text
open_stands room (seat_stands {d = d} w opens r) =
    let t = nests d room opens r in inside-stands w t.1 (due_read none_of_it)

bar_stands : {at : ℕ} {i : Inside} {f : Frame} {more text : List Token} {read : List Rule} → BehindStands i f (sign at 124 ∷ more) read text
    → Stands (inside i (frame (before at (closed f)) no_factor) due) more read text
bar_stands {more = more} (behind-stands w opens r) =
    inside-stands w opens (due_read (record { begin = more; choices_read = last_bar r.whole; factors_read = none_read }))

close_stands : {at : ℕ} {i : Inside} {f : Frame} {o : Open} {opens : List Open} {more text : List Token} {read : List Rule}
    → i.opens ≡ o ∷ opens → BehindStands i f (sign at 41 ∷ more) read text
    → Stands (inside (nested i opens) o.around (after o.place (closed f))) more read text
close_stands is (behind-stands w opens r) =
    let t = unnests (rw is at opens) r.whole in inside-stands w t.opens_read t.spot_read

-- ---- a reading that comes to rules

-- the rules read of a text, after others
record Made (text : List Token) (read rules : List Rule) : Type 0 where
  pub further : List Rule
  pub reads : Rules text further
  pub are : rules ≡ read ++ further

-- a rule before those read behind it
end_made : {at : ℕ} {more text : List Token} {read rules : List Rule} {i : Inside} {f : Frame} → i.opens ≡ []
    → BehindStands i f (sign at 59 ∷ more) read text → Made more (i.rules ++ (rule i.place i.name (closed f) ∷ [])) rules
    → Made text read rules
end_made is (behind-stands {i = i} {f} w opens r) m =
    record {
      further = rule i.place i.name (closed f) ∷ m.further;
      reads = a_rule w (outermost (rw is at opens) r.whole) m.reads;
      are = m.are ∙ append_assoc i.rules (rule i.place i.name (closed f) ∷ []) m.further;
    }

made : {s : State} {now text : List Token} {read rules : List Rule} → Comes s now rules → Stands s now read text → Made text read rules
made (comes_end {r} {rules}) name_stands = record { further = []; reads = no_rules; are = sym (append-nil (r ∷ rules)) }
made (comes_word seat_name (takes_name w) rest) name_stands = made rest (equals_stands w)
made (comes_word seated (takes_factor short) rest) stands = made rest (word_stands short (seated_stands stands seated))
made (comes_sign an_equals rest) (equals_stands w) = made rest (inside-stands w none_open (due_read none_of_it))
made (comes_sign (an_open seated room) rest) stands = made rest (open_stands room (seated_stands stands seated))
made (comes_sign a_star rest) (inside-stands w opens (after_read r s)) =
    made rest (inside-stands w opens (done_read (factor_read _ _ r (read-star s))))
made (comes_sign (a_bar behind) rest) stands = made rest (bar_stands (followed_stands stands behind))
made (comes_sign (a_close behind is) rest) stands = made rest (close_stands is (followed_stands stands behind))
made (comes_sign (an_end behind is) rest) stands = end_made is (followed_stands stands behind) (made rest name_stands)

-- what is read as rules is a sheet of them, and they are one or more
pub record Found (text : List ℕ) (rules : List Rule) : Type 0 where
  pub first : Rule
  pub further : List Rule
  pub are : rules ≡ first ∷ further
  pub is_sheet : Sheet text first further

never_none : {s : State} {now : List Token} → Comes s now [] → ⊥
never_none (comes_word seated takes rest) = never_none rest
never_none (comes_sign x rest) = never_none rest

pub read_is_a_sheet : (text : List ℕ) {rules : List Rule} → read_sheet text ≡ sheet rules → Found text rules
read_is_a_sheet text {rules} is = go rules (run_comes_to text 0 whole_name is)
  where
    go : (rules : List Rule) → Comes (name_due []) (tokens 0 text) rules → Found text rules
    go [] c = absurd (never_none c)
    go (first ∷ further) c =
        let m = made c name_stands in
        record { first = first; further = further; are = refl; is_sheet = rw (← m.are) at m.reads }
