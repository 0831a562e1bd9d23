-- What a whole word and a sign do to a reading, as families by cases; and that the machine's steps are those and no others.
use Prim.Native.Nat.{ℕ, ◌≤◌, ◌<◌}
use native.Mathlib.Omega.{arith}
use mathlib.Core.Path.{◌≡◌, refl}
use mathlib.Core.Bool.{Bool, true, false}
use mathlib.Core.List.{List, [], ◌∷◌, ◌++◌}
use lib.ListN.{length}
use borrow.Author.Tests.{lt-ltb, le-ltb}
use Rattle.words.proofs.Tests.{fails}
use Rattle.sheets.specs.Text.{letter, blank, same, empty_word}
use Rattle.sheets.specs.Grammar.{Expression, Rule, IsWord}
use Rattle.syntax.specs.Machine.{Frame, with_factor, Open, due, in_word, after, done}
use Rattle.syntax.specs.Machine.{Inside, State, name_due, in_name, equals_due, inside, goes, stops, word_of}
use Rattle.syntax.specs.Machine.{begins, follows, may_star, within, after_name, step}
use Rattle.syntax.proofs.Bytes.{letter_not_blank, letter_no_other, same_equal, not_same_apart}

-- a rule under way with other parentheses open
abbrev pub nested : Inside → List Open → Inside
nested i opens = record { rules = i.rules; place = i.place; name = i.name; opens = opens }

-- an open parenthesis
abbrev pub opening : ℕ → Frame → Open
opening p f = record { place = p; around = f }

-- ---- words

-- where a word may stand: as a rule's name, or as a factor of an expression under way
pub data Seat : Type 0 where
  naming : List Rule → Seat
  factoring : Inside → Frame → Seat

-- a state in which a word may begin, and where the word then stands
pub data Seated : State → Seat → Type 0 where
  seat_name : {rules : List Rule} → Seated (name_due rules) (naming rules)
  seat_due : {i : Inside} {f : Frame} → Seated (inside i f due) (factoring i f)
  seat_after : {i : Inside} {f : Frame} {p : ℕ} {e : Expression} → Seated (inside i f (after p e)) (factoring i (with_factor p e f))
  seat_done : {i : Inside} {f : Frame} → Seated (inside i f done) (factoring i f)

-- the state in a word
unfoldable pub worded : Seat → ℕ → List ℕ → State
worded (naming rules) p letters = in_name rules p letters
worded (factoring i f) p letters = inside i f (in_word p letters)

-- the state behind a whole word
pub data Takes : Seat → ℕ → List ℕ → State → Type 0 where
  takes_name : {rules : List Rule} {p : ℕ} {letters : List ℕ}
      → IsWord letters → Takes (naming rules) p letters (equals_due rules p letters)
  takes_factor : {i : Inside} {f : Frame} {p : ℕ} {letters : List ℕ}
      → length letters ≤ 16 → Takes (factoring i f) p letters (inside i f (after p (word_of p letters)))

-- a state outside words
pub data Whole : State → Type 0 where
  whole_name : {rules : List Rule} → Whole (name_due rules)
  whole_equals : {rules : List Rule} {p : ℕ} {name : List ℕ} → Whole (equals_due rules p name)
  whole_due : {i : Inside} {f : Frame} → Whole (inside i f due)
  whole-after : {i : Inside} {f : Frame} {p : ℕ} {e : Expression} → Whole (inside i f (after p e))
  whole_done : {i : Inside} {f : Frame} → Whole (inside i f done)

pub seated_whole : {s : State} {seat : Seat} → Seated s seat → Whole s
seated_whole seat_name = whole_name
seated_whole seat_due = whole_due
seated_whole seat_after = whole-after
seated_whole seat_done = whole_done

pub takes_whole : {p : ℕ} {letters : List ℕ} {s : State} {seat : Seat} → Takes seat p letters s → Whole s
takes_whole (takes_name w) = whole_equals
takes_whole (takes_factor short) = whole-after

pub takes_short : {p : ℕ} {letters : List ℕ} {s : State} {seat : Seat} → Takes seat p letters s → length letters ≤ 16
takes_short (takes_name w) = w.short
takes_short (takes_factor short) = short

-- a state has one seat
pub seat_once : {s : State} {seat other : Seat} → Seated s seat → Seated s other → seat ≡ other
seat_once seat_name seat_name = refl
seat_once seat_due seat_due = refl
seat_once seat_after seat_after = refl
seat_once seat_done seat_done = refl

-- ---- the machine's steps at letters and blanks

-- what stops does not go on
pub clash {ℓ} : {A : Type ℓ} {then : State} → stops ≡ goes then → A
clash e = let no_way : ◌≡◌ {A = ℕ} 0 1 = cc in absurd (omega arith)

module _ (at byte : ℕ) where
  -- a blank changes nothing outside words
  pub blank_stays : {s : State} → Whole s → letter byte ≡ false → blank byte ≡ true → step s at byte ≡ goes s
  unfolding step within after_name may_star follows
  blank_stays whole_name l b = rw b
  blank_stays whole_equals l b = rw b
  blank_stays whole_due l b = rw b
  blank_stays whole-after l b = rw b
  blank_stays whole_done l b = rw b

  -- a letter begins a word where there is a seat
  pub letter-begins : {s : State} {seat : Seat} → Seated s seat → letter byte ≡ true → step s at byte ≡ goes (worded seat at (byte ∷ []))
  unfolding step within may_star follows begins worded
  letter-begins seat_name l = rw (letter_not_blank byte l, l)
  letter-begins seat_due l = rw (letter_not_blank byte l, l)
  letter-begins seat_after l = rw (letter_not_blank byte l, letter_no_other byte 42 l (omega arith), l)
  letter-begins seat_done l = rw (letter_not_blank byte l, l)

  -- and only there
  pub record Entered (s then : State) : Type 0 where
    pub seat : Seat
    pub seated : Seated s seat
    pub is : worded seat at (byte ∷ []) ≡ then

  entered : {s then : State} {seat : Seat} → Seated s seat → letter byte ≡ true → step s at byte ≡ goes then → Entered s then
  entered {seat = seat} seated l is = let known = letter-begins seated l in record { seat = seat; seated = seated; is = cc }

  pub begins_seated : {s then : State} → Whole s → letter byte ≡ true → step s at byte ≡ goes then → Entered s then
  unfolding step after_name
  begins_seated whole_name l is = entered seat_name l is
  begins_seated whole_equals l is = clash (rw (letter_not_blank byte l, letter_no_other byte 61 l (omega arith)) at is)
  begins_seated whole_due l is = entered seat_due l is
  begins_seated whole-after l is = entered seat_after l is
  begins_seated whole_done l is = entered seat_done l is

  -- a letter makes a word longer up to 16
  pub letter_grows : (seat : Seat) (p : ℕ) (letters : List ℕ) → letter byte ≡ true → length letters < 16
      → step (worded seat p letters) at byte ≡ goes (worded seat p (letters ++ (byte ∷ [])))
  unfolding step within worded
  letter_grows (naming rules) p letters l short = rw (l, lt-ltb (length letters) 16 short)
  letter_grows (factoring i f) p letters l short = rw (l, lt-ltb (length letters) 16 short)

  pub letter_stops : (seat : Seat) (p : ℕ) (letters : List ℕ) → letter byte ≡ true → 16 ≤ length letters
      → step (worded seat p letters) at byte ≡ stops
  unfolding step within worded
  letter_stops (naming rules) p letters l long = rw (l, le-ltb (length letters) 16 long)
  letter_stops (factoring i f) p letters l long = rw (l, le-ltb (length letters) 16 long)

  -- a byte that is no letter does what it does behind the whole word
  pub word_left : {seat : Seat} {p : ℕ} {letters : List ℕ} {s : State} → Takes seat p letters s → letter byte ≡ false
      → step (worded seat p letters) at byte ≡ step s at byte
  unfolding step within worded
  word_left {letters = letters} (takes_name w) l =
      rw (l, fails (same letters empty_word) (λ e. w.free (same_equal letters empty_word e)))
  word_left (takes_factor short) l = rw l

  -- and where it goes on there is a whole word
  pub record Left (seat : Seat) (p : ℕ) (letters : List ℕ) (then : State) : Type 0 where
    pub behind : State
    pub takes : Takes seat p letters behind
    pub steps : step behind at byte ≡ goes then

  pub left_word : (seat : Seat) {p : ℕ} {letters : List ℕ} {then : State} → length letters ≤ 16 → letter byte ≡ false
      → step (worded seat p letters) at byte ≡ goes then → Left seat p letters then
  unfolding step within worded
  left_word (factoring i f) {p} {letters} short l is =
      record { behind = inside i f (after p (word_of p letters)); takes = takes_factor short; steps = rw l at is }
  left_word (naming rules) {p} {letters} {then} short l is = go (same letters empty_word) refl
    where
      go : (t : Bool) → same letters empty_word ≡ t → Left (naming rules) p letters then
      go true e = clash (rw (l, e) at is)
      go false e =
          record {
            behind = equals_due rules p letters;
            takes = takes_name (record { short = short; free = not_same_apart letters empty_word e });
            steps = rw (l, e) at is;
          }
