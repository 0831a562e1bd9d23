-- Laws of lines and columns: a text gone through byte by byte, and a line cut off at its line feed.
use Prim.Native.Nat.{ℕ, zero, suc, ◌+◌, ◌-◌, ◌≤◌, ◌<◌}
use native.Mathlib.Omega.{arith}
use native.Mathlib.Numerals.{add-one}
use mathlib.Core.Path.{◌≡◌, refl, sym, ap, ◌∙◌}
use mathlib.Core.Bool.{Bool, true, false, cond}
use mathlib.Core.List.{List, [], ◌∷◌}
use lib.Dec.{eqb, ltb}
use borrow.Author.Tests.{ltb-false}
use Rattle.std.specs.List.{position_or_len}
use Rattle.std.specs.Prelude.{Option, Some, None}
use lib.ListN.{length, get_or, take, drop, length-drop, drop_of_length-le}
use lib.Seq.{drop-cons, take_all}
use Rattle.marks.specs.declared.Position.{Position}
use Rattle.lines.specs.Text.{text}
use Rattle.prints.specs.Digits.{spaced}
use Rattle.lines.specs.Lines.{line_feed}
use Rattle.prints.specs.declared.Page.{Page}
use Rattle.prints.specs.Prints.{spaces}
use Rattle.prints.specs.Pages.{Added}
use Rattle.prints.proofs.Laws.{added_then}
use Rattle.marks.specs.Marks.{position, behind, position_of, before_of, place_text, to_feed, line_text, mark_lines}

-- the position past a byte at a place
abbrev pub past_byte : Position → ℕ → ℕ → Position
past_byte p at byte = cond (eqb byte 10) (position (p.line + 1) (at + 1)) p

-- the bytes before a place are gone through
pub record Gone (front : List ℕ) (at : ℕ) (p : Position) : Type 0 where
  pub within : at ≤ length front
  pub starts : p.start ≤ at
  pub lines : p.line ≤ at + 1
  pub is : behind (drop at front) at p ≡ behind front 0 (position 1 0)

pub gone_none : (front : List ℕ) → Gone front 0 (position 1 0)
gone_none front = record { within = omega arith; starts = omega arith; lines = omega arith; is = refl }

pub gone_more : {front : List ℕ} {at : ℕ} {p : Position}
    → at < length front
    → Gone front at p
    → Gone front (at + 1) (past_byte p at (get_or front at 0))
unfolding behind
gone_more {front} {at} {p} below g =
    record {
      within = omega arith;
      starts = starts (eqb (get_or front at 0) 10);
      lines = lines (eqb (get_or front at 0) 10);
      is =
          ap (λ (l : List ℕ). behind l (at + 1) (past_byte p at (get_or front at 0))) next
          ∙ sym (ap (λ (l : List ℕ). behind l at p) (drop-cons front at 0 below))
          ∙ g.is;
    }
  where
    next : drop (at + 1) front ≡ drop (suc at) front
    next = rw add-one

    starts : (feed : Bool) → (cond feed (position (p.line + 1) (at + 1)) p).start ≤ at + 1
    starts true = omega arith
    starts false = omega (arith, g.starts)

    lines : (feed : Bool) → (cond feed (position (p.line + 1) (at + 1)) p).line ≤ at + 1 + 1
    lines true = omega (arith, g.lines)
    lines false = omega (arith, g.lines)

pub gone_all : {front : List ℕ} {at : ℕ} {p : Position}
    → length front ≤ at
    → Gone front at p
    → p ≡ behind front 0 (position 1 0)
unfolding behind
gone_all {front} {at} {p} past g = sym (ap (λ (l : List ℕ). behind l at p) (drop_of_length-le front past)) ∙ g.is

-- ---- the bytes before a place

pub front_short : (place : ℕ) (sheet : List ℕ) → length (take place sheet) ≤ length sheet
front_short zero sheet = omega arith
front_short (suc place) [] = omega arith
front_short (suc place) (byte ∷ sheet) = omega (arith, front_short place sheet)

module _ (sheet : List ℕ) (place : ℕ) {front : List ℕ} {p : Position} (is : front ≡ take place sheet)
    (found : p ≡ behind front 0 (position 1 0)) where
  pub front-position : p ≡ position_of sheet place
  unfolding position_of
  front-position = rw is at found

  pub front-within : length front ≤ length sheet
  front-within = rw is (front_short place sheet)

  pub front-before : length front - p.start ≡ before_of sheet place
  unfolding before_of
  front-before = rw (front-position, is)

-- ---- a line

-- whether a byte is a line feed
abbrev pub feed : ℕ → Bool
feed byte = eqb byte 10

-- the bytes before the first line feed
feed_taken : (rest : List ℕ) → take (position_or_len feed rest) rest ≡ to_feed rest
unfolding to_feed
feed_taken [] = refl
feed_taken (byte ∷ more) = go (eqb byte 10) refl (feed_taken more)
  where
    go : (t : Bool)
        → eqb byte 10 ≡ t
        → take (position_or_len feed more) more ≡ to_feed more
        → take (position_or_len feed (byte ∷ more)) (byte ∷ more) ≡ to_feed (byte ∷ more)
    go true e taken = rw e refl
    go false e taken =
        let one : 1 + position_or_len feed more ≡ suc (position_or_len feed more) = omega arith in
        rw (e, one) (ap (λ (l : List ℕ). byte ∷ l) taken)

module _ (rest : List ℕ) {found : Option ℕ}
    (is : found ≡ cond (ltb (position_or_len feed rest) (length rest)) (Some (position_or_len feed rest)) None) where
  pub feed_found : {at : ℕ} → found ≡ Some at → take at rest ≡ to_feed rest
  feed_found {at} some = go (ltb (position_or_len feed rest) (length rest)) (sym is ∙ some)
    where
      go : (t : Bool) → cond t (Some (position_or_len feed rest)) None ≡ Some at → take at rest ≡ to_feed rest
      go true e = let same : position_or_len feed rest ≡ at = cc in rw (← same) (feed_taken rest)
      go false e = absurd (let z : ◌≡◌ {A = ℕ} 0 1 = cc in omega arith)

  pub feed_missed : found ≡ None → rest ≡ to_feed rest
  feed_missed none = go (ltb (position_or_len feed rest) (length rest)) refl (sym is ∙ none)
    where
      go : (t : Bool)
          → ltb (position_or_len feed rest) (length rest) ≡ t
          → cond t (Some (position_or_len feed rest)) None ≡ None
          → rest ≡ to_feed rest
      go true long e = absurd (let z : ◌≡◌ {A = ℕ} 0 1 = cc in omega arith)
      go false long e =
          sym (take_all (position_or_len feed rest) rest (ltb-false _ _ long)) ∙ feed_taken rest

-- the line of a place, from the rest of the text on where it starts
pub rest_line : (sheet : List ℕ) (place : ℕ) {p : Position}
    → p ≡ position_of sheet place
    → to_feed (take (length sheet - p.start) (drop p.start sheet)) ≡ line_text sheet place
unfolding line_text
rest_line sheet place {p} is =
    rw (take_all (length sheet - p.start) (drop p.start sheet) (omega (arith, length-drop p.start sheet)), is)

-- ---- what is added

-- line and column of a place
pub added_place : {page p₁ p₂ p₃ end : Page} (sheet : List ℕ) (place : ℕ) {p : Position} (before : ℕ)
    → p ≡ position_of sheet place
    → before ≡ before_of sheet place
    → Added page p₁ (text " line")
    → Added p₁ p₂ (spaced p.line)
    → Added p₂ p₃ (text " column")
    → Added p₃ end (spaced (before + 1))
    → Added page end (place_text sheet place)
unfolding place_text
added_place sheet place before is many a b c d = rw (is, many) at (added_then (added_then (added_then a b) c) d)

-- the line of a place, with the mark
pub added_mark : {page p₁ p₂ p₃ end : Page} (sheet : List ℕ) (place : ℕ) {line : List ℕ} (before : ℕ)
    → line ≡ line_text sheet place
    → before ≡ before_of sheet place
    → Added page p₁ line
    → Added p₁ p₂ line_feed
    → Added p₂ p₃ (spaces before)
    → Added p₃ end (text "^\n")
    → Added page end (mark_lines sheet place)
unfolding mark_lines
added_mark sheet place before is many a b c d = rw (is, many) at (added_then (added_then (added_then a b) c) d)
