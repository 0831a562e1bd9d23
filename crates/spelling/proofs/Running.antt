-- Laws of reading byte by byte: one byte, blanks, letters.
use Prim.Native.Nat.{ℕ, zero, suc, ◌+◌, ◌-◌, ◌≤◌, ◌<◌}
use native.Mathlib.Omega.{arith}
use native.Mathlib.Numerals.{add-one}
use mathlib.Core.Path.{◌≡◌, refl, sym, ap, ◌∙◌}
use mathlib.Core.Bool.{Bool, true, false, cond}
use mathlib.Core.List.{List, [], ◌∷◌, ◌++◌}
use lib.Dec.{ltb}
use lib.ListN.{length, take, drop, length-drop, drop_of_length-le, get_or-eq_default}
use lib.Seq.{drop-cons, take-suc, get_or-drop, length-take-le}
use borrow.Author.Tests.{lt-ltb, ltb-true, ltb-false}
use Rattle.words.proofs.Tests.{never}
use Rattle.sheets.specs.Text.{letter, blank, same, empty_word}
use Rattle.sheets.specs.Grammar.{Rule}
use Rattle.syntax.specs.Machine.{Frame, Inside, Spot, due, in_word, after, done, State, in_name, equals_due, inside}
use Rattle.syntax.specs.Machine.{goes, stops, Outcome, wrong, run, step, at_end, onward, within, may_star, follows, begins, after_name}
use native.Mathlib.Nat.{add-zero}
use Rattle.spelling.specs.Places.{Idle, byte_at, GoesWrong, Comes, PastRow, SkippedTo, LettersTo, letters_at}

-- a state in which the text may not end
pub data Unfinished : State → Type 0 where
  in_a_name : {rules : List Rule} {place : ℕ} {letters : List ℕ} → Unfinished (in_name rules place letters)
  before_equals : {rules : List Rule} {place : ℕ} {letters : List ℕ} → Unfinished (equals_due rules place letters)
  in_a_rule : {i : Inside} {f : Frame} {spot : Spot} → Unfinished (inside i f spot)

-- there a text's end is like the byte 0
end_like_zero : {state : State} → Unfinished state → (at : ℕ) (rest : State → Outcome)
    → at_end state at ≡ onward (step state at 0) rest at
unfolding at_end onward step within may_star follows begins after_name letter blank
end_like_zero (in_a_name {letters = letters}) at rest = go (same letters empty_word)
  where
    go : (test : Bool) → wrong at ≡ onward (cond test stops stops) rest at
    go true = refl
    go false = refl
end_like_zero before_equals at rest = refl
end_like_zero (in_a_rule {spot = due}) at rest = refl
end_like_zero (in_a_rule {spot = in_word place letters}) at rest = refl
end_like_zero (in_a_rule {spot = after place e}) at rest = refl
end_like_zero (in_a_rule {spot = done}) at rest = refl

module _ {text : List ℕ} {at place : ℕ} {state then : State} (on : Comes text at state place then) where
  pub comes_then : {end : ℕ} {last : State} → Comes text place then end last → Comes text at state end last
  comes_then more = record { runs = on.runs ∙ more.runs }

  pub wrong_then : {end : ℕ} → GoesWrong text place then end → GoesWrong text at state end
  wrong_then more = record { ends = on.runs ∙ more.ends }

module _ (text : List ℕ) where
  -- a byte
  run_on : (state : State) (at : ℕ) → at < length text
      → run (drop at text) state at
      ≡ onward (step state at (byte_at text at)) (λ s. run (drop (suc at) text) s (suc at)) at
  unfolding run
  run_on state at below = rw (drop-cons text at 0 below)

  -- the end
  pub run_end : (state : State) (at : ℕ) → length text ≤ at → run (drop at text) state at ≡ at_end state at
  unfolding run
  run_end state at past = rw (drop_of_length-le text past)

  -- a byte, or the end where the text may not end
  run_unfinished : {state : State} → Unfinished state → (at : ℕ)
      → run (drop at text) state at
      ≡ onward (step state at (byte_at text at)) (λ s. run (drop (suc at) text) s (suc at)) at
  unfolding run
  run_unfinished {state} u at = go (ltb at (length text)) refl
    where
      go : (test : Bool) → ltb at (length text) ≡ test
          → run (drop at text) state at
          ≡ onward (step state at (byte_at text at)) (λ s. run (drop (suc at) text) s (suc at)) at
      go true e = run_on state at (ltb-true at (length text) e)
      go false e =
          let past : length text ≤ at = ltb-false at (length text) e in
          rw (drop_of_length-le text past, get_or-eq_default text 0 past) (end_like_zero u at _)

  -- a byte that is there, or that may be the end, brings the reading to the next place, or is where it goes wrong
  module _ {state : State} {at : ℕ} where
    pub comes_on : {further : State} → at < length text → step state at (byte_at text at) ≡ goes further
        → Comes text at state (at + 1) further
    unfolding onward
    comes_on below is = record { runs = run_on state at below ∙ rw (is, add-one) }

    pub goes_on : {further : State} → Unfinished state → step state at (byte_at text at) ≡ goes further
        → Comes text at state (at + 1) further
    unfolding onward
    goes_on u is = record { runs = run_unfinished u at ∙ rw (is, add-one) }

    -- two states in which the byte does the same
    pub alike : {other : State} → Unfinished state → Unfinished other
        → step state at (byte_at text at) ≡ step other at (byte_at text at)
        → Comes text at state at other
    alike u v is = record { runs = run_unfinished u at ∙ rw is (sym (run_unfinished v at)) }

  pub stops_there : (state : State) (at : ℕ) → at < length text → step state at (byte_at text at) ≡ stops → GoesWrong text at state at
  unfolding onward
  stops_there state at below is = record { ends = run_on state at below ∙ rw is }

  pub stops_here : {state : State} → Unfinished state → (at : ℕ) → step state at (byte_at text at) ≡ stops → GoesWrong text at state at
  unfolding onward
  stops_here u at is = record { ends = run_unfinished u at ∙ rw is }

  -- where a test holds that the end would not meet, there is a byte
  pub there_is : (test : ℕ → Bool) (at : ℕ) → test 0 ≡ false → test (byte_at text at) ≡ true → at < length text
  there_is test at none some = go (ltb at (length text)) refl
    where
      go : (below : Bool) → ltb at (length text) ≡ below → at < length text
      go true e = ltb-true at (length text) e
      go false e =
          let past : length text ≤ at = ltb-false at (length text) e in
          let end : test (byte_at text at) ≡ test 0 = ap test (get_or-eq_default text 0 past) in
          let clash : false ≡ true = sym none ∙ sym end ∙ some in
          never clash

  -- ---- rows of bytes

  -- a test holds from a place on, up to another, where it does not
  pub record Row (test : ℕ → Bool) (at to : ℕ) : Type 0 where
    pub low : at ≤ to
    pub high : at ≤ length text → to ≤ length text
    pub each : (k : ℕ) → at ≤ k → k < to → (test (byte_at text k) ≡ true) × (k < length text)
    pub over : test (byte_at text to) ≡ false

  -- a test that the end does not meet
  pub row_by : {at to : ℕ} (test : ℕ → Bool) → test 0 ≡ false → PastRow text (λ byte meets. meets ≡ test byte) at to → Row test at to
  row_by {at} {to} test none p =
      record {
        low = p.low;
        high = p.high;
        each = λ k low below. let q = p.each k low below in (sym q.0, q.1);
        over = go (ltb to (length text)) refl;
      }
    where
      go : (below : Bool) → ltb to (length text) ≡ below → test (byte_at text to) ≡ false
      go true e = sym (p.over (ltb-true to (length text) e))
      go false e = ap test (get_or-eq_default text 0 (ltb-false to (length text) e)) ∙ none

  -- blanks are skipped
  pub row_skipped : {at to : ℕ} → at ≤ length text → PastRow text (λ byte meets. meets ≡ blank byte) at to → SkippedTo text at to
  unfolding blank
  row_skipped {at} {to} within p =
      let row = row_by blank refl p in
      let low = row.low in
      record {
        low = low;
        high = row.high within;
        fresh = row.over;
        passed = λ state idle. let end : at + (to - at) ≡ to = omega arith in rw end at (go state idle row (to - at) (omega arith));
      }
    where
      go : (state : State) → Idle state → Row blank at to → (n : ℕ) → at + n ≤ to → Comes text at state (at + n) state
      go state idle row zero below = record { runs = rw add-zero }
      go state idle row (suc n) below =
          let next : at + suc n ≡ at + n + 1 = omega arith in
          let one = row.each (at + n) (omega arith) (omega arith) in
          rw next (comes_then (go state idle row n (omega arith)) (comes_on one.1 (idle.stays (at + n) (byte_at text (at + n)) one.0)))

  -- letters stand in a row
  pub row_spelled : {at to : ℕ} → at ≤ length text → PastRow text (λ byte meets. meets ≡ letter byte) at to → LettersTo text at to
  unfolding letter
  row_spelled within p =
      let row = row_by letter refl p in
      record { low = row.low; high = row.high within; letters = λ k low below. (row.each k low below).0; past = row.over }

-- a state in which a word begins, and those within the word
pub record Wording (start : State) (within : ℕ → List ℕ → State) : Type 0 where
  pub first : (place byte : ℕ) → letter byte ≡ true → step start place byte ≡ goes (within place (byte ∷ []))
  pub further : (first : ℕ) (letters : List ℕ) (place byte : ℕ) → letter byte ≡ true
      → step (within first letters) place byte
      ≡ cond (ltb (length letters) 16) (goes (within first (letters ++ (byte ∷ [])))) stops

module _ {text : List ℕ} {start : State} {within : ℕ → List ℕ → State} (w : Wording start within)
    {at to : ℕ} (row : LettersTo text at to) where
  so_far : (n : ℕ) → n < 16 → at + suc n ≤ to → Comes text at start (at + suc n) (within at (take (suc n) (drop at text)))
  so_far zero few below =
      let high = row.high in
      let there : at < length text = omega arith in
      let one : take 1 (drop at text) ≡ byte_at text at ∷ [] = rw (drop-cons text at 0 there) in
      rw one (comes_on text there (w.first at (byte_at text at) (row.letters at (omega arith) (omega arith))))
  so_far (suc n) few below =
      let high = row.high in
      let there : at + suc n < length text = omega arith in
      let long : suc n < length (drop at text) = rw length-drop (omega arith) in
      let one = row.letters (at + suc n) (omega arith) (omega arith) in
      let is = w.further at (take (suc n) (drop at text)) (at + suc n) (byte_at text (at + suc n)) one in
      let short : length (take (suc n) (drop at text)) ≡ suc n = length-take-le (suc n) (drop at text) (omega arith) in
      let next : at + suc (suc n) ≡ at + suc n + 1 = omega arith in
      rw (next, take-suc (drop at text) (suc n) 0 long, get_or-drop at text (suc n) 0)
      (comes_then (so_far n (omega arith) (omega arith)) (comes_on text there (is ∙ rw (short, lt-ltb (suc n) 16 few))))

  -- a row of 1 to 16 letters is read as a word
  pub row_reads : at < to → to ≤ at + 16 → Comes text at start to (within at (letters_at text at to))
  row_reads some few =
      let end : at + suc (to - at - 1) ≡ to = omega arith in
      let size : suc (to - at - 1) ≡ to - at = omega arith in
      rw (end, size) at (so_far (to - at - 1) (omega arith) (omega arith))

  -- a longer row goes wrong at the 17th
  pub row_long : at + 16 < to → GoesWrong text at start (at + 16)
  row_long many =
      let high = row.high in
      let there : at + 16 < length text = omega arith in
      let short : length (take 16 (drop at text)) ≡ 16 = length-take-le 16 (drop at text) (rw length-drop (omega arith)) in
      let is = w.further at (take 16 (drop at text)) (at + 16) (byte_at text (at + 16)) (row.letters (at + 16) (omega arith) many) in
      wrong_then (so_far 15 (omega arith) (omega arith)) (stops_there text _ _ there (is ∙ rw short))
