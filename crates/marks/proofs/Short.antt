-- How long the words of a place and its marked line are.
use Prim.Native.Nat.{ℕ, suc, ◌+◌, ◌*◌, ◌≤◌, ◌<◌}
use native.Mathlib.Omega.{arith}
use mathlib.Core.Bool.{Bool, true, false, cond}
use mathlib.Core.List.{List, [], ◌∷◌}
use lib.Dec.{eqb}
use lib.ListN.{length, take, drop, length-append, length-drop, length-replicate}
use Rattle.prints.specs.Digits.{spaced}
use Rattle.prints.proofs.Digits.{digits_short}
use Rattle.marks.specs.declared.Position.{Position}
use Rattle.marks.specs.Marks.{position, behind, position_of, before_of, line_of, column_of, place_text, to_feed, line_text, mark_lines}
use Rattle.marks.proofs.Laws.{front_short}

-- there are no more lines than bytes, and one
lines_few : (front : List ℕ) (at : ℕ) (p : Position) → (behind front at p).line ≤ p.line + length front
unfolding behind
lines_few [] at p = omega arith
lines_few (byte ∷ more) at p = go (eqb byte 10) (lines_few more (at + 1))
  where
    go : (feed : Bool)
        → ((q : Position) → (behind more (at + 1) q).line ≤ q.line + length more)
        → (behind more (at + 1) (cond feed (position (p.line + 1) (at + 1)) p)).line ≤ p.line + suc (length more)
    go true rest = omega (arith, rest (position (p.line + 1) (at + 1)))
    go false rest = omega (arith, rest p)

feed_short : (rest : List ℕ) → length (to_feed rest) ≤ length rest
unfolding to_feed
feed_short [] = omega arith
feed_short (byte ∷ more) = go (eqb byte 10) (feed_short more)
  where
    go : (feed : Bool) → length (to_feed more) ≤ length more → length (cond feed [] (byte ∷ to_feed more)) ≤ suc (length more)
    go true rest = omega arith
    go false rest = omega arith

-- a number below 100,000, after a space
few_digits : (value : ℕ) → value < 100000 → length (spaced value) ≤ 6
unfolding spaced
few_digits value below = omega (arith, digits_short 4 value below)

module _ (sheet : List ℕ) (place : ℕ) where
  line_few : line_of sheet place ≤ length sheet + 1
  unfolding position_of
  line_few = omega (arith, lines_few (take place sheet) 0 (position 1 0), front_short place sheet)

  before_few : before_of sheet place ≤ length sheet
  unfolding before_of
  before_few = omega (arith, front_short place sheet)

  pub place_short : length sheet ≤ 65536 → length (place_text sheet place) ≤ 24
  unfolding place_text
  place_short few =
      simp length-append
      (omega (
        arith,
        few_digits (line_of sheet place) (omega (arith, line_few)),
        few_digits (column_of sheet place) (omega (arith, before_few)),
      ))

  pub mark_short : length (mark_lines sheet place) ≤ 2 * length sheet + 3
  unfolding mark_lines line_text
  mark_short =
      simp length-append
      (omega (
        arith,
        feed_short (drop (position_of sheet place).start sheet),
        length-drop (position_of sheet place).start sheet,
        before_few,
        length-replicate {A = ℕ} (before_of sheet place) 32,
      ))
