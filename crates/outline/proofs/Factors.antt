-- Reading words, parentheses and stars follows the reading byte by byte.
use Prim.Native.Nat.{ℕ, ◌+◌, ◌≤◌, ◌<◌}
use native.Mathlib.Omega.{arith}
use mathlib.Core.Path.{◌≡◌, refl}
use mathlib.Core.Bool.{true, false, cond, ◌||◌}
use mathlib.Core.List.{List, [], ◌∷◌}
use lib.Dec.{eqb}
use lib.ListN.{length}
use borrow.Author.Tests.{eqb-true, eq-eqb}
use Rattle.sheets.specs.Text.{letter, same, empty_word}
use Rattle.sheets.specs.Grammar.{Expression, starred}
use Rattle.book.specs.declared.Node.{Node}
use Rattle.book.specs.declared.Node.TheVariants.{Empty, Token}
use Rattle.syntax.specs.Machine.{Frame, closed_by, chosen}
use Rattle.syntax.specs.Machine.{Inside, State, word_of}
use Rattle.spelling.specs.Places.{byte_at, letters_at, SkippedTo, LettersTo, Fresh}
use Rattle.spelling.proofs.Running.{comes_then, wrong_then, there_is, row_reads, row_long}
use Rattle.spelling.proofs.States.{idle_due, idle-after, idle_done, wording_factor, nothing_begins, word_over, no_star, a_star}
use Rattle.spelling.proofs.States.{opens_there, opens_no_more, closes_there, ends_too_soon}
use Rattle.outline.specs.Raw.{raw, raw_star}
use Rattle.outline.specs.Parts.{Laid, PartDone, PartWrong, FactorWrong, ExpressionWrong}
use Rattle.outline.specs.Parts.{WordDone, WordWrong, Shut, ShutWrong, Starred}
use Rattle.outline.specs.declared.RawNode.{RawNode}
use Rattle.outline.specs.declared.Cursor.{Cursor}
use Rattle.outline.proofs.Filling.{filled_word, filled_star}

-- a byte that is not 0 is there
pub byte_there : (text : List ℕ) (at byte : ℕ) → eqb 0 byte ≡ false → byte_at text at ≡ byte → at < length text
byte_there text at byte some is = there_is text (λ b. eqb b byte) at some (eq-eqb (byte_at text at) byte is)

-- ---- blanks before a part

module _ {text : List ℕ} {Begun : Frame → Frame} {at place depth : ℕ} {before after : List RawNode} (s : SkippedTo text at place) where
  pub wrong_after_blanks : {end : ℕ} → PartWrong text Begun place depth before end after → PartWrong text Begun at depth before end after
  wrong_after_blanks p =
      record { within = p.within; long = p.long; wrong = λ i f left. wrong_then (s.passed _ idle_due) (p.wrong i f left) }

  pub done_after_blanks : {Ended : Inside → Frame → ℕ → Expression → State} {Stops : ℕ → Type 0} {n : ℕ} {r : Cursor}
      → PartDone text Begun Ended Stops place depth before n r after
      → PartDone text Begun Ended Stops at depth before n r after
  done_after_blanks p =
      let low = s.low in
      record {
        expression = p.expression;
        further = omega (arith, p.further);
        within = p.within;
        put = p.put;
        comes = λ i f left. comes_then (s.passed _ idle_due) (p.comes i f left);
        stops = p.stops;
      }

-- ---- words

module _ {text : List ℕ} {at : ℕ} {before : List RawNode} where
  pub word_none : at ≤ length text → Fresh text at → eqb (byte_at text at) 40 ≡ false → letter (byte_at text at) ≡ false
      → WordWrong text at before at before
  word_none within fresh group none =
      record {
        wrong = λ depth.
            record { within = within; long = refl; wrong = λ i f left. nothing_begins fresh.fresh (rw (none, group)) };
      }

  module _ {end : ℕ} (row : LettersTo text at end) where
    pub word_long : at + 16 < end → WordWrong text at before (at + 16) before
    word_long many =
        let high = row.high in
        record {
          wrong = λ depth.
              record { within = omega arith; long = refl; wrong = λ i f left. row_long wording_factor row many };
        }

    pub word_read : {n next : ℕ} {node : Node} {after : List RawNode} → at < end → end ≤ at + 16
        → node ≡ cond (same (letters_at text at end) empty_word) Empty (Token 0)
        → Laid before n next (raw node at ∷ []) after
        → WordDone text at before n (record { at = end; next = next; from = at }) after
    word_read some few is p =
        record {
          bare = λ depth.
              record {
                expression = word_of at (letters_at text at end);
                further = some;
                within = row.high;
                put = filled_word at (letters_at text at end) is p;
                comes = λ i f left. comes_then (row_reads wording_factor row some few) (word_over row.past);
                stops = tt;
              };
        }

-- ---- parentheses

-- what is within a parenthesis
abbrev within_it : Inside → ℕ → Frame → Inside
within_it i place f =
    record { rules = i.rules; place = i.place; name = i.name; opens = record { place = place; around = f } ∷ i.opens }

-- an expression that is wrong within a parenthesis
pub group_wrong : {text : List ℕ} {place depth end : ℕ} {before after : List RawNode}
    → eqb (byte_at text place) 40 ≡ true
    → ExpressionWrong text (place + 1) depth before end after
    → FactorWrong text place (depth + 1) before end after
group_wrong {place} is p =
    record {
      within = p.within;
      long = p.long;
      wrong = λ i f left.
          wrong_then (opens_there (eqb-true _ _ is) (omega arith)) (p.wrong (within_it i place f) f (omega arith));
    }

module _ {text : List ℕ} {place : ℕ} {inner : Cursor} where
  -- a `;` comes before the `)`
  pub shut_open : eqb (byte_at text inner.at) 41 ≡ false → ShutWrong text place inner inner.at
  shut_open other =
      record {
        wrong = λ is p.
            record {
              within = p.within;
              long = p.put.long;
              wrong = λ i f left.
                  wrong_then (opens_there (eqb-true _ _ is) (omega arith))
                  (wrong_then (p.comes (within_it i place f) f (omega arith)) (ends_too_soon (ends-rule p.stops.ends) refl));
            };
      }
    where
      ends-rule : (eqb (byte_at text inner.at) 41 || eqb (byte_at text inner.at) 59) ≡ true → byte_at text inner.at ≡ 59
      ends-rule e = eqb-true _ _ (rw other at e)

  pub shut_closed : byte_at text inner.at ≡ 41
      → Shut text place inner (record { at = inner.at + 1; next = inner.next; from = place })
  unfolding closed_by chosen
  shut_closed closing =
      record {
        bare = λ is p.
            record {
              expression = p.expression;
              further = omega (arith, p.further);
              within = omega (arith, byte_there text inner.at 41 refl closing);
              put = p.put;
              comes = λ i f left.
                  comes_then (opens_there (eqb-true _ _ is) (omega arith))
                  (comes_then (p.comes (within_it i place f) f (omega arith)) (closes_there closing refl));
              stops = tt;
            };
      }

-- no parenthesis may open where no nesting is left
pub no_nesting : {text : List ℕ} {at : ℕ} {before : List RawNode} → at ≤ length text → byte_at text at ≡ 40
    → FactorWrong text at 0 before at before
no_nesting within is = record { within = within; long = refl; wrong = λ i f left. opens_no_more is (omega arith) }

-- ---- stars

module _ {text : List ℕ} {bare : Cursor} {between : List RawNode} {place : ℕ} (s : SkippedTo text bare.at place) where
  pub star_none : eqb (byte_at text place) 42 ≡ false
      → Starred text bare between (record { at = place; next = bare.next; from = bare.from }) between
  star_none other =
      record {
        factor = λ p.
            let low = s.low in
            record {
              expression = p.expression;
              further = omega (arith, p.further);
              within = s.high;
              put = p.put;
              comes = λ i f left. comes_then (p.comes i f left) (comes_then (s.passed _ idle-after) (no_star s.fresh other));
              stops = record { fresh = s.fresh };
            };
      }

  pub star_one : {next end : ℕ} {after : List RawNode} → byte_at text place ≡ 42
      → Laid between bare.next next (raw_star bare.next place) after
      → SkippedTo text (place + 1) end
      → Starred text bare between (record { at = end; next = next; from = bare.from }) after
  star_one is put t =
      record {
        factor = λ p.
            let low = s.low in
            let also = t.low in
            record {
              expression = starred place p.expression;
              further = omega (arith, p.further);
              within = t.high;
              put = filled_star p.expression p.put put;
              comes = λ i f left.
                  comes_then (p.comes i f left)
                  (comes_then (s.passed _ idle-after) (comes_then (a_star is) (t.passed _ idle_done)));
              stops = record { fresh = t.fresh };
            };
      }
