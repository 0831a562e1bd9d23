-- Reading sequences and expressions follows the reading byte by byte.
use Prim.Native.Nat.{ℕ, ◌+◌, ◌-◌}
use native.Mathlib.Omega.{arith}
use mathlib.Core.Path.{◌≡◌, refl, ◌∙◌}
use mathlib.Core.Bool.{true, false}
use mathlib.Core.List.{List}
use lib.Dec.{eqb}
use Rattle.sheets.specs.Grammar.{choice, sequence}
use Rattle.book.specs.declared.Node.TheVariants.{Either, Then}
use Rattle.syntax.specs.Machine.{before as before-bar, no_factor, so_far, frame, blank_frame, closed_by, chosen, with_factor, joined}
use Rattle.spelling.specs.Places.{begins_factor, ends_expression, byte_at}
use Rattle.spelling.proofs.Running.{comes_then, wrong_then}
use Rattle.spelling.proofs.States.{further_begins, a_bar, sequence_over, nothing_follows}
use Rattle.outline.specs.Parts.{Joined, FactorDone, FactorWrong, FactorsDone, SequenceDone, SequenceWrong, SequencesDone}
use Rattle.outline.specs.Parts.{ExpressionDone, ExpressionWrong}
use Rattle.outline.specs.declared.RawNode.{RawNode}
use Rattle.outline.specs.declared.Cursor.{Cursor}
use Rattle.outline.proofs.Filling.{filled_choice, filled_sequence}

-- what a loop over further parts keeps to: what is read where it begins, whatever stood in the buffer before, is read still
pub record Onward (Done : List RawNode → Cursor → List RawNode → Type 0) (first : Cursor) (between : List RawNode) (part : Cursor)
    (new : List RawNode) : Type 0 where
  pub on : {old : List RawNode} → Done old first between → Done old part new

module _ {text : List ℕ} {at depth : ℕ} {old : List RawNode} where
  -- the first factor
  pub first_factor : {n : ℕ} {r : Cursor} {new : List RawNode} → FactorDone text at depth old n r new → FactorsDone text at depth old n r new
  unfolding with_factor joined
  first_factor p =
      record {
        expression = p.expression;
        further = p.further;
        within = p.within;
        put = p.put;
        comes = λ i f left. p.comes i (frame f.choices no_factor) left;
        stops = p.stops;
      }

  pub first_factor_wrong : {place : ℕ} {new : List RawNode} → FactorWrong text at depth old place new
      → SequenceWrong text at depth old place new
  first_factor_wrong p =
      record { within = p.within; long = p.long; wrong = λ i f left. p.wrong i (frame f.choices no_factor) left }

  -- the first sequence
  pub first_sequence : {n : ℕ} {r : Cursor} {new : List RawNode} → SequenceDone text at depth old n r new
      → SequencesDone text at depth old n r new
  first_sequence p =
      record {
        expression = p.expression;
        further = p.further;
        within = p.within;
        put = p.put;
        comes = λ i f left. p.comes i blank_frame left;
        stops = p.stops;
      }

  pub first_sequence_wrong : {place : ℕ} {new : List RawNode} → SequenceWrong text at depth old place new
      → ExpressionWrong text at depth old place new
  first_sequence_wrong p = record { within = p.within; long = p.long; wrong = λ i f left. p.wrong i blank_frame left }

  module _ {n : ℕ} {part : Cursor} {between : List RawNode} where
    module _ (p : FactorsDone text at depth old n part between) where
      -- a further factor, or one that is wrong
      pub further_factor : {further r : Cursor} {left right : ℕ} {middle new : List RawNode}
          → begins_factor (byte_at text part.at) ≡ true
          → FactorDone text part.at depth between part.next further middle
          → left ≡ part.next - 1
          → right ≡ further.next - 1
          → Joined (Then left right) further.from part further middle r new
          → FactorsDone text at depth old n r new
      unfolding with_factor joined
      further_factor {further} begins e l m j =
          rw (j.reached, j.begun_at) (record {
            expression = sequence further.from p.expression e.expression;
            further = omega (arith, p.further, e.further);
            within = e.within;
            put = filled_sequence p.expression p.put e.expression e.put (rw (l, m) at j.put);
            comes = λ i f left.
                comes_then (p.comes i f left)
                (comes_then (further_begins p.stops.fresh begins) (e.comes i (frame f.choices (so_far p.expression)) left));
            stops = e.stops;
          })

      pub further_factor_wrong : {place : ℕ} {middle : List RawNode}
          → begins_factor (byte_at text part.at) ≡ true
          → FactorWrong text part.at depth between place middle
          → SequenceWrong text at depth old place middle
      further_factor_wrong begins q =
          record {
            within = q.within;
            long = q.long ∙ p.put.long;
            wrong = λ i f left.
                wrong_then (p.comes i f left)
                (wrong_then (further_begins p.stops.fresh begins) (q.wrong i (frame f.choices (so_far p.expression)) left));
          }

      -- no more factors
      pub factors_over : begins_factor (byte_at text part.at) ≡ false → SequenceDone text at depth old n part between
      factors_over over =
          record {
            expression = p.expression;
            further = p.further;
            within = p.within;
            put = p.put;
            comes = p.comes;
            stops = record { fresh = p.stops.fresh; over = over };
          }

    module _ (p : SequencesDone text at depth old n part between) where
      -- a further sequence, or one that is wrong
      pub further_sequence : {further r : Cursor} {left right : ℕ} {middle new : List RawNode}
          → byte_at text part.at ≡ 124
          → SequenceDone text (part.at + 1) depth between part.next further middle
          → left ≡ part.next - 1
          → right ≡ further.next - 1
          → Joined (Either left right) part.at part further middle r new
          → SequencesDone text at depth old n r new
      unfolding closed_by chosen
      further_sequence {further} bar e l m j =
          rw (j.reached, j.begun_at) (record {
            expression = choice part.at p.expression e.expression;
            further = omega (arith, p.further, e.further);
            within = e.within;
            put = filled_choice p.expression p.put e.expression e.put (rw (l, m) at j.put);
            comes = λ i f left.
                comes_then (p.comes i f left)
                (comes_then (a_bar bar)
                (comes_then (e.comes i (frame (before-bar part.at p.expression) no_factor) left)
                (sequence_over e.stops refl)));
            stops = e.stops;
          })

      pub further_sequence_wrong : {place : ℕ} {middle : List RawNode}
          → byte_at text part.at ≡ 124
          → SequenceWrong text (part.at + 1) depth between place middle
          → ExpressionWrong text at depth old place middle
      unfolding closed_by chosen
      further_sequence_wrong bar q =
          record {
            within = q.within;
            long = q.long ∙ p.put.long;
            wrong = λ i f left.
                wrong_then (p.comes i f left)
                (wrong_then (a_bar bar) (q.wrong i (frame (before-bar part.at p.expression) no_factor) left));
          }

      -- no more sequences: an expression ends there, or nothing that may follow stands there
      pub sequences_over : ends_expression (byte_at text part.at) ≡ true → ExpressionDone text at depth old n part between
      sequences_over ends =
          record {
            expression = p.expression;
            further = p.further;
            within = p.within;
            put = p.put;
            comes = p.comes;
            stops = record { ends = ends };
          }

      pub sequences_broken : eqb (byte_at text part.at) 124 ≡ false → ends_expression (byte_at text part.at) ≡ false
          → ExpressionWrong text at depth old part.at between
      sequences_broken other none =
          record {
            within = p.within;
            long = p.put.long;
            wrong = λ i f left. wrong_then (p.comes i f left) (nothing_follows p.stops other none);
          }
