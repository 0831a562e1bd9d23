-- Reading names and rules follows the reading byte by byte.
use Prim.Native.Nat.{ℕ, ◌+◌, ◌≤◌, ◌<◌}
use native.Mathlib.Omega.{arith}
use mathlib.Core.Path.{◌≡◌, refl, sym, ◌∙◌}
use mathlib.Core.Bool.{Bool, true, false, ◌||◌}
use mathlib.Core.List.{List, [], ◌∷◌}
use lib.Dec.{eqb}
use lib.ListN.{length}
use borrow.Author.Tests.{eqb-true}
use Rattle.words.proofs.Tests.{never}
use Rattle.sheets.specs.Text.{letter, blank, same, empty_word}
use Rattle.sheets.specs.Grammar.{Rule}
use Rattle.syntax.specs.Machine.{blank_frame, closed_by, chosen, Open, name_due, equals_due}
use Rattle.syntax.specs.Machine.{step, after_name}
use Rattle.spelling.specs.Places.{byte_at, letters_at, SkippedTo, LettersTo, Comes, Fresh}
use Rattle.spelling.proofs.Running.{comes_then, wrong_then, row_reads, row_long, stops_there, stops_here, alike, goes_on}
use Rattle.spelling.proofs.Running.{in_a_name, before_equals}
use Rattle.spelling.proofs.States.{idle_name, idle_equals, wording_name, rule-ends, closes_too_soon}
use Rattle.outline.specs.Parts.{NameDone, NameWrong, BodyDone, Finished, FinishedWrong, ExpressionWrong}
use Rattle.outline.specs.Outlined.{RuleDone, RuleWrong}
use Rattle.outline.specs.declared.RawNode.{RawNode}
use Rattle.outline.specs.declared.Cursor.{Cursor}
use Rattle.outline.proofs.Factors.{byte_there}

-- ---- names

module _ {text : List ℕ} {at : ℕ} where
  pub name_none : at < length text → Fresh text at → letter (byte_at text at) ≡ false → NameWrong text at at
  unfolding step
  name_none below fresh none =
      record { within = omega arith; wrong = λ rules. stops_there text (name_due rules) at below (rw (fresh.fresh, none)) }

  module _ {end : ℕ} (row : LettersTo text at end) where
    pub name_long : at + 16 < end → NameWrong text at (at + 16)
    name_long many =
        let high = row.high in
        record { within = omega arith; wrong = λ rules. row_long wording_name row many }

    module _ (some : at < end) (few : end ≤ at + 16) where
      -- `empty` is no name
      pub name_empty : same (letters_at text at end) empty_word ≡ true → NameWrong text at end
      unfolding step
      name_empty is =
          record {
            within = row.high;
            wrong = λ rules.
                wrong_then (row_reads wording_name row some few) (stops_here text in_a_name end (rw (row.past, is)));
          }

      module _ (other : same (letters_at text at end) empty_word ≡ false) {equals : ℕ} (s : SkippedTo text end equals) where
        to_equals : (rules : List Rule) → Comes text at (name_due rules) equals (equals_due rules at (letters_at text at end))
        unfolding step
        to_equals rules =
            comes_then (row_reads wording_name row some few)
            (comes_then (alike text in_a_name before_equals (rw (row.past, other))) (s.passed _ idle_equals))

        pub name_unequal : eqb (byte_at text equals) 61 ≡ false → NameWrong text at equals
        unfolding step after_name
        name_unequal none =
            record {
              within = s.high;
              wrong = λ rules. wrong_then (to_equals rules) (stops_here text before_equals equals (rw (s.fresh, none)));
            }

        pub name_read : byte_at text equals ≡ 61 → NameDone text at (equals + 1)
        unfolding step after_name blank
        name_read is =
            let low = s.low in
            record {
              name_end = end;
              letters = row;
              further = omega arith;
              within = omega (arith, byte_there text equals 61 refl is);
              comes = λ rules. comes_then (to_equals rules) (goes_on text before_equals (rw is));
            }

-- ---- a rule's end

-- nothing is open where all nestings are left
none_open : (opens : List Open) → length opens + 32 ≡ 32 → opens ≡ []
none_open [] left = refl
none_open (o ∷ opens) left = absurd (omega arith)

module _ {text : List ℕ} {read : Cursor} where
  -- a `)` comes before the `;`
  pub finish_shut : eqb (byte_at text read.at) 59 ≡ false → FinishedWrong text read read.at
  finish_shut other =
      record {
        wrong = λ p.
            record {
              within = p.within;
              long = p.put.long;
              wrong = λ i f left.
                  wrong_then (p.comes i f left)
                  (closes_too_soon (ends_group (eqb (byte_at text read.at) 41) refl p.stops.ends) (none_open i.opens left));
            };
      }
    where
      ends_group : (test : Bool) → eqb (byte_at text read.at) 41 ≡ test → (test || eqb (byte_at text read.at) 59) ≡ true
          → byte_at text read.at ≡ 41
      ends_group true e ends = eqb-true _ _ e
      ends_group false e ends = never (sym other ∙ ends)

  pub finish_read : {end : ℕ} → byte_at text read.at ≡ 59 → SkippedTo text (read.at + 1) end
      → Finished text read (record { at = end; next = read.next; from = read.from })
  unfolding closed_by chosen
  finish_read is s =
      record {
        body = λ p.
            let low = s.low in
            record {
              expression = p.expression;
              further = omega (arith, p.further);
              within = s.high;
              put = p.put;
              comes = λ i f left.
                  comes_then (p.comes i f left)
                  (comes_then (rule-ends is (none_open i.opens left)) (s.passed _ idle_name));
              stops = record { fresh = s.fresh };
            };
      }

-- ---- rules

pub rule_unnamed : {text : List ℕ} {at place : ℕ} {before : List RawNode} → NameWrong text at place → RuleWrong text at before place before
rule_unnamed m = record { within = m.within; long = refl; wrong = m.wrong }

module _ {text : List ℕ} {at begin : ℕ} (d : NameDone text at begin) {before after : List RawNode} where
  pub rule_wrong : {place : ℕ} → ExpressionWrong text begin 32 before place after → RuleWrong text at before place after
  rule_wrong p =
      record { within = p.within; long = p.long; wrong = λ rules. wrong_then (d.comes rules) (p.wrong _ blank_frame refl) }

  pub rule_as : {n : ℕ} {body : Cursor} → BodyDone text begin 32 before n body after → RuleDone text at before n body after
  rule_as p =
      record {
        name_end = d.name_end;
        letters = d.letters;
        expression = p.expression;
        further = omega (arith, d.further, p.further);
        within = p.within;
        fresh = p.stops;
        put = p.put;
        comes = λ rules. comes_then (d.comes rules) (p.comes _ blank_frame refl);
      }
