-- The least measures of nodes exist apart from the code, and compute: on a list of measures turns upward are made until one changes nothing.
use Prim.Native.Nat.{ℕ, zero, suc, ◌≤◌, ◌<◌}
use native.Mathlib.Omega.{arith}
use borrow.Author.Tests.{ltb-true, ltb-false}
use mathlib.Core.Path.{◌≡◌, refl}
use mathlib.Core.Bool.{Bool, true, false, ◌||◌}
use mathlib.Core.List.{List}
use lib.Dec.{ltb}
use lib.ListN.{length, set, replicate}
use Rattle.book.specs.declared.Node.{Node}
use Rattle.book.specs.declared.Node.TheVariants.{Fail}
use Rattle.rules.specs.Growth.{total, Sound, Visited}
use Rattle.rules.proofs.Growing.{grown_none, grown_sound, Turning, Below, turning_none, turning_more, turning_end}
use Rattle.rules.proofs.Growing.{Settling, settling_none, settling_more}
use Rattle.lengths.specs.Least.{length_at, LeastCut}
use Rattle.lengths.specs.Measures.{FittingLaws, length_fits}
use Rattle.lengths.specs.Falling.{measure_at, measure_by, at_most, SomeAt, NoMore, AllCap, Leasts}
use Rattle.lengths.proofs.Kinded.{Fitting}
use Rattle.lengths.proofs.Lowering.{all_cap, caps_sound, kept_closed, visit_lowers, changed_less, turned_leasts}
use Rattle.lengths.proofs.Lengths.{least_cut}

module _ {cap : ℕ} {token : ℕ → ℕ} {joined : ℕ → ℕ → ℕ} {size : List ℕ → ℕ} (laws : FittingLaws cap token joined size) (node : ℕ → Node)
    (fitting : Fitting laws.fits node) where
  -- numbers that are the least measures of all nodes
  pub record LeastTable : Type 0 where
    pub table : List ℕ
    pub are : Leasts cap size node table

  -- a list on which a node has been visited
  pub record Visit (n : ℕ) (before : List ℕ) : Type 0 where
    pub after : List ℕ
    pub changed : Bool
    pub visited : Visited (at_most cap) (SomeAt cap size node) (NoMore cap token joined node) n before after changed

  unfoldable pub lower : (n : ℕ) (table : List ℕ) → Sound (at_most cap) (SomeAt cap size node) table → n < length table → Visit n table
  lower n table sound inside = by (own (measure_at cap table)) refl (ltb (own (measure_at cap table)) (measure_at cap table n)) refl
    where
      own : (ℕ → ℕ) → ℕ
      own = measure_by cap token joined (node n)

      by : (new : ℕ) → new ≡ own (measure_at cap table) → (less : Bool) → ltb (own (measure_at cap table)) (measure_at cap table n) ≡ less
          → Visit n table
      by new is true e =
          record {
            after = set table n new;
            changed = true;
            visited = visit_lowers laws fitting refl is sound inside (omega (arith, is, ltb-true (own (measure_at cap table)) (measure_at cap table n) e));
          }
      by new is false e =
          record {
            after = table;
            changed = false;
            visited = record {
              grown = grown_none table;
              closed = λ still. kept_closed laws refl is (omega (arith, is, ltb-false (own (measure_at cap table)) (measure_at cap table n) e));
            };
          }

  -- a list on which the nodes below a number have been visited
  pub record Steps (before : List ℕ) (i : ℕ) : Type 0 where
    pub after : List ℕ
    pub changed : Bool
    pub turning : Turning (at_most cap) (SomeAt cap size node) (NoMore cap token joined node) (Below i) before after changed

  unfoldable pub climb : (table : List ℕ) → Sound (at_most cap) (SomeAt cap size node) table → (i : ℕ) → i ≤ length table → Steps table i
  climb table sound zero inside =
      record { after = table; changed = false; turning = turning_none table (λ n below. omega (arith, below)) }
  climb table sound (suc i) inside = more (climb table sound i (omega arith))
    where
      more : Steps table i → Steps table (suc i)
      more so_far =
          let next = lower i so_far.after (grown_sound so_far.turning.grown sound) (omega (arith, so_far.turning.grown.long)) in
          record {
            after = next.after;
            changed = so_far.changed || next.changed;
            turning = turning_more so_far.turning next.visited (λ m below other. omega (arith, below, other));
          }

  module _ (count : ℕ) (beyond : (n : ℕ) → count ≤ n → node n ≡ Fail) (fresh : List ℕ) (caps : AllCap cap count fresh) where
    module _ (table : List ℕ) (settling : Settling (at_most cap) (SomeAt cap size node) fresh table) where
      unfoldable pub turn : Steps table count
      turn = climb table settling.sound count (omega (arith, caps.long, settling.long))

      -- the least measures by a turn, given those by what it changed
      unfoldable pub rested
          : ((after : List ℕ) → Settling (at_most cap) (SomeAt cap size node) fresh after → total after < total table → LeastTable)
          → (changed : Bool) → turn.changed ≡ changed → LeastTable
      rested more true e = more turn.after (settling_more settling turn.turning.grown) (changed_less turn.turning.grown e)
      rested more false e =
          record { table = turn.after; are = turned_leasts laws fitting beyond caps settling (turning_end turn.turning (λ n below. below)) e }

    -- turns until one changes nothing
    unfoldable pub rest : (left : ℕ) (table : List ℕ) → Settling (at_most cap) (SomeAt cap size node) fresh table → total table ≤ left → LeastTable
    rest zero table settling enough = rested table settling (λ after falling less. absurd (omega arith)) (turn table settling).changed refl
    rest (suc left) table settling enough =
        rested table settling (λ after falling less. rest left after falling (omega arith)) (turn table settling).changed refl

  -- the least measures of nodes of which none stands from a count on
  abbrev pub least : (count : ℕ) → ((n : ℕ) → count ≤ n → node n ≡ Fail) → LeastTable
  least count beyond =
      rest count beyond (replicate count cap) (all_cap cap count) (total (replicate count cap)) (replicate count cap)
      (settling_none (caps_sound (all_cap cap count))) (omega arith)

-- numbers that are the least lengths of all nodes, cut at 65,536
pub record LeastLengths (node : ℕ → Node) : Type 0 where
  pub lengths : List ℕ
  pub are : (n : ℕ) → LeastCut node (node n) 65536 (length_at lengths n)

unfoldable pub least_lengths : (node : ℕ → Node) (count : ℕ) → ((n : ℕ) → count ≤ n → node n ≡ Fail) → LeastLengths node
unfolding length_fits
least_lengths node count beyond = lengths_of (least length_fits node any count beyond)
  where
    any : Fitting length_fits.fits node
    any n = refl

    lengths_of : LeastTable length_fits node any → LeastLengths node
    lengths_of found = record { lengths = found.table; are = least_cut found.are }
