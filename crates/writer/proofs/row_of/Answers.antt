-- `writer::row_of` meets its contract: the row by the table's sets is the row of the table's marks.
use mathlib.Core.Path.{◌≡◌, refl, sym, ◌∙◌}
use mathlib.Core.Bool.{Bool, true, false, cond}
use Prim.Native.Nat.{ℕ}
use native.Mathlib.Omega.{arith}
use mir.Val.{bool_byte}
use Rattle.kinds.specs.Kinds.{has?}
use lib.ListN.{get_or}
use Rattle.rules.proofs.Flat.{nothing_known, flat_at}
use Rattle.writer.proofs.Writing.{left_small, row_is}
use Rattle.writer.proofs.row_of.Goals as goal
use Rattle.writer.proofs.row_of.Goals.{then-has, else-has}

pub bounds-table-left_of : goal.bounds-table-left_of
bounds-table-left_of c =
    omega (arith, c.left_of.ensures, left_small _ c.requires.form c.requires.n_lt_count c.node-node.ensures, c.requires.count_in_bounds)

pub offset_bounds-table-left_of : goal.offset_bounds-table-left_of
offset_bounds-table-left_of c =
    omega (
      arith,
      c.left_of.ensures,
      left_small _ c.requires.form c.requires.n_lt_count c.node-node.ensures,
      c.requires.count_in_bounds,
      c.well_formed,
    )

-- a test as a byte
byte_is : (b : Bool) → bool_byte b ≡ cond {A = ℕ} b 1 0
byte_is true = refl
byte_is false = refl

pub returns : goal.returns
returns c =
    let skip : c.if-has.skip ≡ cond (has? (get_or c.args.table.now c.left_of.result nothing_known).nullable 0) 4 3 =
    elim c.if-has.branch [
      | then-has w ↦ w.skip-is ∙ rw (sym c.has.ensures ∙ w.if-has.true) refl
      | else-has w ↦ w.skip-is ∙ rw (sym c.has.ensures ∙ w.if-has.false) refl
    ]
    in
    row_is _ c.requires.form c.requires.n_lt_count c.node-node.ensures _ c.left_of.ensures (sym (flat_at c.args.table.now _)) (sym (flat_at c.args.table.now _))
    c.one_cell.ensures
    c.far_cell.ensures
    skip
    (c.from.ensures ∙ byte_is _ ∙ rw c.has-2.ensures refl)
