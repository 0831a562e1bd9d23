-- `moves::first_names` meets its contract: the first names of the house list are a part of its bytes.
use native.Mathlib.Omega.{arith}
use mathlib.Core.Path.{sym, ap, ◌∙◌}
use lib.ListN.{length, take}
use Prim.Native.Nat.{ℕ}
use lib.Seq.{length-take-le}
use Rattle.names.specs.Names.{name_at}
use Rattle.moves.proofs.Laid.{end_within, end_small, names_part, names_size}
use Rattle.moves.proofs.first_names.Goals as goal

pub name_at-requires : goal.name_at-requires
name_at-requires c = rw c.kinds.ensures.kinds (end_within c.args.book.now c.kinds.ensures.form c.args.house.now c.requires)

pub slice_bounds-result-end : goal.slice_bounds-result-end
slice_bounds-result-end c =
    sym
    (length-take-le c.name_at.result c.args.house.now
    (rw (c.name_at.ensures, c.kinds.ensures.kinds) (end_within c.args.book.now c.kinds.ensures.form c.args.house.now c.requires)))

pub returns : goal.returns
returns c =
    let args = c.args in
    let form = c.kinds.ensures.form in
    let is = ap (λ (n : ℕ). take n args.house.now) (c.name_at.ensures ∙ ap (name_at args.house.now 0) c.kinds.ensures.kinds)
    ∙ names_part args.book.now form args.house.now c.requires in
    (is, omega (arith, ap length is, names_size args.book.now form args.house.now c.requires, end_small args.book.now form args.house.now c.requires))
