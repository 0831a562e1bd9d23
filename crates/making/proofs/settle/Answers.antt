-- `making::settle` meets its contract.
use Rattle.making.specs.Settled.{no_sheet}
use Rattle.making.proofs.Settling.{read_good, name_again, many_nodes, rows_fit, many_kinds, no_kind, all_settled, settled_writes}
use Rattle.making.proofs.settle.Goals as goal

pub returns-in-Err : goal.returns-in-Err
returns-in-Err c = no_sheet c.in-Err.ensures.read

pub returns-in-Some : goal.returns-in-Some
returns-in-Some c = name_again (read_good c.in-Ok.ensures) c.in-Some.ensures

pub returns-then-outline-gt-MOST : goal.returns-then-outline-gt-MOST
returns-then-outline-gt-MOST c = many_nodes (read_good c.in-Ok.ensures) c.in_default.ensures c.if-outline-gt-MOST.true

pub slice_bounds-rows-end : goal.slice_bounds-rows-end
slice_bounds-rows-end c =
    rows_fit (read_good c.in-Ok.ensures) c.in_default.ensures c.if-outline-gt-MOST.false c.requires.0 c.requires.1

pub returns-in_default-collect : goal.returns-in_default-collect
returns-in_default-collect c =
    many_kinds (read_good c.in-Ok.ensures) c.in_default.ensures c.if-outline-gt-MOST.false c.requires.0 c.requires.1
    c.in_default-collect.ensures.told

pub returns-then-many-eq0 : goal.returns-then-many-eq0
returns-then-many-eq0 c =
    no_kind (read_good c.in-Ok.ensures) c.in_default.ensures c.if-outline-gt-MOST.false c.requires.0 c.requires.1 c.requires.2
    c.in-Some-collect.ensures.told c.if-many-eq0.true

pub invariant_of-result : goal.invariant_of-result
invariant_of-result c =
    settled_writes (read_good c.in-Ok.ensures) c.in_default.ensures c.if-outline-gt-MOST.false c.requires.0 c.requires.1 c.requires.2
    c.in-Some-collect.ensures.told c.if-many-eq0.false

pub returns : goal.returns
returns c =
    all_settled (read_good c.in-Ok.ensures) c.in_default.ensures c.if-outline-gt-MOST.false c.requires.0 c.requires.1 c.requires.2
    c.in-Some-collect.ensures.told c.if-many-eq0.false
