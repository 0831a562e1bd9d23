-- `making::draft::Draft::hand` meets its contract.
use mathlib.Core.Path.{ap}
use native.Mathlib.Omega.{arith}
use lib.ListN.{length}
use Rattle.making.specs.Bytes.{Down}
use Rattle.making.proofs.Whole.{no_room, has_room}
use Rattle.making.proofs.draft.Draft.hand.Goals as goal

pub returns-then-book-size : goal.returns-then-book-size
returns-then-book-size c =
    let count = ap (λ (d : Down). length d.nodes) c.self.view_is in
    no_room c.args.self.now (omega (arith, c.contents_size.ensures, c.names_size-names.ensures.size, count)) c.if-book-size.true c.refuse.ensures

pub returns : goal.returns
returns c =
    let count = ap (λ (d : Down). length d.nodes) c.self.view_is in
    has_room c.args.self.now (omega (arith, c.contents_size.ensures, c.names_size-names.ensures.size, count)) c.if-book-size.false
    c.fill.ensures.len c.write.ensures
