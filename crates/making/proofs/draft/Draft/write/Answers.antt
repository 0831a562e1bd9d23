-- `making::draft::Draft::write` meets its contract.
use mathlib.Core.Path.{ap}
use borrow.Author.Rules.{rules}
use lib.ListN.{length}
use Rattle.making.proofs.Numbers.{start_small}
use Rattle.resolving.specs.Writing.{last_of}
use Rattle.making.specs.Bytes.{Down}
use Rattle.making.proofs.Whole.{book-written}
use Rattle.making.proofs.draft.Draft.write.Goals as goal

pub put_u16-requires-2 : goal.put_u16-requires-2
put_u16-requires-2 c =
    let room = c.requires.2 in
    (search (rules, room), start_small _ c.self.invariant)

pub returns : goal.returns
returns c =
    book-written _ (ap (λ (d : Down). length d.nodes) c.self.view_is) (ap (λ (d : Down). length d.kinds) c.self.view_is)
    (ap (λ (d : Down). last_of d.rows 0) c.self.view_is) c.contents_size-at.ensures c.requires.3 c.requires.0 c.requires.2
    c.put_book_contents.ensures c.put_u16.ensures c.put_u16-2.ensures c.put_nodes.ensures c.put_names.ensures
