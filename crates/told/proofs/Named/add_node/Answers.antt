-- `told::Named::add_node` meets its contract: four parts, one after the other.
use mathlib.Core.Path.{◌∙◌, ap}
use mathlib.Core.List.{List}
use Prim.Native.Nat.{ℕ}
use Rattle.book.specs.Form.{book_of}
use Rattle.prints.proofs.Laws.{added_then}
use Rattle.told.specs.Told.{node_line}
use Rattle.told.proofs.Laws.{node_proper}
use Rattle.told.proofs.Named.add_node.Goals as goal

pub add_node_text-requires : goal.add_node_text-requires
add_node_text-requires c =
    rw (← c.self.view_is, c.node.ensures)
    (node_proper c.self.invariant _ (rw c.self.view_is c.requires))

pub returns : goal.returns
unfolding node_line
returns c =
    let node = c.node.ensures ∙ ap (λ (book : List ℕ). (book_of book).node c.args.n) c.self.view_is in
    rw (← node)
    (added_then (added_then (added_then c.add.ensures c.add_spaced.ensures) c.add_node_text.ensures) c.add-2.ensures)
