-- `told::Named::name` meets its contract: a whole name stands where the kind's name begins.
use native.Mathlib.Omega.{arith}
use mathlib.Core.Path.{sym, ap, ◌∙◌}
use Rattle.book.specs.Form.{names_at}
use Rattle.told.proofs.Laws.{NamesFrom, name_whole, name_within, name_ends, name_taken}
use Rattle.told.proofs.Named.name.Goals as goal
use Rattle.told.proofs.Named.name.Goals.{After-names_at}

stands : (c : After-names_at) → NamesFrom c.bytes-bytes.result.now c.args.kind c.names_at.result
stands c =
    record {
      book = rw c.bytes-bytes.ensures c.self.invariant;
      below = rw (c.bytes-bytes.ensures ∙ c.self.view_is) c.requires;
      begin = c.names_at.ensures ∙ ap names_at (sym c.bytes-bytes.ensures);
    }

pub name_at-at-requires : goal.name_at-at-requires
name_at-at-requires c = name_within (stands c)

pub bounds-bytes-at : goal.bounds-bytes-at
bounds-bytes-at c =
    omega (arith, c.name_at-at.ensures, (name_whole (stands (goal.at.bounds-bytes-at c).After-names_at)).within)

pub overflow_add-result : goal.overflow_add-result
overflow_add-result c = omega (arith, name_ends (stands (goal.at.overflow_add-result c).After-names_at) c.name_at-at.ensures)

pub overflow_add-result-2 : goal.overflow_add-result-2
overflow_add-result-2 c =
    omega (arith, name_ends (stands (goal.at.overflow_add-result-2 c).After-names_at) c.name_at-at.ensures)

pub overflow_add-result-3 : goal.overflow_add-result-3
overflow_add-result-3 c =
    omega (arith, name_ends (stands (goal.at.overflow_add-result-3 c).After-names_at) c.name_at-at.ensures)

pub slice_bounds-result-end : goal.slice_bounds-result-end
slice_bounds-result-end c = name_ends (stands (goal.at.slice_bounds-result-end c).After-names_at) c.name_at-at.ensures

pub returns : goal.returns
returns c =
    name_taken (stands (goal.at.returns c).After-names_at) c.name_at-at.ensures
    ∙ rw (c.bytes-bytes.ensures ∙ c.self.view_is)
