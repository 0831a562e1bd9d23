-- `names::name_good` meets its contract: a name is good if it is whole and new.
use mathlib.Core.Path.{sym, ◌∙◌}
use Rattle.names.proofs.Places.{whole, bad_name, good_if_new}
use Rattle.names.proofs.name_good.Goals as goal

pub name_new-requires : goal.name_new-requires
name_new-requires c = (c.requires.0, (whole _ _ (sym c.name_whole.ensures ∙ c.if-name_whole.true)).within)

pub returns-then-name_whole : goal.returns-then-name_whole
returns-then-name_whole c = c.name_new.ensures ∙ good_if_new _ _ _ c.requires.0 (sym c.name_whole.ensures ∙ c.if-name_whole.true)

pub returns-else-name_whole : goal.returns-else-name_whole
returns-else-name_whole c =
    c.if-name_whole.false ∙ sym (bad_name _ _ _ c.requires.0 (sym c.name_whole.ensures ∙ c.if-name_whole.false))
