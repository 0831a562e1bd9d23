-- `resolving::collect_word` meets its contract.
use mathlib.Core.Path.{sym, ◌∙◌}
use Rattle.resolving.proofs.Words.{no_word, names_rule, seen_kind, no_room, put_down, found_known, found_unknown}
use Rattle.resolving.proofs.collect_word.Goals as goal

pub returns-in_default-clause-told : goal.returns-in_default-clause-told
returns-in_default-clause-told c = no_word _ _ _ _ _ _ c.in_default.not-Token c.requires.1

pub returns-then-is_some-clause-told : goal.returns-then-is_some-clause-told
returns-then-is_some-clause-told c =
    rw c.in-Token.is
    (names_rule _ _ _ _ _ _ c.requires.1 (rw c.word_at-word.ensures at (found_known _ _ _ c.find_rule.ensures (sym c.is_some.ensures ∙ c.if-is_some.true))))

pub returns-then-is_some-2-clause-told : goal.returns-then-is_some-2-clause-told
returns-then-is_some-2-clause-told c =
    rw c.in-Token.is
    (seen_kind _ _ _ _ _ _ c.requires.1 (rw c.word_at-word.ensures at (found_known _ _ _ c.find_kind.ensures (sym c.is_some-2.ensures ∙ c.if-is_some-2.true))))

pub returns-then-many-eq-KINDS-clause-told : goal.returns-then-many-eq-KINDS-clause-told
returns-then-many-eq-KINDS-clause-told c =
    rw c.in-Token.is
    (no_room _ _ _ _ _ _ c.requires.1
    (rw c.word_at-word.ensures at (found_unknown _ _ _ c.find_rule.ensures (sym c.is_some.ensures ∙ c.if-is_some.false)))
    (rw c.word_at-word.ensures at (found_unknown _ _ _ c.find_kind.ensures (sym c.is_some-2.ensures ∙ c.if-is_some-2.false)))
    c.requires.0 c.if-many-eq-KINDS.true)

pub returns-clause-told : goal.returns-clause-told
returns-clause-told c =
    rw c.in-Token.is
    (put_down _ _ _ _ _ _ c.requires.1
    (rw c.word_at-word.ensures at (found_unknown _ _ _ c.find_rule.ensures (sym c.is_some.ensures ∙ c.if-is_some.false)))
    (rw c.word_at-word.ensures at (found_unknown _ _ _ c.find_kind.ensures (sym c.is_some-2.ensures ∙ c.if-is_some-2.false)))
    c.requires.0 c.if-many-eq-KINDS.false)
