-- `rules::ruled` meets its contract: an arm for each type of the table.
use mathlib.Core.Path.{refl, sym, ap, ap₂, ◌∙◌}
use mathlib.Core.Logic.{⊎_elim}
use native.Mathlib.Omega.{arith}
use Rattle.rules.specs.Step.{either_facts, then_facts, ruled_of, kind_of}
use Rattle.rules.proofs.Flat.{flat_at}
use Rattle.rules.proofs.ruled.Goals as goal

pub single-requires : goal.single-requires
single-requires c = omega (arith, c.requires.node_bound, ap kind_of c.in-Token.is)

pub returns-in-Fail : goal.returns-in-Fail
unfolding ruled_of
returns-in-Fail c = rw c.in-Fail.is refl

pub returns-in-Empty : goal.returns-in-Empty
unfolding ruled_of
returns-in-Empty c = rw (c.in-Empty.is, c.every.ensures, c.every-in-Empty.ensures) refl

pub returns-in-Token : goal.returns-in-Token
unfolding ruled_of
returns-in-Token c = rw (c.in-Token.is, c.every-in-Token.ensures, c.single.ensures) refl

pub returns-in-Either : goal.returns-in-Either
unfolding ruled_of
returns-in-Either c = rw c.in-Either.is (c.either_facts.ensures ∙ ap₂ either_facts (sym (flat_at _ _)) (sym (flat_at _ _)))

pub returns-in-Then : goal.returns-in-Then
unfolding ruled_of
returns-in-Then c = rw c.in-Then.is (c.then_facts.ensures ∙ ap₂ then_facts (sym (flat_at _ _)) (sym (flat_at _ _)))

pub returns-in-Tagged : goal.returns-in-Tagged
unfolding ruled_of
returns-in-Tagged c =
    ⊎_elim (λ (_, tagged). rw tagged (sym (flat_at _ _))) (λ ref. rw ref (sym (flat_at _ _))) c.in-Tagged.is
