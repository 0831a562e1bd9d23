-- `told::Named::add_node_text` meets its contract, by the type.
use Rattle.told.specs.Told.{node_text}
use Rattle.told.proofs.Laws.{token_kind}
use Rattle.told.proofs.Named.add_node_text.Goals as goal

pub add_token-requires : goal.add_token-requires
add_token-requires c = token_kind _ c.requires c.in-Token.is

pub returns-in-Fail : goal.returns-in-Fail
unfolding node_text
returns-in-Fail c = rw c.in-Fail.is c.add.ensures

pub returns-in-Empty : goal.returns-in-Empty
unfolding node_text
returns-in-Empty c = rw c.in-Empty.is c.add-in-Empty.ensures

pub returns-in-Either : goal.returns-in-Either
unfolding node_text
returns-in-Either c = rw c.in-Either.is c.add_pair.ensures

pub returns-in-Then : goal.returns-in-Then
unfolding node_text
returns-in-Then c = rw c.in-Then.is c.add_pair-in-Then.ensures

pub returns-in-Tagged : goal.returns-in-Tagged
unfolding node_text
returns-in-Tagged c = rw c.in-Tagged.is c.add_pair-in-Tagged.ensures

pub returns-in-Ref : goal.returns-in-Ref
unfolding node_text
returns-in-Ref c = rw c.in-Ref.is c.add_ref.ensures
