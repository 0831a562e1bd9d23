-- `stands::Stand::add_due` meets its contract, by how the reading stands.
use Rattle.stands.specs.Stands.{due_text}
use Rattle.stands.proofs.Stand.add_due.Goals as goal

pub returns-in-NameDue : goal.returns-in-NameDue
unfolding due_text
returns-in-NameDue c = rw c.in-NameDue.is c.add.ensures

pub returns-in-InName : goal.returns-in-InName
unfolding due_text
returns-in-InName c = rw c.in-InName.is c.add_in_name.ensures

pub returns-in-EqualsDue : goal.returns-in-EqualsDue
unfolding due_text
returns-in-EqualsDue c = rw c.in-EqualsDue.is c.add-in-EqualsDue.ensures

pub returns-in-Due : goal.returns-in-Due
returns-in-Due c = rw c.in-Due.is c.add_factor.ensures

pub returns-in-InWord : goal.returns-in-InWord
returns-in-InWord c = rw c.in-InWord.is c.add_in_word.ensures

pub returns-in-After : goal.returns-in-After
unfolding due_text
returns-in-After c = rw c.in-After.is c.add_further.ensures

pub returns-in-Done : goal.returns-in-Done
unfolding due_text
returns-in-Done c = rw c.in-Done.is c.add_further-in-Done.ensures
