-- `stands::Stand::move_on` meets its contract, by how the reading stands.
use Rattle.stands.proofs.Stand.move_on.Goals as goal

pub returns-in-NameDue : goal.returns-in-NameDue
returns-in-NameDue c = rw c.in-NameDue.is c.begin_name.ensures

pub returns-in-InName : goal.returns-in-InName
returns-in-InName c = rw c.in-InName.is c.in_name.ensures

pub returns-in-EqualsDue : goal.returns-in-EqualsDue
returns-in-EqualsDue c = rw c.in-EqualsDue.is c.after_name.ensures

pub returns-in-Due : goal.returns-in-Due
returns-in-Due c = rw c.in-Due.is c.factor_due.ensures

pub returns-in-InWord : goal.returns-in-InWord
returns-in-InWord c = rw c.in-InWord.is c.in_word.ensures

pub returns-in-After : goal.returns-in-After
returns-in-After c = rw c.in-After.is c.may_star.ensures

pub returns-in-Done : goal.returns-in-Done
returns-in-Done c = rw c.in-Done.is c.follow.ensures
