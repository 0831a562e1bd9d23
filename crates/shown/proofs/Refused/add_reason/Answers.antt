-- `shown::Refused::add_reason` meets its contract: by the number, and 26 by what is due where the sheet goes wrong.
use Rattle.std.proofs.Common.{rules}
use Rattle.prints.proofs.Laws.{added_none, added_then}
use Rattle.shown.specs.Shown.{reason_text}
use Rattle.shown.proofs.Laws.{added_due, no_reason}
use Rattle.shown.proofs.Refused.add_reason.Goals as goal

pub returns-in-26 : goal.returns-in-26
unfolding reason_text
returns-in-26 c =
    rw c.in-26.is
    (added_then c.add.ensures (added_due _ _ c.front_of.ensures (c.requires.at_place c.in-26.is) c.add_due.ensures))

pub returns-in-27 : goal.returns-in-27
unfolding reason_text
returns-in-27 c = rw c.in-27.is c.add-in-27.ensures

pub returns-in-28 : goal.returns-in-28
unfolding reason_text
returns-in-28 c = rw c.in-28.is c.add-in-28.ensures

pub returns-in-29 : goal.returns-in-29
unfolding reason_text
returns-in-29 c = rw c.in-29.is c.add-in-29.ensures

pub returns-in_default : goal.returns-in_default
returns-in_default c = rw (no_reason _ c.args.self.now.number (search rules) (search rules) (search rules) (search rules)) (added_none _)
