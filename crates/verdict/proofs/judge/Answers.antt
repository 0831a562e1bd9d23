-- `verdict::judge` meets its contract: each test's refusal, or the book.
use Rattle.verdict.specs.declared.Refusal.TheVariants.{Form}
use Rattle.verdict.specs.Judges.{passes}
use Rattle.verdict.proofs.Answers.{handed_on, answered_malformed, facts_known}
use Rattle.verdict.proofs.judge.Goals as goal

pub returns-in_err-read : goal.returns-in_err-read
returns-in_err-read c =
    handed_on _ _ _ (Form c.in_err-read.field-0.0) c.from_residual.ensures.1
    (answered_malformed c.in_err-read.field-0.0 c.in_err-read.ensures)

pub returns-in_err-check_reached : goal.returns-in_err-check_reached
returns-in_err-check_reached c =
    handed_on _ _ _ c.in_err-check_reached.field-0.0 c.from_residual-in_err-check_reached.ensures.1
    (rw c.in_ok-read.ensures.0 at c.in_err-check_reached.ensures)

pub of-known-requires : goal.of-known-requires
of-known-requires c =
    let same = c.in_ok-read.ensures.0 in
    rw same (facts_known _ _ c.in_ok-read.ensures.1 c.requires c.least_facts.auto.table (rw same at c.least_facts.ensures))

pub check_start-requires : goal.check_start-requires
check_start-requires c = rw c.of-known.ensures c.in_ok-check_reached.ensures

pub returns-in_err-check_start : goal.returns-in_err-check_start
returns-in_err-check_start c =
    handed_on _ _ _ c.in_err-check_start.field-0.0 c.from_residual-in_err-check_start.ensures.1
    (rw (c.of-known.ensures, c.in_ok-read.ensures.0) at c.in_err-check_start.ensures)

pub check_conflicts-requires : goal.check_conflicts-requires
check_conflicts-requires c = record { reached = rw c.of-known.ensures c.in_ok-check_reached.ensures; fruitful = c.in_ok-check_start.ensures }

pub returns-in_err-check_conflicts : goal.returns-in_err-check_conflicts
returns-in_err-check_conflicts c =
    handed_on _ _ _ c.in_err-check_conflicts.field-0.0 c.from_residual-in_err-check_conflicts.ensures.1
    (rw (c.of-known.ensures, c.in_ok-read.ensures.0) at c.in_err-check_conflicts.ensures)

pub returns : goal.returns
returns c =
    let same = c.in_ok-read.ensures.0 in
    let known = facts_known _ _ c.in_ok-read.ensures.1 c.requires c.least_facts.auto.table (rw same at c.least_facts.ensures) in (
      same,
      record {
        judges = passes known.good.form (rw same at c.in_ok-check_reached.ensures)
            (rw (c.of-known.ensures, same) at c.in_ok-check_start.ensures)
            (rw (c.of-known.ensures, same) at c.in_ok-check_conflicts.ensures);
        known = λ _. known;
      },
    )
