-- `listed::Workspace::add_parts` meets its contract: the book's line if it is refused, else those of its run.
use native.Mathlib.Omega.{arith}
use Rattle.listed.proofs.Answers.{records_within, read_is}
use Rattle.listed.proofs.Inputs.{refused_listed, run_listed}
use Rattle.listed.proofs.Workspace.add_parts.Goals as goal

pub returns-then-answer-ne-DONE : goal.returns-then-answer-ne-DONE
returns-then-answer-ne-DONE c =
    record {
      bytes = _;
      lists = refused_listed c.requires.parted c.requires.lent.cells c.compile-answer.ensures c.if-answer-ne-DONE.true;
      short = omega (arith, c.add_compiled.ensures.short);
      added = c.add_compiled.ensures.added;
    }

pub add_reading-requires-clause-records : goal.add_reading-requires-clause-records
add_reading-requires-clause-records c =
    λ done. rw c.read-reading.auto.tree (records_within _ _ _ c.read-reading.ensures done)

pub returns : goal.returns
returns c =
    let is = read_is _ _ _ c.read-reading.ensures c.requires.lent.slots c.requires.lent.records in
    record {
      bytes = _;
      lists =
          rw is
          (run_listed c.requires.parted c.requires.lent.cells c.compile-answer.ensures c.if-answer-ne-DONE.false);
      short = c.add_reading.ensures.short;
      added = c.add_reading.ensures.added;
    }
