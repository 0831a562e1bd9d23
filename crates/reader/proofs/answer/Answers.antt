-- `reader::answer` meets its contract: where nothing stands against it, the run's answer, settled.
use mathlib.Core.Path.{sym, ◌∙◌}
use Rattle.reader.specs.Reads.{run_of}
use Rattle.reader.proofs.Settles.{read_runs}
use Rattle.reader.proofs.answer.Goals as goal

pub returns-in-Ok : goal.returns-in-Ok
unfolding run_of
returns-in-Ok c =
    let passed = c.in-Ok.ensures in
    c.settle.ensures ∙ (rw passed.0 at c.events.ensures) ∙ sym (read_runs _ _ _ _ passed.1 passed.2 passed.3)
