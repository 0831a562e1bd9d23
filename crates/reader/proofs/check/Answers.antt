-- `reader::check` meets its contract, by each of its tests.
use mathlib.Core.Path.{ap}
use Rattle.std.proofs.lemmas.Result.{err_from_is_err_and}
use Rattle.book.specs.declared.Judged.{Judged}
use Rattle.reader.proofs.Settles.{read_barred, read_long, read_slotless}
use Rattle.reader.proofs.check.Goals as goal

pub returns-in_err-judged : goal.returns-in_err-judged
returns-in_err-judged c =
    let p = err_from_is_err_and c.from_residual.result c.from_residual.ensures.1 in
    rw (p.1, p.2) (λ room. read_barred _ _ _ room _ c.in_err-judged.ensures)

pub returns-then-run-gt-MOST_EVENTS : goal.returns-then-run-gt-MOST_EVENTS
returns-then-run-gt-MOST_EVENTS c =
    λ room. read_long _ _ _ room (ap (λ (j : Judged). j.number) c.in_ok-judged.ensures.1) c.if-run-gt-MOST_EVENTS.true

pub returns-then-slots-eq0 : goal.returns-then-slots-eq0
returns-then-slots-eq0 c =
    λ room.
    read_slotless _ _ _ room (ap (λ (j : Judged). j.number) c.in_ok-judged.ensures.1) c.if-run-gt-MOST_EVENTS.false c.if-slots-eq0.true
