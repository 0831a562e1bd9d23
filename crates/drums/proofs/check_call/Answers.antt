-- `drums::check_call` meets its contract, by each of its tests.
use mathlib.Core.Path.{refl, sym, ap}
use Rattle.std.proofs.lemmas.Result.{err_from_is_err_and}
use Rattle.book.specs.declared.Judged.{Judged}
use Rattle.drums.proofs.Calls.{not_done, call_form, call_none, call_done}
use Rattle.drums.proofs.check_call.Goals as goal

pub returns-in_err-judged : goal.returns-in_err-judged
returns-in_err-judged c =
    let p = err_from_is_err_and c.from_residual.result c.from_residual.ensures.1 in
    rw (p.1, p.2) (sym (call_form _ (sym c.in_err-judged.ensures) (not_done c.in_err-judged.field-0.0) _))

pub returns-then-number-ge-BOARD_DRUMS : goal.returns-then-number-ge-BOARD_DRUMS
returns-then-number-ge-BOARD_DRUMS c = sym (call_none _ (sym c.in_ok-judged.ensures.1) refl _ c.if-number-ge-BOARD_DRUMS.true)

pub returns : goal.returns
returns c = (
  c.in_ok-judged.ensures.0,
  sym (call_done _ (sym c.in_ok-judged.ensures.1) refl _ c.if-number-ge-BOARD_DRUMS.false),
  ap (λ (j : Judged). j.number) c.in_ok-judged.ensures.1,
)
