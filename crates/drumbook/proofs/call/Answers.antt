-- `call` meets its contract: the drum of its number is called and stored, or no drum is touched.
use Rattle.std.proofs.lemmas.List.{get_or_default}
use Rattle.drums.specs.Drums.{idle_drum}
use Rattle.board.proofs.Calls.{call_stored, call_absent}
use Rattle.drumbook.proofs.call.Goals as goal

pub returns-then-at-drums : goal.returns-then-at-drums
returns-then-at-drums g c =
    λ made_of kind says.
    call_stored made_of c.args.plan.now c.args.drums.now c.args.number kind idle_drum c.step-made.result c.if-at-drums.true
    (says c.step-made.result (_, c.step-made.ensures, get_or_default _ _ _ idle_drum c.if-at-drums.true))

pub returns-else-at-drums : goal.returns-else-at-drums
returns-else-at-drums g c =
    λ made_of kind says.
    call_absent made_of c.args.plan.now c.args.drums.now c.args.number kind c.absent.result c.if-at-drums.false c.absent.ensures
