-- `moves::write_book` meets its contract: 21 where there is no room, else contents, body and names, laid into zeros one behind the other.
use mathlib.Core.Path.{◌≡◌, refl, sym, ap, ◌∙◌}
use borrow.Author.Rules.{rules}
use Prim.Native.Nat.{◌+◌, ◌*◌}
use native.Mathlib.Omega.{arith}
use lib.ListN.{length}
use lib.Seq.{take-length}
use Rattle.written.specs.Written.{out, written}
use Rattle.written.proofs.Handing.{no_room, room_enough_lem}
use Rattle.moves.specs.Moves.{laid_of}
use Rattle.moves.proofs.Laid.{laid_long, book_laid}
use Rattle.moves.proofs.write_book.Goals as goal
use Rattle.moves.proofs.write_book.Goals.{After-body-body}

-- the size of the bytes
long : (c : After-body-body)
    → length (laid_of c.args.book.now c.args.sizes.now c.args.names.now)
    ≡ 2 + 6 * length c.args.sizes.now + length c.body-body.result.now + length c.args.names.now
long c =
    let done = c.body-body.ensures.2 in
    omega (arith, laid_long c.args.book.now done c.args.sizes.now c.args.names.now, c.body-body.ensures.1)

pub returns-then-out-size : goal.returns-then-out-size
returns-then-out-size c = no_room _ _ (omega (arith, long (goal.at.returns-then-out-size c).After-body-body, c.if-out-size.true))

pub returns : goal.returns
returns c =
    let is = long (goal.at.returns c).After-body-body in
    let laid = book_laid c.args.book.now c.body-body.ensures.2 c.args.sizes.now c.args.names.now (length c.args.out.now) (search rules) refl
    (omega (arith, ap length c.body-body.ensures.0)) c.if-out-size.false c.put_contents.ensures
    (take-length c.body-body.result.now ∙ c.body-body.ensures.0) c.copy_bytes.ensures (take-length c.args.names.now) in
    room_enough_lem _ _ (omega (arith, is, c.if-out-size.false)) ∙ (λ i. out (written 0 (is i) 0) (sym (c.copy_bytes-2.ensures ∙ laid) i))
