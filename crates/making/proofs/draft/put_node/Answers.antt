-- `making::draft::put_node` meets its contract: three numbers, one after the other.
use mathlib.Core.Path.{ap, ◌∙◌}
use native.Mathlib.Omega.{arith}
use borrow.Author.Rules.{rules}
use Prim.Native.Nat.{◌<◌}
use lib.ListN.{get_or}
use lib.Seq.{sets}
use Rattle.words.specs.Words.{word_bytes}
use Rattle.making.specs.Bytes.{largest}
use Rattle.making.proofs.Numbers.{largest_at, fields_are}
use Rattle.making.proofs.Noding.{three_stored}
use Rattle.making.proofs.draft.put_node.Goals as goal

pub put_u16-requires-2 : goal.put_u16-requires-2
put_u16-requires-2 c =
    let room = c.requires.0 in
    let small : get_or c.fields-words.result 1 0 < 65536 = omega (arith, largest_at c.fields-words.result 1, ap largest c.fields-words.ensures, c.requires.1) in
    (search (rules, room), small)

pub put_u16-requires-3 : goal.put_u16-requires-3
put_u16-requires-3 c =
    let room = c.requires.0 in
    let small : get_or c.fields-words.result 2 0 < 65536 = omega (arith, largest_at c.fields-words.result 2, ap largest c.fields-words.ensures, c.requires.1) in
    (search (rules, room), small)

pub returns : goal.returns
returns c =
    three_stored _ _ _ _ _ c.put_u16.ensures c.put_u16-2.ensures c.put_u16-3.ensures
    ∙ ap (λ (l : _). sets c.args.book.now c.args.at (word_bytes l)) (fields_are c.args.node c.fields-words.ensures)
