-- `outline::word` meets its contract: no letter stands there, there are too many, or a word's node is put down.
use native.Mathlib.Omega.{arith}
use Rattle.outline.proofs.Factors.{word_none, word_long, word_read}
use Rattle.outline.proofs.word.Goals as goal

pub returns-then-end-at : goal.returns-then-end-at
returns-then-end-at c =
    word_none c.requires.0 c.requires.1 c.requires.2 (rw c.if-end-at.true at c.letters_end-end.ensures.past)

pub returns-then-end-at-gt-LETTERS : goal.returns-then-end-at-gt-LETTERS
returns-then-end-at-gt-LETTERS c = word_long c.letters_end-end.ensures (omega arith)

pub returns : goal.returns
returns c =
    word_read
    c.letters_end-end.ensures
    (omega (arith, c.letters_end-end.ensures.low))
    (omega arith)
    c.word_node-node.ensures
    c.put_node.ensures
